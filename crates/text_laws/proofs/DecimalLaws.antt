-- Different numbers have different decimal digits, and digits end where another octet follows.
-- By the number that digits write.
use mathlib.Core.Path.{◌≡◌, refl, ap, ap₂, sym, ◌∙◌}
use mathlib.Core.Bool.{Bool, true, false, cond}
use mathlib.Core.List.{List, [], ◌∷◌, ◌++◌, head-eq_of_cons-eq, tail-eq_of_cons-eq}
use Prim.Native.Nat.{ℕ, zero, suc, ◌+◌, ◌-◌, ◌*◌, ◌/◌, ◌%◌, ◌^◌, ◌<◌, ◌≤◌}
use native.Mathlib.Nat.{mod-lt, pow-suc}
use native.Mathlib.Omega.{arith}
use lib.Dec.{ltb, lit<}
use borrow.Author.Tests.{lt-ltb, ltb-true}
use Rattle.text.specs.Text.{digit, decimal_most, decimal_in, decimal}

-- every octet is a digit, or a `-`
abbrev pub Digits : List ℕ → Type 0
Digits [] = Unit {0}
Digits (d ∷ ds) = (0x2D ≤ d) × (d < 0x3A) × Digits ds

digits-snoc : (ds : List ℕ) (d : ℕ) → Digits ds → 0x2D ≤ d → d < 0x3A → Digits (ds ++ (d ∷ []))
digits-snoc [] d h k l = (k, l, tt)
digits-snoc (x ∷ ds) d h k l = (h.0, h.1, digits-snoc ds d h.2 k l)

digit-is : (d : ℕ) → d < 10 → digit d ≡ 0x30 + d
digit-is d h = rw (lt-ltb d 10 h)

-- the number that digits write
abbrev value : ℕ → List ℕ → ℕ
value acc [] = acc
value acc (d ∷ ds) = value (10 * acc + (d - 0x30)) ds

value-snoc : (acc : ℕ) (ds : List ℕ) (d : ℕ) → value acc (ds ++ (d ∷ [])) ≡ 10 * value acc ds + (d - 0x30)
value-snoc acc [] d = refl
value-snoc acc (x ∷ ds) d = value-snoc (10 * acc + (x - 0x30)) ds d

-- one digit more
abbrev longer : Bool → (m n : ℕ) → List ℕ
longer b m n = cond b (digit n ∷ []) (decimal_in m (n / 10) ++ (digit (n % 10) ∷ []))

decimal-digits : (m n : ℕ) → Digits (decimal_in m n)
unfolding decimal_in
decimal-digits zero n = tt
decimal-digits (suc m) n = go (ltb n 10) refl (decimal-digits m (n / 10))
  where
    go : (b : Bool) → ltb n 10 ≡ b → Digits (decimal_in m (n / 10)) → Digits (longer b m n)
    go true e h = let l = ltb-true n 10 e in let d = digit-is n l in (omega arith, omega arith, tt)
    go false e h =
        let l : n % 10 < 10 = mod-lt n (lit< tt) in
        let d = digit-is (n % 10) l in
        digits-snoc (decimal_in m (n / 10)) (digit (n % 10)) h (omega arith) (omega arith)

decimal-value : (m n : ℕ) → n < 10 ^ suc m → value 0 (decimal_in (suc m) n) ≡ n
unfolding decimal_in
decimal-value zero n h = rw (lt-ltb n 10 h) (omega arith)
decimal-value (suc m) n h = go (ltb n 10) refl (decimal-value m (n / 10) (omega (arith, pow-suc 10 (suc m))))
  where
    go : (b : Bool) → ltb n 10 ≡ b → value 0 (decimal_in (suc m) (n / 10)) ≡ n / 10
        → value 0 (longer b (suc m) n) ≡ n
    go true e h = let q = digit-is n (ltb-true n 10 e) in omega arith
    go false e h =
        value-snoc 0 (decimal_in (suc m) (n / 10)) (digit (n % 10))
        ∙ (let q = digit-is (n % 10) (mod-lt n (lit< tt)) in omega arith)

-- numbers of at most 20 digits, as every 64-bit number is, are told apart
abbrev pub Fits : ℕ → Type 0
Fits n = n < 10 ^ 20

pub decimal-inj : (m n : ℕ) → Fits m → Fits n → decimal m ≡ decimal n → m ≡ n
unfolding decimal
decimal-inj m n h k e = sym (decimal-value 19 m h) ∙ ap (value 0) e ∙ decimal-value 19 n k

-- digits before what is no digit: the two parts are told apart
pub cut : (xs ys : List ℕ) (a b : ℕ) (s t : List ℕ) → Digits xs → Digits ys → a < 0x2D → b < 0x2D
    → xs ++ (a ∷ s) ≡ ys ++ (b ∷ t) → (xs ≡ ys) × (s ≡ t)
cut [] [] a b s t h k p q e = (refl, tail-eq_of_cons-eq e)
cut [] (y ∷ ys) a b s t h k p q e = absurd (omega (arith, k.0, head-eq_of_cons-eq e))
cut (x ∷ xs) [] a b s t h k p q e = absurd (omega (arith, h.0, head-eq_of_cons-eq e))
cut (x ∷ xs) (y ∷ ys) a b s t h k p q e =
    let r = cut xs ys a b s t h.2 k.2 p q (tail-eq_of_cons-eq e) in
    (ap₂ ◌∷◌ (head-eq_of_cons-eq e) r.0, r.1)

pub digits_of : (n : ℕ) → Digits (decimal n)
unfolding decimal
digits_of n = decimal-digits decimal_most n

-- a number, and an octet that is no digit
pub number-apart : (m n a b : ℕ) (s t : List ℕ) → Fits m → Fits n → a < 0x2D → b < 0x2D
    → decimal m ++ (a ∷ s) ≡ decimal n ++ (b ∷ t) → (m ≡ n) × (s ≡ t)
number-apart m n a b s t h k p q e =
    let r = cut (decimal m) (decimal n) a b s t (digits_of m) (digits_of n) p q e in
    (decimal-inj m n h k r.0, r.1)

-- a digit before others: what a number's text begins with
abbrev pub Leads : List ℕ → Type 0
Leads s = (d : ℕ) × (ds : List ℕ) × (s ≡ d ∷ ds) × (0x30 ≤ d) × (d < 0x3A)

-- the first octet of a number is a digit, so a `-` is none
first-digit : (m n : ℕ) → Leads (decimal_in (suc m) n)
unfolding decimal_in
first-digit zero n = go (ltb n 10) refl
  where
    go : (b : Bool) → ltb n 10 ≡ b → Leads (cond b (digit n ∷ []) (digit (n % 10) ∷ []))
    go true e =
        let q = digit-is n (ltb-true n 10 e) in
        let l = ltb-true n 10 e in
        (digit n, [], refl, omega arith, omega arith)
    go false e =
        let l : n % 10 < 10 = mod-lt n (lit< tt) in
        let q = digit-is (n % 10) l in
        (digit (n % 10), [], refl, omega arith, omega arith)
first-digit (suc m) n = go (ltb n 10) refl (first-digit m (n / 10))
  where
    go : (b : Bool) → ltb n 10 ≡ b → Leads (decimal_in (suc m) (n / 10)) → Leads (longer b (suc m) n)
    go true e ih =
        let q = digit-is n (ltb-true n 10 e) in
        let l = ltb-true n 10 e in
        (digit n, [], refl, omega arith, omega arith)
    go false e ih =
        let more = ap (λ (z : List ℕ). z ++ (digit (n % 10) ∷ [])) ih.2 in
        (ih.0, ih.1 ++ (digit (n % 10) ∷ []), more, ih.3, ih.4)

pub leading : (n : ℕ) → Leads (decimal n)
unfolding decimal
leading n = first-digit 19 n
