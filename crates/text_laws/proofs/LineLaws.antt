-- Lines told apart: a line ends at its first octet 0x0A.
-- By that octet, which no number and no word has.
use mathlib.Core.Path.{◌≡◌, refl, ap, ap₂, sym, subst, subst₂, ◌∙◌}
use mathlib.Core.Bool.{Bool, true, false, cond}
use mathlib.Core.List.{List, [], ◌∷◌, ◌++◌, append_assoc, append-nil, nil≢cons}
use mathlib.Core.List.{head-eq_of_cons-eq, tail-eq_of_cons-eq}
use Prim.Native.Nat.{ℕ, zero, suc, ◌+◌, ◌/◌, ◌%◌, ◌≤◌}
use native.Mathlib.Omega.{arith}
use lib.Dec.{ltb}
use Rattle.text.specs.Text.{digit, digits, decimal, hex}
use Rattle.text_laws.specs.Lines.{Printable, Ended, Lines}
use Rattle.text_laws.proofs.DecimalLaws.{Digits, digits_of}

pub digits-printable : (ds : List ℕ) → Digits ds → Printable ds
digits-printable [] h = tt
digits-printable (d ∷ ds) h = (omega (arith, h.0), digits-printable ds h.2)

pub number-printable : (n : ℕ) → Printable (decimal n)
number-printable n = digits-printable (decimal n) (digits_of n)

pub printable-append : (p q : List ℕ) → Printable p → Printable q → Printable (p ++ q)
printable-append [] q h k = k
printable-append (o ∷ p) q h k = (h.0, printable-append p q h.1 k)

-- hex digits
digit-printable : (d : ℕ) → 0x20 ≤ digit d
digit-printable d = go (ltb d 10)
  where
    go : (b : Bool) → 0x20 ≤ cond b (0x30 + d) (0x57 + d)
    go true = omega arith
    go false = omega arith

in-base-16 : (k n : ℕ) → Printable (digits 16 k n)
unfolding digits
in-base-16 zero n = tt
in-base-16 (suc k) n =
    let last = digit (n % 16) in
    printable-append (digits 16 k (n / 16)) (last ∷ []) (in-base-16 k (n / 16)) (digit-printable (n % 16), tt)

pub hex-printable : (k n : ℕ) → Printable (hex k n)
unfolding hex
hex-printable k n = in-base-16 k n

pub ended-append : (p s : List ℕ) → Printable p → Ended s → Ended (p ++ s)
ended-append p s h e =
    record {
      body = p ++ e.body;
      is = ap (λ (z : List ℕ). p ++ z) e.is ∙ sym (append_assoc p e.body (0x0A ∷ []));
      printable = printable-append p e.body h e.printable;
    }

cut_line : (xs ys s t : List ℕ) → Printable xs → Printable ys
    → xs ++ (0x0A ∷ s) ≡ ys ++ (0x0A ∷ t) → (xs ≡ ys) × (s ≡ t)
cut_line [] [] s t h k e = (refl, tail-eq_of_cons-eq e)
cut_line [] (y ∷ ys) s t h k e = absurd (omega (arith, k.0, head-eq_of_cons-eq e))
cut_line (x ∷ xs) [] s t h k e = absurd (omega (arith, h.0, head-eq_of_cons-eq e))
cut_line (x ∷ xs) (y ∷ ys) s t h k e =
    let r = cut_line xs ys s t h.1 k.1 (tail-eq_of_cons-eq e) in
    (ap₂ ◌∷◌ (head-eq_of_cons-eq e) r.0, r.1)

-- a line before other text
parted : (s t : List ℕ) (l : Ended s) → s ++ t ≡ l.body ++ (0x0A ∷ t)
parted s t l = ap (λ (z : List ℕ). z ++ t) l.is ∙ append_assoc l.body (0x0A ∷ []) t

never-empty : (b t : List ℕ) → b ++ (0x0A ∷ t) ≡ [] → ⊥
never-empty [] t e = nil≢cons (sym e)
never-empty (x ∷ b) t e = nil≢cons (sym e)

-- a text that begins with a line is not empty
pub some-line : (s t : List ℕ) → Ended s → s ++ t ≡ [] → ⊥
some-line s t l e = never-empty l.body t (sym (parted s t l) ∙ e)

-- TEXTS THAT BEGIN WITH A LINE, and are equal, begin with the same line and go on alike
pub line-apart : (s t u v : List ℕ) → Ended s → Ended t → s ++ u ≡ t ++ v → (s ≡ t) × (u ≡ v)
line-apart s t u v l m e =
    let parts = sym (parted s u l) ∙ e ∙ parted t v m in
    let q = cut_line l.body m.body u v l.printable m.printable parts in
    (l.is ∙ ap (λ (z : List ℕ). z ++ (0x0A ∷ [])) q.0 ∙ sym m.is, q.1)

-- a line more
pub lines_more : (s t : List ℕ) (n : ℕ) → Ended s → Lines n t → Lines (suc n) (s ++ t)
lines_more s t n l h = record { line = s; rest = t; is = refl; ended = l; behind = h }

pub one_line : (s : List ℕ) → Ended s → Lines 1 s
one_line s l = record { line = s; rest = []; is = sym (append-nil s); ended = l; behind = refl }

-- lines after lines
pub lines-append : (m n : ℕ) (s t : List ℕ) → Lines m s → Lines n t → Lines (m + n) (s ++ t)
lines-append zero n s t h k =
    let e : n ≡ 0 + n = omega arith in
    subst₂ Lines e (ap (λ (u : List ℕ). u ++ t) (sym h)) k
lines-append (suc m) n s t h k =
    let e : suc (m + n) ≡ suc m + n = omega arith in
    let l : Lines (suc (m + n)) (s ++ t) =
    record {
      line = h.line;
      rest = h.rest ++ t;
      is = ap (λ (u : List ℕ). u ++ t) h.is ∙ append_assoc h.line h.rest t;
      ended = h.ended;
      behind = lines-append m n h.rest t h.behind k;
    } in
    subst (λ (j : ℕ). Lines j (s ++ t)) e l
