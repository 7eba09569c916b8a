-- Lists of lines in increasing order: how they join, and that their members fix them.
-- By induction over the lists.
use mathlib.Core.Path.{◌≡◌, refl, sym, ◌∙◌, ap₂, subst}
use mathlib.Core.Bool.{Bool, true, false}
use mathlib.Core.List.Memᴰ
use mathlib.Core.List.{List, [], ◌∷◌, ◌++◌, Memᴰ}
use mathlib.Core.Logic.{◌⊎◌, inl, inr}
use Prim.Native.Nat.{ℕ, suc, ◌<◌, ◌≤◌}
use native.Mathlib.Omega.{arith}
use Rattle.wire_spec.specs.Anc.{Each}
use Rattle.wire_spec.proofs.ListLaws.{each_append}
use Rattle.streamcheck_spec.specs.declared.finding.Finding.{Finding}
use Rattle.streamcheck_spec.specs.Check.{Entry, entries, only_if, rank, Precedes, Increasing}

-- what holds of each holds of a member
pub each_member : {A : Type 0} (P : A → Type 0) (xs : List A) (x : A) → Each P xs → Memᴰ x xs → P x
each_member P [] x e m = absurd (Memᴰ.not-nil m)
each_member P (y ∷ xs) x e m = go (Memᴰ.cases_cons m) (each_member P xs x e.1)
  where
    go : (x ≡ y) ⊎ Memᴰ x xs → (Memᴰ x xs → P x) → P x
    go (inl d) below = subst P (sym d) e.0
    go (inr n) below = below n

pub each_map : {A : Type 0} (P Q : A → Type 0) (xs : List A) → ((x : A) → P x → Q x) → Each P xs → Each Q xs
each_map P Q [] f e = tt
each_map P Q (x ∷ xs) f e = (f x e.0, each_map P Q xs f e.1)

-- nothing precedes what precedes it
precedes-not : (x y : Entry) → Precedes x y → Precedes y x → ⊥
precedes-not x y (inl a) (inl b) = omega arith
precedes-not x y (inl a) (inr b) = let e = b.0 in omega arith
precedes-not x y (inr a) (inl b) = let e = a.0 in omega arith
precedes-not x y (inr a) (inr b) = let e = a.1 in let d = b.1 in omega arith

-- lines of earlier packets, then lines of later ones
pub increasing-append : (n : ℕ) (xs ys : List Entry) → Increasing xs → Increasing ys → Each (λ (x : Entry). x.0 < n) xs
    → Each (λ (y : Entry). n ≤ y.0) ys → Increasing (xs ++ ys)
increasing-append n [] ys a b e d = b
increasing-append n (x ∷ xs) ys a b e d = (
  each_append (Precedes x) xs ys a.0 (each_map (λ (y : Entry). n ≤ y.0) (Precedes x) ys (λ y c. inl (let z = e.0 in omega arith)) d),
  increasing-append n xs ys a.1 b e.1 d,
)

-- findings in increasing rank, the first of them from `n` on
abbrev pub RanksFrom : ℕ → List Finding → Type 0
RanksFrom n [] = Unit {0}
RanksFrom n (x ∷ xs) = (n ≤ rank x) × RanksFrom (suc (rank x)) xs

ranks-lower : (m n : ℕ) (xs : List Finding) → m ≤ n → RanksFrom n xs → RanksFrom m xs
ranks-lower m n [] h r = tt
ranks-lower m n (x ∷ xs) h r = let e = r.0 in (omega arith, r.1)

pub ranks-only : (t : Bool) (x : Finding) (xs : List Finding) (n : ℕ) → n ≤ rank x → RanksFrom (suc (rank x)) xs → RanksFrom n (only_if t x ++ xs)
ranks-only true x xs n h r = (h, r)
ranks-only false x xs n h r = ranks-lower n (suc (rank x)) xs (omega arith) r

above : (i n : ℕ) (x : Finding) (xs : List Finding) → rank x < n → RanksFrom n xs → Each (Precedes (i, x)) (entries i xs)
unfolding entries
above i n x [] h r = tt
above i n x (y ∷ ys) h r = let e = r.0 in (inr (refl, omega arith), above i (suc (rank y)) x ys (omega arith) r.1)

pub entries-increase : (i n : ℕ) (xs : List Finding) → RanksFrom n xs → Increasing (entries i xs)
unfolding entries
entries-increase i n [] r = tt
entries-increase i n (x ∷ xs) r = (above i (suc (rank x)) x xs (omega arith) r.1, entries-increase i (suc (rank x)) xs r.1)

pub entries-index : (i : ℕ) (xs : List Finding) → Each (λ (x : Entry). x.0 ≡ i) (entries i xs)
unfolding entries
entries-index i [] = tt
entries-index i (x ∷ xs) = (refl, entries-index i xs)

-- increasing lists with the same members are one list
heads-equal : (x y : Entry) (xs ys : List Entry) → Each (Precedes x) xs → Each (Precedes y) ys → Memᴰ x (y ∷ ys) → Memᴰ y (x ∷ xs) → x ≡ y
heads-equal x y xs ys a b m n = go (Memᴰ.cases_cons m) (Memᴰ.cases_cons n)
  where
    go : (x ≡ y) ⊎ Memᴰ x ys → (y ≡ x) ⊎ Memᴰ y xs → x ≡ y
    go (inl e) d = e
    go (inr p) (inl e) = sym e
    go (inr p) (inr q) = absurd (precedes-not x y (each_member (Precedes x) xs y a q) (each_member (Precedes y) ys x b p))

-- members behind equal heads
tail-members : (x y : Entry) (xs ys : List Entry) → x ≡ y → Each (Precedes x) xs → ((z : Entry) → Memᴰ z (x ∷ xs) → Memᴰ z (y ∷ ys))
    → (z : Entry) → Memᴰ z xs → Memᴰ z ys
tail-members x y xs ys e a f z m = go (Memᴰ.cases_cons (f z (Memᴰ.tail m)))
  where
    go : (z ≡ y) ⊎ Memᴰ z ys → Memᴰ z ys
    go (inl d) =
        let p : Precedes x z = each_member (Precedes x) xs z a m in
        let q : Precedes x x = subst (Precedes x) (d ∙ sym e) p in
        absurd (precedes-not x x q q)
    go (inr n) = n

pub members-fix : (xs ys : List Entry) → Increasing xs → Increasing ys → ((z : Entry) → Memᴰ z xs → Memᴰ z ys)
    → ((z : Entry) → Memᴰ z ys → Memᴰ z xs) → xs ≡ ys
members-fix [] [] a b f g = refl
members-fix [] (y ∷ ys) a b f g = absurd (Memᴰ.not-nil (g y (Memᴰ.head refl)))
members-fix (x ∷ xs) [] a b f g = absurd (Memᴰ.not-nil (f x (Memᴰ.head refl)))
members-fix (x ∷ xs) (y ∷ ys) a b f g =
    let e = heads-equal x y xs ys a.0 b.0 (f x (Memᴰ.head refl)) (g y (Memᴰ.head refl)) in
    ap₂ ◌∷◌ e (members-fix xs ys a.1 b.1 (tail-members x y xs ys e a.0 f) (tail-members y x ys xs (sym e) b.0 g))
