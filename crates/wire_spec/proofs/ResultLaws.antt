-- An answer is accepted exactly where every check before it passes, and every step before it answered; and why one is refused.
-- By the checks in their order: the first that fails refuses.
use mathlib.Core.Path.{◌≡◌, refl, ap, sym}
use mathlib.Core.Bool.{Bool, true, false, cond, ◌&&◌, true≢false}
use mathlib.Core.Logic.{◌⊎◌, inl, inr}
use mathlib.Core.List.{[], ◌∷◌}
use Prim.Native.Nat.{ℕ, zero, suc}
use native.Mathlib.Omega.{arith}
use lib.ListN.{take, get_or}
use Rattle.wire_spec.specs.declared.refusal.Refusal.{Refusal}
use Rattle.wire_spec.specs.Result.{Result, Err, Ok, refuse, Checks, judge, ◌then◌, IsAccepted}
pub use Rattle.wire_spec.specs.Result.{Passed, Numbered}

-- an answer is one value
pub accepted-inj : {A : Type 0} {a b : A} → ◌≡◌ {A = Result A} (Ok a) (Ok b) → a ≡ b
accepted-inj e = cc

-- one check
test-accepts : {A : Type 0} (t : Bool) (x : Result A) (n i : ℕ) (a : A) → cond t x (refuse n i) ≡ Ok a → (t ≡ true) × (x ≡ Ok a)
test-accepts true x n i a e = (refl, e)
test-accepts false x n i a e = let o : ◌≡◌ {A = ℕ} 0 1 = cc in absurd (omega arith)

-- an answer under checks says that they pass, and is the answer without them
pub judge-accepts : {A : Type 0} (i : ℕ) (ts : Checks) (r : Result A) (a : A) → judge i ts r ≡ Ok a → Passed ts × (r ≡ Ok a)
judge-accepts i [] r a e = (tt, e)
judge-accepts i (t ∷ ts) r a e =
    let p = test-accepts t.0 (judge i ts r) t.1 i a e in
    let q = judge-accepts i ts r a p.1 in
    ((p.0, q.0), q.1)

-- checks that pass change nothing
pub judge-passes : {A : Type 0} (i : ℕ) (ts : Checks) (r : Result A) → Passed ts → judge i ts r ≡ r
judge-passes i [] r p = refl
judge-passes i (t ∷ ts) r p = rw p.0 (judge-passes i ts r p.1)

-- where all before it pass, the check at `k` decides if it fails
pub judge-fails : {A : Type 0} (i k : ℕ) (ts : Checks) (r : Result A) → Passed (take k ts) → (get_or ts k (true, 0)).0 ≡ false
    → judge i ts r ≡ refuse (get_or ts k (true, 0)).1 i
judge-fails i zero [] r p e = absurd (true≢false e)
judge-fails i (suc k) [] r p e = absurd (true≢false e)
judge-fails i zero (t ∷ ts) r p e = rw e
judge-fails i (suc k) (t ∷ ts) r p e = rw p.0 (judge-fails i k ts r p.1 e)

-- an answer after a first step says that the first step answered
pub then-accepts : {A B : Type 0} (x : Result A) (f : A → Result B) (b : B) → (x then f) ≡ Ok b → (a : A) × (x ≡ Ok a) × (f a ≡ Ok b)
then-accepts (Err x) f b e = let o : ◌≡◌ {A = ℕ} 0 1 = cc in absurd (omega arith)
then-accepts (Ok a) f b e = (a, refl, e)

-- what is not refused is an answer
pub accepted-is : {A : Type 0} (x : Result A) → IsAccepted x → (a : A) × (x ≡ Ok a)
accepted-is (Ok a) h = (a, refl)
accepted-is {A = A} (Err _) h = elim h [ ]

-- both of two tests that hold together hold
pub and-true : (a b : Bool) → a && b ≡ true → (a ≡ true) × (b ≡ true)
and-true true b e = (refl, e)
and-true false b e = absurd (true≢false (sym e))

-- two tests that hold, hold together
pub and_both : {a b : Bool} → a ≡ true → b ≡ true → a && b ≡ true
and_both e h = rw (e, h)

-- the numbers of all checks have it
abbrev pub numbers : (ℕ → Bool) → Checks → Bool
numbers P [] = true
numbers P (t ∷ ts) = P t.1 && numbers P ts

pub judge-numbered : {A : Type 0} (P : ℕ → Bool) (i : ℕ) (ts : Checks) (r : Result A) → numbers P ts ≡ true → Numbered P r → Numbered P (judge i ts r)
judge-numbered P i [] r e h = h
judge-numbered P i ((true, n) ∷ ts) r e h = judge-numbered P i ts r (and-true (P n) (numbers P ts) e).1 h
judge-numbered P i ((false, n) ∷ ts) r e h = (and-true (P n) (numbers P ts) e).0

pub then-numbered : {A B : Type 0} (P : ℕ → Bool) (x : Result A) (f : A → Result B) → Numbered P x → ((a : A) → Numbered P (f a)) → Numbered P (x then f)
then-numbered P (Err x) f h g = h
then-numbered P (Ok a) f h g = g a

-- a refusal is one, and an answer is none
pub refused-inj : {A : Type 0} {x y : Refusal} → ◌≡◌ {A = Result A} (Err x) (Err y) → x ≡ y
refused-inj e = cc

pub not-refused : {A : Type 0} {a : A} {x : Refusal} → ◌≡◌ {A = Result A} (Ok a) (Err x) → ⊥
not-refused e = let z : ◌≡◌ {A = ℕ} 0 1 = cc in omega arith

-- the first check that fails, its number with the index `i`
abbrev pub Fails : ℕ → Checks → Refusal → Type 0
Fails i [] x = ⊥
Fails i (t ∷ ts) x = ((t.0 ≡ false) × (x ≡ record { number = t.1; index = i })) ⊎ ((t.0 ≡ true) × Fails i ts x)

-- a refusal under checks is that of the first that fails, or all pass and it is what follows
pub judge-refused : {A : Type 0} (i : ℕ) (ts : Checks) (r : Result A) (x : Refusal) → judge i ts r ≡ Err x → Fails i ts x ⊎ (Passed ts × (r ≡ Err x))
judge-refused i [] r x e = inr (tt, e)
judge-refused i (t ∷ ts) r x e = go t.0 refl e (judge-refused i ts r x)
  where
    go : (b : Bool) → t.0 ≡ b → cond b (judge i ts r) (refuse t.1 i) ≡ Err x → (judge i ts r ≡ Err x → Fails i ts x ⊎ (Passed ts × (r ≡ Err x)))
        → Fails i (t ∷ ts) x ⊎ (Passed (t ∷ ts) × (r ≡ Err x))
    go false q e ih = inl (inl (q, sym (refused-inj e)))
    go true q e ih = on (ih e)
      where
        on : Fails i ts x ⊎ (Passed ts × (r ≡ Err x)) → Fails i (t ∷ ts) x ⊎ (Passed (t ∷ ts) × (r ≡ Err x))
        on (inl f) = inl (inr (q, f))
        on (inr p) = inr ((q, p.0), p.1)

pub fails-judge : {A : Type 0} (i : ℕ) (ts : Checks) (r : Result A) (x : Refusal) → Fails i ts x → judge i ts r ≡ Err x
fails-judge i [] r x f = absurd f
fails-judge i (t ∷ ts) r x (inl f) = rw f.0 (ap Err (sym f.1))
fails-judge i (t ∷ ts) r x (inr f) = rw f.0 (fails-judge i ts r x f.1)

-- a refusal after a first step is its own, or that of the step behind
pub then-refused : {A B : Type 0} (r : Result A) (f : A → Result B) (x : Refusal) → (r then f) ≡ Err x
    → (r ≡ Err x) ⊎ ((a : A) × (r ≡ Ok a) × (f a ≡ Err x))
then-refused (Err y) f x e = inl (ap Err (refused-inj e))
then-refused (Ok a) f x e = inr (a, refl, e)
