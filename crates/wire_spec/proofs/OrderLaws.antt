-- Checks that agree with faults refuse by the first fault's number.
-- Check by check: one fails exactly where its fault is there, which is asked only where those before it passed.
use mathlib.Core.Path.{◌≡◌, refl, ap, ap₂, sym, ◌∙◌}
use mathlib.Core.Bool.{Bool, true, false, ◌&&◌, true≢false}
use mathlib.Core.Logic.{◌↔◌, ◌⊎◌, inl, inr}
use mathlib.Core.List.{List, [], ◌∷◌, ◌++◌}
use Prim.Native.Nat.{ℕ}
use Rattle.wire_spec.specs.declared.refusal.Refusal.{Refusal}
use Rattle.wire_spec.specs.Result.{Result, Err, Ok, refuse, Checks, judge, ◌then◌}
use Rattle.wire_spec.specs.Order.{Faults, None, First, Some}
use Rattle.wire_spec.proofs.ResultLaws.{Passed, not-refused}

-- each check has its fault's number, and fails exactly where the fault is there
abbrev pub Agree : Faults → Checks → Type 0
Agree [] [] = Unit {0}
Agree [] (t ∷ ts) = ⊥
Agree (f ∷ fs) [] = ⊥
Agree (f ∷ fs) (t ∷ ts) = (t.1 ≡ f.0) × ((t.0 ≡ false) ↔ f.1) × (t.0 ≡ true → Agree fs ts)

-- a refusal is one number and one index
pub refuse-inj : {A : Type 0} {n m i k : ℕ} → ◌≡◌ {A = Result A} (refuse n i) (refuse m k) → (n ≡ m) × (i ≡ k)
refuse-inj {A} {n} {m} {i} {k} e =
    let r : ◌≡◌ {A = Refusal} (record { number = n; index = i }) (record { number = m; index = k }) = cc in
    (ap (λ (x : Refusal). x.number) r, ap (λ (x : Refusal). x.index) r)

-- checks before a step, and the step behind
pub judge-behind : {A B : Type 0} (i : ℕ) (ts : Checks) (x : Result A) (f : A → Result B) → (judge i ts x then f) ≡ judge i ts (x then f)
judge-behind i [] x f = refl
judge-behind i ((true, n) ∷ ts) x f = judge-behind i ts x f
judge-behind i ((false, n) ∷ ts) x f = refl

-- checks one list behind the other
pub judge-append : {A : Type 0} (i : ℕ) (ts us : Checks) (x : Result A) → judge i ts (judge i us x) ≡ judge i (ts ++ us) x
judge-append i [] us x = refl
judge-append i ((true, n) ∷ ts) us x = judge-append i ts us x
judge-append i ((false, n) ∷ ts) us x = refl

-- all pass exactly where there is no fault
pub passed_none : (fs : Faults) (ts : Checks) → Agree fs ts → Passed ts ↔ None fs
passed_none [] [] a = (λ p. tt, λ h. tt)
passed_none (f ∷ fs) ((true, m) ∷ ts) a =
    let ih = passed_none fs ts (a.2 refl) in
    (λ p. (λ (x : f.1). absurd (true≢false (a.1.1 x)), ih.0 p.1), λ h. (refl, ih.1 h.1))
passed_none (f ∷ fs) ((false, m) ∷ ts) a =
    (λ p. absurd (true≢false (sym p.0)), λ h. absurd (h.0 (a.1.0 refl)))
passed_none [] (_ ∷ ts) a = elim a [ ]
passed_none (f ∷ fs) [] a = elim a [ ]

-- A REFUSAL BY CHECKS is that of the first fault, or there is none and it is given behind them
pub judge-first : {A : Type 0} (i : ℕ) (fs : Faults) (ts : Checks) → Agree fs ts → (r : Result A) (n k : ℕ)
    → (judge i ts r ≡ refuse n k) ↔ ((First n fs × (k ≡ i)) ⊎ (None fs × (r ≡ refuse n k)))
judge-first i [] [] a r n k = (λ e. inr (tt, e), go)
  where
    go : (⊥ × (k ≡ i)) ⊎ (Unit {0} × (r ≡ refuse n k)) → r ≡ refuse n k
    go (inl x) = absurd x.0
    go (inr x) = x.1
judge-first {A} i (f ∷ fs) ((true, m) ∷ ts) a r n k =
    let ih = judge-first i fs ts (a.2 refl) r n k in
    let missing : f.1 → ⊥ = λ x. absurd (true≢false (a.1.1 x)) in
    (λ e. on missing (ih.0 e), λ x. ih.1 (off missing x))
  where
    on : (f.1 → ⊥) → (First n fs × (k ≡ i)) ⊎ (None fs × (r ≡ refuse n k)) → (First n (f ∷ fs) × (k ≡ i)) ⊎ (None (f ∷ fs) × (r ≡ refuse n k))
    on missing (inl x) = inl (inr (missing, x.0), x.1)
    on missing (inr x) = inr ((missing, x.0), x.1)

    off : (f.1 → ⊥) → (First n (f ∷ fs) × (k ≡ i)) ⊎ (None (f ∷ fs) × (r ≡ refuse n k)) → (First n fs × (k ≡ i)) ⊎ (None fs × (r ≡ refuse n k))
    off missing (inl (inl y, e)) = absurd (missing y.0)
    off missing (inl (inr y, e)) = inl (y.1, e)
    off missing (inr x) = inr (x.0.1, x.1)
judge-first {A} i (f ∷ fs) ((false, m) ∷ ts) a r n k =
    let there : f.1 = a.1.0 refl in (
      λ e. let q = refuse-inj {A = A} e in inl (inl (there, sym a.0 ∙ q.0), sym q.1),
      go there,
    )
  where
    go : f.1 → (First n (f ∷ fs) × (k ≡ i)) ⊎ (None (f ∷ fs) × (r ≡ refuse n k)) → ◌≡◌ {A = Result A} (refuse m i) (refuse n k)
    go there (inl (inl y, e)) = ap₂ (λ (x y : ℕ). refuse x y) (a.0 ∙ y.1) (sym e)
    go there (inl (inr y, e)) = absurd (y.0 there)
    go there (inr x) = absurd (x.0.0 there)
judge-first {A = A} i [] (_ ∷ ts) a r n k = elim a [ ]
judge-first {A = A} i (f ∷ fs) [] a r n k = elim a [ ]

-- a refusal before a step that answers is the refusal of both
pub then-first : {A B : Type 0} (x : Result A) (f : A → B) (n k : ℕ) → ((x then λ a. Ok (f a)) ≡ refuse n k) ↔ (x ≡ refuse n k)
then-first {A} {B} (Err y) f n k = (
  λ e. let q = refuse-inj {A = B} e in ap₂ (λ (u v : ℕ). refuse u v) q.0 q.1,
  λ e. let q = refuse-inj {A = A} e in ap₂ (λ (u v : ℕ). refuse u v) q.0 q.1,
)
then-first (Ok a) f n k = (λ e. absurd (not-refused e), λ e. absurd (not-refused e))

-- of two tests that do not hold together one fails
pub and-false : (a b : Bool) → (a && b ≡ false) ↔ ((a ≡ false) ⊎ (b ≡ false))
and-false true b = (λ e. inr e, go)
  where
    go : (true ≡ false) ⊎ (b ≡ false) → b ≡ false
    go (inl e) = absurd (true≢false e)
    go (inr e) = e
and-false false b = (λ e. inl refl, λ x. refl)

-- a number that is given is one of the faults'
abbrev pub numbers_of : Faults → List ℕ
numbers_of [] = []
numbers_of (f ∷ fs) = f.0 ∷ numbers_of fs

pub first-number : (n : ℕ) (fs : Faults) → First n fs → Some (λ (m : ℕ). m ≡ n) (numbers_of fs)
first-number n (f ∷ fs) (inl x) = inl x.1
first-number n (f ∷ fs) (inr x) = inr (first-number n fs x.1)
first-number n [] x' = elim x' [ ]
