-- What stands at a position of a file, in terms of its fields and of the number that ended its reading.
use mathlib.Core.Path.{◌≡◌, refl, ap, sym, ◌∙◌}
use mathlib.Core.Bool.{Bool, true, false, cond}
use mathlib.Core.Logic.{◌↔◌}
use mathlib.Core.List.{List, [], ◌∷◌}
use Prim.Native.Nat.{ℕ, zero, suc, ◌<◌, ◌≤◌}
use native.Mathlib.Omega.{arith}
use lib.Dec.{eqb}
use lib.ListN.{length}
use borrow.Author.Tests.{eq-eqb, ne_eqb, eqb-true, eqb-false}
use Rattle.fieldfile_spec.specs.File.{FieldContent}
use Rattle.fielddiff_spec.specs.Diff.{Place, field, ended, refusal, unread, place_in}

-- constructors are told apart
abbrev tag : Place → ℕ
tag (field x) = 0
tag ended = 1
tag (refusal n) = 2
tag unread = 3

pub field-inj : {x y : FieldContent} → field x ≡ field y → x ≡ y
field-inj e = cc

abbrev pub At : List FieldContent → ℕ → FieldContent → Type 0
At [] i x = ⊥
At (y ∷ ys) zero x = y ≡ x
At (y ∷ ys) (suc i) x = At ys i x

end-cases : (n : ℕ) (b : Bool) → eqb n 54 ≡ b → (tag (cond b ended (refusal n)) ≡ 0 → ⊥) × (tag (cond b ended unread) ≡ 0 → ⊥)
end-cases n true e = (λ h. omega arith, λ h. omega arith)
end-cases n false e = (λ h. omega arith, λ h. omega arith)

module _ (n : ℕ) where
  -- a field stands there exactly where the list of the fields has it
  pub field-iff : (xs : List FieldContent) (i : ℕ) (x : FieldContent) → (place_in xs n i ≡ field x) ↔ At xs i x
  field-iff [] zero x = (λ e. (end-cases n (eqb n 54) refl).0 (ap tag e), λ h. absurd h)
  field-iff [] (suc i) x = (λ e. (end-cases n (eqb n 54) refl).1 (ap tag e), λ h. absurd h)
  field-iff (y ∷ ys) zero x = (λ e. field-inj e, λ e. ap field e)
  field-iff (y ∷ ys) (suc i) x = field-iff ys i x

  -- the file has ended there exactly where the fields are over and 54 ended its reading
  pub ended-iff : (xs : List FieldContent) (i : ℕ) → (place_in xs n i ≡ ended) ↔ ((length xs ≤ i) × (n ≡ 54))
  ended-iff [] zero = (λ e. (omega arith, go (eqb n 54) refl e), λ h. rw (eq-eqb n 54 h.1))
    where
      go : (b : Bool) → eqb n 54 ≡ b → cond b ended (refusal n) ≡ ended → n ≡ 54
      go true e h = eqb-true n 54 e
      go false e h = let z : ◌≡◌ {A = ℕ} 2 1 = ap tag h in absurd (omega arith)
  ended-iff [] (suc i) = (λ e. (omega arith, go (eqb n 54) refl e), λ h. rw (eq-eqb n 54 h.1))
    where
      go : (b : Bool) → eqb n 54 ≡ b → cond b ended unread ≡ ended → n ≡ 54
      go true e h = eqb-true n 54 e
      go false e h = let z : ◌≡◌ {A = ℕ} 3 1 = ap tag h in absurd (omega arith)
  ended-iff (y ∷ ys) zero = (λ e. let z : ◌≡◌ {A = ℕ} 0 1 = ap tag e in absurd (omega arith), λ h. absurd (omega arith))
  ended-iff (y ∷ ys) (suc i) =
      let ih = ended-iff ys i in (λ e. let q = ih.0 e in (omega arith, q.1), λ h. ih.1 (omega arith, h.1))

  -- the file is refused there exactly where its fields are over and another number ended its reading
  pub refusal-iff : (xs : List FieldContent) (i m : ℕ) → (place_in xs n i ≡ refusal m) ↔ ((length xs ≡ i) × (n ≡ m) × (m ≡ 54 → ⊥))
  refusal-iff [] zero m = (λ e. go (eqb n 54) refl e, λ h. rw (ne_eqb n 54 (λ e. h.2 (sym h.1 ∙ e))) (ap refusal h.1))
    where
      go : (b : Bool) → eqb n 54 ≡ b → cond b ended (refusal n) ≡ refusal m → (◌≡◌ {A = ℕ} 0 0) × (n ≡ m) × (m ≡ 54 → ⊥)
      go true e h = let z : ◌≡◌ {A = ℕ} 1 2 = ap tag h in absurd (omega arith)
      go false e h = let q : n ≡ m = cc in (refl, q, λ k. eqb-false n 54 e (q ∙ k))
  refusal-iff [] (suc i) m = (λ e. go (eqb n 54) refl e, λ h. absurd (omega arith))
    where
      go : (b : Bool) → eqb n 54 ≡ b → cond b ended unread ≡ refusal m → (0 ≡ suc i) × (n ≡ m) × (m ≡ 54 → ⊥)
      go true e h = let z : ◌≡◌ {A = ℕ} 1 2 = ap tag h in absurd (omega arith)
      go false e h = let z : ◌≡◌ {A = ℕ} 3 2 = ap tag h in absurd (omega arith)
  refusal-iff (y ∷ ys) zero m = (λ e. let z : ◌≡◌ {A = ℕ} 0 2 = ap tag e in absurd (omega arith), λ h. absurd (omega (arith, h.0)))
  refusal-iff (y ∷ ys) (suc i) m =
      let ih = refusal-iff ys i m in (λ e. let q = ih.0 e in (ap suc q.0, q.1, q.2), λ h. ih.1 (omega arith, h.1, h.2))

  -- behind a refusal nothing is read
  pub unread-iff : (xs : List FieldContent) (i : ℕ) → (place_in xs n i ≡ unread) ↔ ((length xs < i) × (n ≡ 54 → ⊥))
  unread-iff [] zero = (λ e. go (eqb n 54) refl e, λ h. absurd (omega (arith, h.0)))
    where
      go : (b : Bool) → eqb n 54 ≡ b → cond b ended (refusal n) ≡ unread → (0 < 0) × (n ≡ 54 → ⊥)
      go true e h = let z : ◌≡◌ {A = ℕ} 1 3 = ap tag h in absurd (omega arith)
      go false e h = let z : ◌≡◌ {A = ℕ} 2 3 = ap tag h in absurd (omega arith)
  unread-iff [] (suc i) = (λ e. (omega arith, go (eqb n 54) refl e), λ h. rw (ne_eqb n 54 h.1))
    where
      go : (b : Bool) → eqb n 54 ≡ b → cond b ended unread ≡ unread → (n ≡ 54 → ⊥)
      go true e h = let z : ◌≡◌ {A = ℕ} 1 3 = ap tag h in absurd (omega arith)
      go false e h = λ k. eqb-false n 54 e k
  unread-iff (y ∷ ys) zero = (λ e. let z : ◌≡◌ {A = ℕ} 0 3 = ap tag e in absurd (omega arith), λ h. absurd (omega (arith, h.0)))
  unread-iff (y ∷ ys) (suc i) =
      let ih = unread-iff ys i in (λ e. let q = ih.0 e in (omega arith, q.1), λ h. ih.1 (omega arith, h.1))
