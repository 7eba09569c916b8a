-- Checks in order: what their answer tells of the tests.
-- By the tests one after the other.
use mathlib.Core.Path.{◌≡◌, refl}
use mathlib.Core.Bool.{Bool, true, false, not, ◌&&◌, true≢false}
use mathlib.Core.List.{[], ◌∷◌}
use Rattle.wire_spec.proofs.ResultLaws.{and-true}
use Rattle.capture_datagram.specs.Answer.{Checks, judge}

-- all tests hold
abbrev pub Hold : {A : Type 0} → Checks A → Type 0
Hold [] = Unit {0}
Hold (t ∷ ts) = (t.0 ≡ true) × Hold ts

-- no answer of a failed check is of the kind `p`
abbrev pub others : {A : Type 0} → (A → Bool) → Checks A → Bool
others p [] = true
others p (t ∷ ts) = not (p t.1) && others p ts

pub judge-holds : {A : Type 0} (ts : Checks A) (a : A) → Hold ts → judge ts a ≡ a
judge-holds [] a h = refl
judge-holds (t ∷ ts) a h = rw h.0 (judge-holds ts a h.1)

-- an answer of a kind that no failed check gives
pub all_hold : {A : Type 0} (p : A → Bool) (ts : Checks A) (a : A) → others p ts ≡ true → p (judge ts a) ≡ true → Hold ts
all_hold p [] a o e = tt
all_hold p ((true, x) ∷ ts) a o e = (refl, all_hold p ts a (and-true (not (p x)) (others p ts) o).1 e)
all_hold p ((false, x) ∷ ts) a o e =
    let n = (and-true (not (p x)) (others p ts) o).0 in
    let z : true ≡ false = cc in
    absurd (true≢false z)

-- checks whose answers are changed by `g`
abbrev pub changed : {A B : Type 0} → (A → B) → Checks A → Checks B
changed g [] = []
changed g (t ∷ ts) = (t.0, g t.1) ∷ changed g ts

pub judge-changed : {A B : Type 0} (g : A → B) (ts : Checks A) (a : A) → g (judge ts a) ≡ judge (changed g ts) (g a)
judge-changed g [] a = refl
judge-changed g ((true, x) ∷ ts) a = judge-changed g ts a
judge-changed g ((false, x) ∷ ts) a = refl

-- each answer of a failed check has the property `P`
abbrev pub Answers : {A : Type 0} → (A → Type 0) → Checks A → Type 0
Answers P [] = Unit {0}
Answers P (t ∷ ts) = P t.1 × Answers P ts

pub judge-all : {A : Type 0} (P : A → Type 0) (ts : Checks A) (a : A) → Answers P ts → (Hold ts → P a) → P (judge ts a)
judge-all P [] a q h = h tt
judge-all P ((true, x) ∷ ts) a q h = judge-all P ts a q.1 (λ i. h (refl, i))
judge-all P ((false, x) ∷ ts) a q h = q.0
