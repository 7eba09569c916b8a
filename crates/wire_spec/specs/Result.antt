-- An answer, or the numbered refusal that takes its place (01, "Numbers of refusal").
use Rattle.std.specs.Prelude.{◌≡◌, Bool, true, cond, List, [], ◌∷◌, ℕ}
use Rattle.std.specs.Prelude as std
pub use Rattle.std.specs.Prelude.{Ok, Err}
use Rattle.wire_spec.specs.declared.refusal.Refusal.{Refusal}

-- what was asked for, or the refusal
abbrev pub Result : Type 0 → Type 0
Result A = std.Result A Refusal

-- "A refusal returns its number and an index from 0"
abbrev pub refuse : {A : Type 0} → ℕ → ℕ → Result A
refuse n i = Err (record { number = n; index = i })

-- where there is no refusal: 01 has no number 0
abbrev pub no_refusal : Refusal
no_refusal = record { number = 0; index = 0 }

-- checks in the order of the paper: each a test that has to hold, and the number given where it does not
abbrev pub Checks : Type 0
Checks = List (Bool × ℕ)

-- the first check that fails decides; `i` is the index that goes with its number
abbrev pub judge : {A : Type 0} → ℕ → Checks → Result A → Result A
judge i [] r = r
judge i (t ∷ ts) r = cond t.0 (judge i ts r) (refuse t.1 i)

-- every test holds
abbrev pub Passed : Checks → Type 0
Passed [] = Unit {0}
Passed (t ∷ ts) = (t.0 ≡ true) × Passed ts

infixl 20 ◌then◌
-- what follows an answer; a refusal goes straight out
abbrev pub ◌then◌ : {A B : Type 0} → Result A → (A → Result B) → Result B
Err x then f = Err x
Ok a then f = f a

-- none of the refusals was given
abbrev pub IsAccepted : {A : Type 0} → Result A → Type 0
IsAccepted (Err x) = ⊥
IsAccepted (Ok a) = Unit {0}

-- a refusal's number has the property `P`
abbrev pub Numbered : {A : Type 0} → (ℕ → Bool) → Result A → Type 0
Numbered P (Err x) = P x.number ≡ true
Numbered P (Ok a) = Unit {0}
