-- What a method of `Option` that calls a closure gives.
-- By whether there is a value.
use Rattle.std.specs.Prelude.{Option, Some, None, MatchOption}

-- from what its clause says where there is no value, and of the value
pub by-value : {A N : Type 0} {Q : A → Type 0} (P : Option A → Type 0) (o : Option A) → MatchOption o N Q → (N → P None) → ((x : A) → Q x → P (Some x))
    → P o
by-value P None h none some = none h
by-value P (Some x) h none some = some x h
