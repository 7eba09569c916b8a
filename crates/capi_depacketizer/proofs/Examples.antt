-- The numbers of the boundary on examples: rows that are too short, states, rows that are none.
-- By computation.
use Rattle.std.specs.Prelude.{Some, None}
use mathlib.Core.Path.{◌≡◌, refl}
use mathlib.Core.List.{[], ◌∷◌, ◌++◌}
use lib.ListN.{replicate}
use Rattle.depacketizer_spec.specs.Step.{open_state}
use Rattle.capi_state.specs.State.{is_state, state_in}
use Rattle.capi_depacketizer.specs.Calls.{arrive, open_numbers, open_reply}

-- a state of fourteen numbers
short-state : open_reply 5 100 (replicate 14 0) (replicate 9 0) ≡ record { number = 255; row = [] }
short-state = refl

-- a payload type over 127
type-over : open_reply 5 128 (replicate 15 0) (replicate 9 0) ≡ record { number = 24; row = 0 ∷ [] }
type-over = refl

-- a state just opened is written, and read back
opened : open_numbers 5 100 (replicate 15 1) (replicate 9 0) ≡ 5 ∷ 100 ∷ 0 ∷ 0 ∷ 0 ∷ 0 ∷ 0 ∷ 0 ∷ 0 ∷ 0 ∷ 0 ∷ 0 ∷ 0 ∷ 0 ∷ 0 ∷ []
opened = refl

read_back : state_in (open_numbers 5 100 (replicate 15 1) (replicate 9 0)) ≡ Some (open_state 5 100)
unfolding is_state
read_back = refl

-- heard 2, a source over 32 bits, a flag of 2 before the remembered number, and that number over 32 bits are in no state
heard-2 : (arrive 1 (5 ∷ 100 ∷ 0 ∷ 2 ∷ replicate 11 0) [] [] (replicate 9 0)).reply ≡ record { number = 35; row = 0 ∷ [] }
unfolding is_state
heard-2 = refl

source-over : state_in (4294967296 ∷ replicate 14 0) ≡ None
unfolding is_state
source-over = refl

remembers-2 : state_in (replicate 12 0 ++ (2 ∷ 0 ∷ 0 ∷ [])) ≡ None
unfolding is_state
remembers-2 = refl

remembered-over : state_in (replicate 12 0 ++ (0 ∷ 4294967296 ∷ 0 ∷ [])) ≡ None
unfolding is_state
remembered-over = refl
