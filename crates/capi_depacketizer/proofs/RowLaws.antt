-- Rows that pass the test are long enough.
-- By the two tests.
use mathlib.Core.Path.{◌≡◌}
use mathlib.Core.Bool.{true}
use Prim.Native.Nat.{ℕ, ◌≤◌}
use lib.Dec.{leb}
use borrow.Author.Tests.{leb-true}
use Rattle.wire_spec.proofs.ResultLaws.{and-true}
use Rattle.capi_answer.specs.Rows.{answer_size}
use Rattle.capi_depacketizer.specs.Calls.{rows_fit}
use Rattle.capi_state.specs.State.{state_size}

pub rows_long : (state answer : ℕ) → rows_fit state answer ≡ true → (state_size ≤ state) × (answer_size ≤ answer)
rows_long state answer h =
    let p = and-true (leb state_size state) (leb answer_size answer) h in
    (leb-true state_size state p.0, leb-true answer_size answer p.1)
