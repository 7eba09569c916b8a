-- `is_state` tests whether each number of a row is one that its value can have.
-- By computation: the tests in their order.
use mathlib.Core.Path.{refl}
use Rattle.capi_state.specs.State.{is_state}
use Rattle.capi_state.proofs.state.is_state.Goals as goal

pub returns : goal.returns
unfolding is_state
returns c = refl
