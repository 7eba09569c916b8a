-- `later` counts one late arrival.
-- By the contract of `increased`.
use Rattle.depacketizer.proofs.state.later.Goals as goal

pub returns : goal.returns
returns c = rw c.increased-late.ensures
