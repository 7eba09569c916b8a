-- `after` gives the state after a fresh packet.
-- By the contract of `increased`.
use Rattle.depacketizer.proofs.state.after.Goals as goal

pub returns : goal.returns
returns c = rw (c.increased.ensures, c.increased-2.ensures)
