-- `remembering` remembers the number after this one.
-- By the contract of `wrapping_add_u32`.
use Rattle.depacketizer.proofs.state.remembering.Goals as goal

pub returns : goal.returns
returns c = rw c.wrapping_add_u32.ensures.value
