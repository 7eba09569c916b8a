-- `half_at` is the number of two octets.
-- In either order.
use Rattle.capture_spec.specs.Numbers.{half_at}
use Rattle.capture_block.proofs.number.half_at.Goals as goal

pub returns-in-Big : goal.returns-in-Big
unfolding half_at
returns-in-Big c = rw c.in-Big.is c.pair.ensures

pub returns-in-Little : goal.returns-in-Little
unfolding half_at
returns-in-Little c = rw c.in-Little.is c.pair-in-Little.ensures
