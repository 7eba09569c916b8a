-- `word_at` is the number of four octets.
-- In either order.
use Rattle.capture_spec.specs.Numbers.{word_at}
use Rattle.capture_block.proofs.number.word_at.Goals as goal

pub returns-in-Big : goal.returns-in-Big
unfolding word_at
returns-in-Big c = rw c.in-Big.is c.quad.ensures

pub returns-in-Little : goal.returns-in-Little
unfolding word_at
returns-in-Little c = rw c.in-Little.is c.quad-in-Little.ensures
