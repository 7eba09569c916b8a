-- `start` is before the first frame.
-- By what its calls give.
use Rattle.streamcheck_turns.proofs.start.Goals as goal

pub returns : goal.returns
returns c = λ i. record { session = c.begin.ensures i; buffers = c.begin-2.ensures i }
