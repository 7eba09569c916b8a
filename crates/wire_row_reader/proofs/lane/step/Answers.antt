-- `step` is 1.
-- By the first factor.
use native.Mathlib.Omega.{arith}
use Rattle.wire_row_reader.proofs.lane.step.Goals as goal

pub overflow_cast-result : goal.overflow_cast-result
overflow_cast-result c = rw (c.requires, c.zero-z.ensures) (omega arith)

pub returns : goal.returns
returns c = rw (c.requires, c.zero-z.ensures)
