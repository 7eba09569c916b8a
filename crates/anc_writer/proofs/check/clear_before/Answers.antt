-- `clear_before` counts a record on while all before it were clear.
-- Its test is that of the definition.
use Rattle.anc_writer.proofs.check.clear_before.Goals as goal

pub returns-then-clear-first : goal.returns-then-clear-first
returns-then-clear-first c = rw c.if-clear-first.true

pub returns : goal.returns
returns c = rw c.if-clear-first.false
