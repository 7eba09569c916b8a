-- `order_by` is the order in which a number is a magic one.
-- By both tests.
use Rattle.capture_block.proofs.number.order_by.Goals as goal

pub returns-then-big : goal.returns-then-big
returns-then-big c = rw c.if-big.true

pub returns-then-little : goal.returns-then-little
returns-then-little c = rw (c.if-big.false, c.if-little.true)
