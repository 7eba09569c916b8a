-- `simple_size` is no more than the snap length, where there is one.
-- By the tests.
use borrow.Author.Tests.{eq-eqb, ne_eqb, le-ltb, lt-ltb}
use Rattle.capture_block.proofs.block.simple_size.Goals as goal

pub returns-then-snap-eq0 : goal.returns-then-snap-eq0
returns-then-snap-eq0 c = rw (eq-eqb _ 0 c.if-snap-eq0.true)

pub returns-then-original-snap : goal.returns-then-original-snap
returns-then-original-snap c = rw (ne_eqb _ 0 c.if-snap-eq0.false, lt-ltb _ _ c.if-original-snap.true)

pub returns : goal.returns
returns c = rw (ne_eqb _ 0 c.if-snap-eq0.false, le-ltb _ _ c.if-original-snap.false)
