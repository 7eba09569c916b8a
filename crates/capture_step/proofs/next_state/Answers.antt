-- `next_state` is where the reading stands behind an item.
-- By the item.
use borrow.Author.Tests.{le-ltb, lt-ltb}
use Rattle.capture_step.proofs.next_state.Goals as goal

pub returns-then-state-ge-MAX_INTERFACES : goal.returns-then-state-ge-MAX_INTERFACES
returns-then-state-ge-MAX_INTERFACES c = rw (c.in-Ok.is, c.in-Interface.is, le-ltb _ 64 c.if-state-ge-MAX_INTERFACES.true)

pub returns-in-Head : goal.returns-in-Head
returns-in-Head c = rw (c.in-Ok.is, c.in-Head.is) c.begin_as.ensures

pub returns-else-state-ge-MAX_INTERFACES : goal.returns-else-state-ge-MAX_INTERFACES
returns-else-state-ge-MAX_INTERFACES c = rw (c.in-Ok.is, c.in-Interface.is, lt-ltb _ 64 c.if-state-ge-MAX_INTERFACES.false) c.add_interface.ensures
