-- `packet_from` is a packet, where the block has its octets and the section its interface.
-- By the tests.
use borrow.Author.Tests.{le-leb, le-ltb, lt-leb, lt-ltb}
use Rattle.capture_block.proofs.block.packet_from.Goals as goal

pub returns-then-room-size : goal.returns-then-room-size
returns-then-room-size c = rw (lt-leb _ _ c.if-room-size.true)

pub returns-then-id-state : goal.returns-then-id-state
returns-then-id-state c = rw (le-leb _ _ c.if-room-size.false, le-ltb _ _ c.if-id-state.true)

pub returns-then-id-ge-MAX_INTERFACES : goal.returns-then-id-ge-MAX_INTERFACES
returns-then-id-ge-MAX_INTERFACES c = rw (le-leb _ _ c.if-room-size.false, lt-ltb _ _ c.if-id-state.false, le-ltb _ _ c.if-id-ge-MAX_INTERFACES.true)

pub returns : goal.returns
returns c = rw (le-leb _ _ c.if-room-size.false, lt-ltb _ _ c.if-id-state.false, lt-ltb _ _ c.if-id-ge-MAX_INTERFACES.false)
