-- `cooked_v2` tells what the packet of a Linux cooked capture of version 2 is.
-- By the definition.
use borrow.Author.Tests.{le-leb, lt-leb}
use Rattle.capture_datagram.proofs.cooked_v2.Goals as goal

pub returns-then-packet-lt-COOKED_V2_HEADER : goal.returns-then-packet-lt-COOKED_V2_HEADER
returns-then-packet-lt-COOKED_V2_HEADER c = rw (lt-leb _ _ c.if-packet-lt-COOKED_V2_HEADER.true)

pub returns : goal.returns
returns c = rw (le-leb _ _ c.if-packet-lt-COOKED_V2_HEADER.false, ← c.number-kind.ensures) c.typed_at.ensures
