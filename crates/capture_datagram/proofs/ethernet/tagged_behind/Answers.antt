-- `tagged_behind` tells what stands behind the octets before the tags.
-- By the definition.
use borrow.Author.Tests.{le-leb, lt-leb}
use Rattle.capture_datagram.proofs.ethernet.tagged_behind.Goals as goal

pub returns-then-packet-front : goal.returns-then-packet-front
returns-then-packet-front c = rw (lt-leb _ _ c.if-packet-front.true)

pub returns : goal.returns
returns c = rw (le-leb _ _ c.if-packet-front.false) c.tagged_at.ensures
