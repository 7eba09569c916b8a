-- `typed_at` tells what the packet of an EtherType is.
-- By the definition.
use borrow.Author.Tests.{eq-eqb, ne_eqb}
use Rattle.capture_datagram.proofs.ethernet.typed_at.Goals as goal

pub returns-then-kind-eq-IPV4 : goal.returns-then-kind-eq-IPV4
returns-then-kind-eq-IPV4 c = rw (eq-eqb _ _ c.if-kind-eq-IPV4.true) c.ipv4_at.ensures

pub returns-then-kind-eq-IPV6 : goal.returns-then-kind-eq-IPV6
returns-then-kind-eq-IPV6 c = rw (ne_eqb _ _ c.if-kind-eq-IPV4.false, eq-eqb _ _ c.if-kind-eq-IPV6.true) c.ipv6_at.ensures

pub returns : goal.returns
returns c = rw (ne_eqb _ _ c.if-kind-eq-IPV4.false, ne_eqb _ _ c.if-kind-eq-IPV6.false)
