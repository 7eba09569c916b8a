-- `is_whole` tells whether an extension header is not that of a part of a datagram.
-- By the definition.
use borrow.Author.Tests.{eq-eqb, ne_eqb}
use Rattle.capture_datagram.specs.Ip.{is_ipv6_whole}
use Rattle.capture_datagram.proofs.ipv6.is_whole.Goals as goal

pub returns-then-next-eq-FRAGMENT : goal.returns-then-next-eq-FRAGMENT
unfolding is_ipv6_whole
returns-then-next-eq-FRAGMENT c = rw (eq-eqb _ _ c.if-next-eq-FRAGMENT.true, c.number-offset.ensures)

pub returns : goal.returns
unfolding is_ipv6_whole
returns c = rw (ne_eqb _ _ c.if-next-eq-FRAGMENT.false)
