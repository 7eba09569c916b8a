-- `is_udp` tells whether an IPv6 header is right, and leads to UDP.
-- By the definition.
use Rattle.capture_datagram.specs.Ip.{is_ipv6_udp}
use Rattle.capture_datagram.proofs.ipv6.is_udp.Goals as goal

pub returns : goal.returns
unfolding is_ipv6_udp
returns c = rw (c.leads_to_udp.ensures, c.octet-next.ensures, c.version_at-version.ensures)
