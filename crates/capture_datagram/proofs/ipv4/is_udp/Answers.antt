-- `is_udp` tells whether an IPv4 header is right, and of UDP.
-- By the definition.
use Rattle.capture_datagram.specs.Ip.{is_ipv4_udp}
use Rattle.capture_datagram.proofs.ipv4.is_udp.Goals as goal

pub returns : goal.returns
unfolding is_ipv4_udp
returns c = rw (c.octet-protocol.ensures, c.number-total.ensures, c.header_size-size.ensures, c.version_at-version.ensures)
