-- `leads_to_udp` tells whether a header is UDP's or may stand before it.
-- By the definition.
use Rattle.capture_datagram.specs.Ip.{leads_to_udp}
use Rattle.capture_datagram.proofs.ipv6.leads_to_udp.Goals as goal

pub returns : goal.returns
unfolding leads_to_udp
returns c = rw c.is_extension.ensures
