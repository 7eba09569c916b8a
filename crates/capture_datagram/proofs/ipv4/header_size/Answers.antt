-- `header_size` is the octets of an IPv4 header.
-- By the definition.
use Rattle.capture_datagram.proofs.ipv4.header_size.Goals as goal

pub returns : goal.returns
returns c = rw c.octet.ensures
