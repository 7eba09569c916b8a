-- `is_whole` tells whether a packet is no fragment.
-- By the definition.
use Rattle.capture_datagram.specs.Ip.{is_ipv4_whole}
use Rattle.capture_datagram.proofs.ipv4.is_whole.Goals as goal

pub returns : goal.returns
unfolding is_ipv4_whole
returns c = rw c.number.ensures
