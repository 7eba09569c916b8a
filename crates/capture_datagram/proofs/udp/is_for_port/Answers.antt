-- `is_for_port` tells whether a datagram is to the port, with a right length.
-- By the definition.
use Rattle.capture_datagram.specs.Udp.{is_for_port}
use Rattle.capture_datagram.proofs.udp.is_for_port.Goals as goal

pub returns : goal.returns
unfolding is_for_port
returns c = rw (c.number-destination.ensures, c.number-size.ensures)
