-- `holds` tells whether so many octets were captured.
-- By the length of what is left behind `at`.
use lib.ListN.{length-drop}
use Rattle.capture_datagram.proofs.field.holds.Goals as goal

pub returns : goal.returns
returns c = rw length-drop
