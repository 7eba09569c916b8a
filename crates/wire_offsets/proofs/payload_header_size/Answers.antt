-- `payload_header_size` gives the octets of the payload header.
-- By the variant that each arm is told.
use Rattle.wire_offsets.proofs.payload_header_size.Goals as goal

pub returns-in-Rfc8331 : goal.returns-in-Rfc8331
returns-in-Rfc8331 c = rw c.in-Rfc8331.is

pub returns-in-Draft2015 : goal.returns-in-Draft2015
returns-in-Draft2015 c = rw c.in-Draft2015.is
