-- `stream_octet` is the octet, or 0.
-- By the layout.
use Rattle.anc_reader.proofs.header.stream_octet.Goals as goal

pub returns-in-Rfc8331 : goal.returns-in-Rfc8331
returns-in-Rfc8331 c = rw c.in-Rfc8331.is

pub returns-in-Draft2015 : goal.returns-in-Draft2015
returns-in-Draft2015 c = rw c.in-Draft2015.is
