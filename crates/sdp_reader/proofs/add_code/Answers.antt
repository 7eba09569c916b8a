-- `add_code` adds a VPID code where none was given.
-- By whether one was.
use Rattle.sdp_reader.proofs.add_code.Goals as goal

pub returns-in-Some : goal.returns-in-Some
returns-in-Some c = rw (c.refuse_at.ensures, c.in-Some.is)

pub returns-in-None : goal.returns-in-None
returns-in-None c = rw c.in-None.is
