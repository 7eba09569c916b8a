-- `is_whole` tells whether a capture may end there.
-- By what was read of it.
use Rattle.pcapframes_session.proofs.is_whole.Goals as goal

pub returns-in-Classic : goal.returns-in-Classic
returns-in-Classic c = rw c.in-Classic.is

pub returns-in-Section : goal.returns-in-Section
returns-in-Section c = rw c.in-Section.is
