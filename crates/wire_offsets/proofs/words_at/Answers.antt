-- `words_at` gives the bit at which the user data words start.
-- By the variant that each arm is told.
use Rattle.wire_offsets.proofs.words_at.Goals as goal

pub returns-in-Rfc8331 : goal.returns-in-Rfc8331
returns-in-Rfc8331 c = rw c.in-Rfc8331.is

pub returns-in-Draft2015 : goal.returns-in-Draft2015
returns-in-Draft2015 c = rw c.in-Draft2015.is
