-- `past` goes past one record.
-- By its line.
use Rattle.streamcheck_spec.specs.Code.{past}
use Rattle.streamcheck_raster.proofs.past.Goals as goal

pub returns-in-Number : goal.returns-in-Number
unfolding past
returns-in-Number c = rw (c.past_offset.ensures, c.in-Number.is)

pub returns-in-Unspecified : goal.returns-in-Unspecified
unfolding past
returns-in-Unspecified c = rw c.in-Unspecified.is

pub returns-in-Vertical : goal.returns-in-Vertical
unfolding past
returns-in-Vertical c = rw c.in-Vertical.is

pub returns-in-TooLarge : goal.returns-in-TooLarge
unfolding past
returns-in-TooLarge c = rw c.in-TooLarge.is
