-- `past_offset` goes past a record on a plain line.
-- By its offset.
use Rattle.streamcheck_raster.proofs.past_offset.Goals as goal

pub returns-in-Number : goal.returns-in-Number
returns-in-Number c = rw (c.past_plain.ensures, c.in-Number.is)
