-- `past_plain` goes past a record at a plain place.
-- By the order of the two places.
use Rattle.streamcheck_raster.proofs.past_plain.Goals as goal

pub returns : goal.returns
returns c = rw c.is_lower.ensures
