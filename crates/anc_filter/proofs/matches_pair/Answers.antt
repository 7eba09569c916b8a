-- `matches_pair` tells whether an entry of a list of pairs matches.
-- By its two numbers.
use Rattle.anc_filter.proofs.matches_pair.Goals as goal

pub returns : goal.returns
returns c = c.matches.ensures
