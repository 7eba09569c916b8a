-- `matches` tells whether an entry matches.
-- By the definition.
use mathlib.Core.Path.{refl}
use Rattle.anc_filter.specs.Wanted.{matching}
use Rattle.anc_filter.proofs.matches.Goals as goal

pub returns : goal.returns
unfolding matching
returns c = refl
