-- `is_roomy` tells whether there is room.
-- By its definition.
use mathlib.Core.Path.{refl}
use Rattle.streamcheck_session.proofs.session.is_roomy.Goals as goal

pub returns : goal.returns
returns c = refl
