-- `position_fits` tests the position's fields.
-- By the definition.
use mathlib.Core.Path.{refl}
use Rattle.sdi_spec.specs.Line.{position_ok}
use Rattle.sdi_check.proofs.check.position_fits.Goals as goal

pub returns : goal.returns
unfolding position_ok
returns c = refl
