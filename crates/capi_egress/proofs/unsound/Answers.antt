-- `unsound` is 64, with index 0.
-- By computation.
use mathlib.Core.Path.{refl}
use Rattle.capi_egress.proofs.unsound.Goals as goal

pub returns : goal.returns
returns c = refl
