-- `rows_fit` tests whether both rows are long enough.
-- By computation.
use mathlib.Core.Path.{refl}
use Rattle.capi_egress.proofs.rows_fit.Goals as goal

pub returns : goal.returns
returns c = refl
