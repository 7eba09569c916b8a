-- `fits` tests a field's limits and the store's.
-- By computation.
use Rattle.std.proofs.Common.{refl}
use Rattle.depacketizer.proofs.decide.fits.Goals as goal

pub returns : goal.returns
returns c = refl
