-- `head_ok` tests the limits of the six values.
-- By computation.
use mathlib.Core.Path.{refl}
use Rattle.rtp_writer.proofs.writing.head_ok.Goals as goal

pub returns : goal.returns
returns c = refl
