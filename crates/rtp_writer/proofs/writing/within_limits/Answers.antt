-- `within_limits` tests 21's limits.
-- By computation.
use mathlib.Core.Path.{refl}
use Rattle.rtp_writer.proofs.writing.within_limits.Goals as goal

pub returns : goal.returns
returns c = refl
