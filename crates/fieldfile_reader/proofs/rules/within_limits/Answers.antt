-- `within_limits` tests 21's limits.
-- By computation.
use mathlib.Core.Path.{refl}
use Rattle.fieldfile_reader.proofs.rules.within_limits.Goals as goal

pub returns : goal.returns
returns c = refl
