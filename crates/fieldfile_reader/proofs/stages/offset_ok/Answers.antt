-- `offset_ok` tests an offset for 55.
-- By computation.
use mathlib.Core.Path.{refl}
use Rattle.fieldfile_reader.proofs.stages.offset_ok.Goals as goal

pub returns : goal.returns
returns c = refl
