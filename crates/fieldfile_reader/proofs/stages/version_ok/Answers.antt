-- `version_ok` tests for the versions that are read.
-- By computation.
use mathlib.Core.Path.{refl}
use Rattle.fieldfile_reader.proofs.stages.version_ok.Goals as goal

pub returns : goal.returns
returns c = refl
