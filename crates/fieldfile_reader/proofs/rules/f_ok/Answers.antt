-- `f_ok` tests the F of a field for 53.
-- By computation.
use mathlib.Core.Path.{refl}
use Rattle.fieldfile_reader.proofs.rules.f_ok.Goals as goal

pub returns : goal.returns
returns c = refl
