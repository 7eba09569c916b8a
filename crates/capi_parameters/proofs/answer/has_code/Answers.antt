-- `has_code` gives 1 where there is a VPID code, and 0 where not.
-- By the two cases.
use mathlib.Core.Path.{ap, sym}
use Rattle.capi_parameters.specs.Rows.{has_code}
use Rattle.capi_parameters.proofs.answer.has_code.Goals as goal

pub returns-in-Some : goal.returns-in-Some
returns-in-Some c = ap has_code (sym c.in-Some.is)

pub returns-in-None : goal.returns-in-None
returns-in-None c = ap has_code (sym c.in-None.is)
