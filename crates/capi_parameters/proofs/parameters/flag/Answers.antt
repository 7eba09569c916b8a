-- `flag` gives 1 for a yes, and 0 for a no.
use mathlib.Core.Path.{ap, sym}
use Rattle.wire_spec.specs.Bits.{bit}
use Rattle.capi_parameters.proofs.parameters.flag.Goals as goal

pub returns-then-is : goal.returns-then-is
returns-then-is c = ap bit (sym c.if-is.true)

pub returns-else-is : goal.returns-else-is
returns-else-is c = ap bit (sym c.if-is.false)
