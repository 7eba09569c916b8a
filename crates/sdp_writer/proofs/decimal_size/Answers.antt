-- `decimal_size` counts the digits of a number.
-- By whether it is below ten, and below a hundred.
use mathlib.Core.Path.{ap, sym}
use native.Mathlib.Omega.{arith}
use lib.ListN.{length}
use Rattle.sdp_spec.proofs.WritingLaws.{decimal-one, decimal-two, decimal-three}
use Rattle.sdp_writer.proofs.decimal_size.Goals as goal

pub returns-then-n-lt10 : goal.returns-then-n-lt10
returns-then-n-lt10 c = sym (ap length (decimal-one _ c.if-n-lt10.true))

pub returns-then-n-lt100 : goal.returns-then-n-lt100
returns-then-n-lt100 c = sym (ap length (decimal-two _ c.if-n-lt10.false c.if-n-lt100.true))

pub returns : goal.returns
returns c = sym (ap length (decimal-three _ c.if-n-lt100.false (omega arith)))
