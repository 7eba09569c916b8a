-- `put_labelled` puts a label and, behind it, a number.
-- Two pieces one behind the other are one piece.
use native.Mathlib.Omega.{arith}
use Rattle.text.proofs.PutLaws.{both}
use Rattle.text.proofs.put_labelled.Goals as goal

pub returns : goal.returns
returns c = record { put = both c.put-next.ensures.put c.put_decimal.ensures.put; upper_bound = omega (arith, c.put-next.ensures.value, c.put_decimal.ensures.upper_bound) }
