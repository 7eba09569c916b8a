-- `put_numbered` puts a number and, behind it, a text.
-- Two pieces one behind the other are one piece.
use native.Mathlib.Omega.{arith}
use Rattle.text.proofs.PutLaws.{both}
use Rattle.text.proofs.put_numbered.Goals as goal

pub returns : goal.returns
returns c = record { put = both c.put_decimal-next.ensures.put c.put.ensures.put; upper_bound = omega (arith, c.put_decimal-next.ensures.upper_bound, c.put.ensures.value) }
