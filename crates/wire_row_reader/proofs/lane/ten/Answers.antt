-- `ten` is what a mask keeps, multiplied and divided.
-- A mask keeps no more than itself, so the product fits.
use native.Mathlib.Nat.{mul-le-mul_right}
use native.Mathlib.Omega.{arith}
use lib.Bits.{and_le_r}
use Rattle.wire_row_reader.proofs.lane.ten.Goals as goal

pub overflow_mul-result : goal.overflow_mul-result
overflow_mul-result c = omega (arith, mul-le-mul_right c.args.factor (and_le_r c.args.x c.args.mask))
