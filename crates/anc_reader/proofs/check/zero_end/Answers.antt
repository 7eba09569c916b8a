-- `zero_end` tests the bits behind the body.
-- They are a remainder of the packet's last four octets.
use Prim.Native.Nat.{◌*◌, ◌-◌}
use native.Mathlib.Omega.{arith}
use lib.Pow.{pow_pos}
use Rattle.anc_reader.proofs.PacketLaws.{unit, last-bits}
use Rattle.anc_reader.proofs.check.zero_end.Goals as goal

pub nonzero_rem-result : goal.nonzero_rem-result
nonzero_rem-result c = let a = c.args in
    let left = 8 * a.size.0 - a.body in
    rw (unit left (omega (arith, c.requires))) (pow_pos left)

pub returns : goal.returns
returns c = let a = c.args in
    rw (c.quad_at.ensures, unit (8 * a.size.0 - a.body) (omega arith))
    (last-bits a.octets.now a.body a.size.0 (omega arith) (omega arith) (omega arith) (omega arith))
