-- `lane` is the ten bits that start in an octet, at the place of its lane.
-- By the lane's mask and factor.
use mathlib.Core.Path.{◌≡◌}
use Prim.Native.Nat.{◌+◌}
use native.Mathlib.Omega.{arith}
use Rattle.wire_row_reader.proofs.LaneLaws.{lane-fits, lane-is}
use Rattle.wire_row_reader.proofs.lane.lane.Goals as goal

pub ten-requires : goal.ten-requires
ten-requires c = let a = c.args in
    let e : a.z + a.j ≡ a.j = omega arith in
    rw (c.requires.2, e) (lane-fits a.j c.requires.4)

pub returns : goal.returns
returns c = let a = c.args in
    let e : a.z + a.j ≡ a.j = omega arith in
    rw (c.ten.ensures, c.pair.ensures, c.requires.1, c.requires.2, e)
    (lane-is a.octets.now (λ j. (c.shared_slice_known-1.given j).fits) a.at c.requires.0 a.j c.requires.4)
