-- `packet_size` is the size that the definition rounds up.
-- By the law of the octets taken up to a whole unit.
use Prim.Native.Nat.{◌+◌, ◌*◌, ◌/◌}
use native.Mathlib.Nat.{mod-le}
use native.Mathlib.Omega.{arith}
use Rattle.wire_spec.specs.Words.{word_bits}
use Rattle.wire_offsets.proofs.SizeTaken.{rounded-near, unit-some, size-taken}
use Rattle.wire_offsets.proofs.packet_size.Goals as goal

pub overflow_add-octets : goal.overflow_add-octets
overflow_add-octets c = omega (arith, c.rounded.ensures, rounded-near c.args.layout)

pub nonzero_rem-result : goal.nonzero_rem-result
nonzero_rem-result c = omega (arith, c.unit.ensures, unit-some c.args.layout)

pub overflow_sub-result : goal.overflow_sub-result
overflow_sub-result c = omega (arith, mod-le ((c.rounded.result + word_bits * c.args.words.0) / 8) c.unit.result)

pub returns : goal.returns
returns c = let a = c.args in
    rw (c.unit.ensures, c.rounded.ensures) (size-taken a.layout a.words.0)
