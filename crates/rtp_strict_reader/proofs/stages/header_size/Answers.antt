-- `header_size` finds the RTP header's octets, or more than there are.
-- By cases: no extension, an extension whose first four octets are cut, an extension.
use Prim.Native.Nat.{◌<◌, ◌+◌, ◌*◌, ◌%◌}
use native.Mathlib.Omega.{arith}
use Rattle.wire_spec.specs.Packet.{header_least}
use Rattle.wire_spec.proofs.BitLaws.{bits_at-lt}
use Rattle.rtp_strict_reader.proofs.HeaderFields.{size-without, size-cut, size-with}
use Rattle.rtp_strict_reader.proofs.stages.header_size.Goals as goal

pub returns-then-first-eq0 : goal.returns-then-first-eq0
returns-then-first-eq0 c = rw c.wide-first.ensures (size-without c.args.octets.now (λ j. (c.shared_slice_known-1.given j).fits) c.requires (rw c.wide-first.ensures at c.if-first-eq0.true))

pub returns-then-octets-least : goal.returns-then-octets-least
returns-then-octets-least c = rw c.wide-first.ensures (size-cut c.args.octets.now (λ j. (c.shared_slice_known-1.given j).fits) c.requires (rw c.wide-first.ensures at c.if-first-eq0.false) (rw c.wide-first.ensures at c.if-octets-least.true))

pub overflow_mul-result : goal.overflow_mul-result
overflow_mul-result c = let small : c.pair_at.result < 65536 = omega (arith, c.pair_at.ensures, bits_at-lt c.args.octets.now (8 * (header_least + 4 * (c.wide-first.result % 16) + 2)) 16) in
    omega (arith, small)

pub overflow_add-result : goal.overflow_add-result
overflow_add-result c = let small : c.pair_at.result < 65536 = omega (arith, c.pair_at.ensures, bits_at-lt c.args.octets.now (8 * (header_least + 4 * (c.wide-first.result % 16) + 2)) 16) in
    omega (arith, small)

pub returns : goal.returns
returns c = rw c.wide-first.ensures (size-with c.args.octets.now (λ j. (c.shared_slice_known-1.given j).fits) c.requires (rw c.wide-first.ensures at c.if-first-eq0.false) c.pair_at.result (rw c.wide-first.ensures at c.pair_at.ensures))
