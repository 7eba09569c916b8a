-- `head_at` reads the six values beside a packet's records.
-- By the place of each field.
use Prim.Native.Nat.{ℕ, ◌+◌, ◌*◌, ◌<◌, ◌≤◌}
use native.Mathlib.Omega.{arith}
use lib.ListN.{length, get_or}
use Rattle.wire_spec.specs.Packet.{header_least, packet_read}
use Rattle.wire_spec.proofs.BitLaws.{bits_at-lt}
use Rattle.wire_spec.proofs.LayoutLaws.{places}
use Rattle.rtp_strict_reader.proofs.HeaderFields.{type_at, marker-at, extended-at}
use Rattle.rtp_strict_reader.proofs.check.head_at.Goals as goal

pub bounds-octets-1 : goal.bounds-octets-1
bounds-octets-1 c = let long : c.args.header.0 + 5 ≤ length c.args.octets.now = omega (arith, c.requires, (places c.args.layout).payload-least) in
    omega (arith, long, c.requires)

pub pair_at-high-requires : goal.pair_at-high-requires
pair_at-high-requires c = let long : c.args.header.0 + 5 ≤ length c.args.octets.now = omega (arith, c.requires, (places c.args.layout).payload-least) in
    omega (arith, long)

pub pair_at-low-requires : goal.pair_at-low-requires
pair_at-low-requires c = let long : c.args.header.0 + 5 ≤ length c.args.octets.now = omega (arith, c.requires, (places c.args.layout).payload-least) in
    omega (arith, long, c.requires)

pub quad_at-requires : goal.quad_at-requires
quad_at-requires c = let long : c.args.header.0 + 5 ≤ length c.args.octets.now = omega (arith, c.requires, (places c.args.layout).payload-least) in
    omega (arith, long, c.requires)

pub overflow_mul-result : goal.overflow_mul-result
overflow_mul-result c = let small : c.pair_at-high.result * 65536 + c.pair_at-low.result < 4294967296 = let a = c.args in
    omega (arith, c.pair_at-high.ensures, bits_at-lt a.octets.now (8 * a.header.0) 16, c.pair_at-low.ensures, bits_at-lt a.octets.now 16 16) in
    omega (arith, small)

pub overflow_add-result : goal.overflow_add-result
overflow_add-result c = let small : c.pair_at-high.result * 65536 + c.pair_at-low.result < 4294967296 = let a = c.args in
    omega (arith, c.pair_at-high.ensures, bits_at-lt a.octets.now (8 * a.header.0) 16, c.pair_at-low.ensures, bits_at-lt a.octets.now 16 16) in
    omega (arith, small)

pub overflow_cast-result-2 : goal.overflow_cast-result-2
overflow_cast-result-2 c = let small : c.pair_at-high.result * 65536 + c.pair_at-low.result < 4294967296 = let a = c.args in
    omega (arith, c.pair_at-high.ensures, bits_at-lt a.octets.now (8 * a.header.0) 16, c.pair_at-low.ensures, bits_at-lt a.octets.now 16 16) in
    omega (arith, small)

pub quad_at-requires-2 : goal.quad_at-requires-2
quad_at-requires-2 c = let long : c.args.header.0 + 5 ≤ length c.args.octets.now = omega (arith, c.requires, (places c.args.layout).payload-least) in
    omega (arith, long, c.requires)

pub f_at-requires : goal.f_at-requires
f_at-requires c = (c.requires.0, c.requires.2)

pub returns : goal.returns
unfolding packet_read
returns c = let long : c.args.header.0 + 5 ≤ length c.args.octets.now = omega (arith, c.requires, (places c.args.layout).payload-least) in
    let a = c.args in
    let s = a.octets.now in
    let o : (j : ℕ) → get_or s j 0 < 256 = λ j. (c.shared_slice_known-1.given j).fits in
    let five = long in
    let l : header_least ≤ length s = omega arith in
    rw (
      c.quad_at.ensures,
      c.wide-second.ensures,
      c.pair_at-high.ensures,
      c.pair_at-low.ensures,
      c.quad_at-2.ensures,
      c.f_at.ensures,
      type_at s o l,
      marker-at s o l,
      extended-at s o a.header.0 c.requires.0 five,
    )
