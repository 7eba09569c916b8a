-- `region_of` tells where a packet's ANC data packets stand.
-- By the place of each field; the stages before say that they are there.
use mathlib.Core.Path.{◌≡◌, sym, ◌∙◌}
use Prim.Native.Nat.{ℕ, ◌+◌, ◌<◌, ◌≤◌}
use native.Mathlib.Omega.{arith}
use lib.ListN.{length, get_or}
use Rattle.wire_spec.specs.Packet.{header_size, length_field, run_at}
use Rattle.wire_spec.proofs.LayoutLaws.{places}
use Rattle.rtp_strict_reader.proofs.HeaderFields.{length_at, count_at}
use Rattle.rtp_reader.proofs.RegionLaws.{Inside, inside}
use Rattle.rtp_reader.proofs.through.region_of.Goals as goal

pub header_size-header-requires : goal.header_size-header-requires
header_size-header-requires c = let there : Inside c.args.layout c.args.octets.now c.requires = inside c.args.layout c.args.octets.now c.requires in
    (there).least

pub overflow_add-at : goal.overflow_add-at
overflow_add-at c = let there : Inside c.args.layout c.args.octets.now c.requires = inside c.args.layout c.args.octets.now c.requires in
    let header_is : c.header_size-header.result.0 ≡ header_size c.args.octets.now = c.header_size-header.ensures.whole (there).header in
    omega (arith, header_is, c.payload_header_size.ensures, (there).whole)

pub overflow_add-from : goal.overflow_add-from
overflow_add-from c = let there : Inside c.args.layout c.args.octets.now c.requires = inside c.args.layout c.args.octets.now c.requires in
    let header_is : c.header_size-header.result.0 ≡ header_size c.args.octets.now = c.header_size-header.ensures.whole (there).header in
    let long : c.header_size-header.result.0 + 5 ≤ length c.args.octets.now = omega (arith, header_is, (there).whole, (places c.args.layout).payload-least) in
    omega (arith, long)

pub pair_at-length-requires : goal.pair_at-length-requires
pair_at-length-requires c = let there : Inside c.args.layout c.args.octets.now c.requires = inside c.args.layout c.args.octets.now c.requires in
    let header_is : c.header_size-header.result.0 ≡ header_size c.args.octets.now = c.header_size-header.ensures.whole (there).header in
    let long : c.header_size-header.result.0 + 5 ≤ length c.args.octets.now = omega (arith, header_is, (there).whole, (places c.args.layout).payload-least) in
    omega (arith, long)

pub overflow_add-result : goal.overflow_add-result
overflow_add-result c = let there : Inside c.args.layout c.args.octets.now c.requires = inside c.args.layout c.args.octets.now c.requires in
    let octet : (j : ℕ) → get_or c.args.octets.now j 0 < 256 = λ j. (c.shared_slice_known-1.given j).fits in
    let header_is : c.header_size-header.result.0 ≡ header_size c.args.octets.now = c.header_size-header.ensures.whole (there).header in
    let long : c.header_size-header.result.0 + 5 ≤ length c.args.octets.now = omega (arith, header_is, (there).whole, (places c.args.layout).payload-least) in
    let length-is : c.pair_at-length.result ≡ length_field c.args.octets.now = c.pair_at-length.ensures ∙ length_at c.args.octets.now (octet) c.header_size-header.result.0 (header_is) (long) in
    omega (arith, header_is, c.payload_header_size.ensures, length-is, (there).whole)

pub overflow_add-result-2 : goal.overflow_add-result-2
overflow_add-result-2 c = let there : Inside c.args.layout c.args.octets.now c.requires = inside c.args.layout c.args.octets.now c.requires in
    let header_is : c.header_size-header.result.0 ≡ header_size c.args.octets.now = c.header_size-header.ensures.whole (there).header in
    let long : c.header_size-header.result.0 + 5 ≤ length c.args.octets.now = omega (arith, header_is, (there).whole, (places c.args.layout).payload-least) in
    omega (arith, long)

pub bounds-octets-from : goal.bounds-octets-from
bounds-octets-from c = let there : Inside c.args.layout c.args.octets.now c.requires = inside c.args.layout c.args.octets.now c.requires in
    let header_is : c.header_size-header.result.0 ≡ header_size c.args.octets.now = c.header_size-header.ensures.whole (there).header in
    let long : c.header_size-header.result.0 + 5 ≤ length c.args.octets.now = omega (arith, header_is, (there).whole, (places c.args.layout).payload-least) in
    omega (arith, long)

pub returns : goal.returns
returns c = let there : Inside c.args.layout c.args.octets.now c.requires = inside c.args.layout c.args.octets.now c.requires in
    let octet : (j : ℕ) → get_or c.args.octets.now j 0 < 256 = λ j. (c.shared_slice_known-1.given j).fits in
    let header_is : c.header_size-header.result.0 ≡ header_size c.args.octets.now = c.header_size-header.ensures.whole (there).header in
    let long : c.header_size-header.result.0 + 5 ≤ length c.args.octets.now = omega (arith, header_is, (there).whole, (places c.args.layout).payload-least) in
    let length-is : c.pair_at-length.result ≡ length_field c.args.octets.now = c.pair_at-length.ensures ∙ length_at c.args.octets.now (octet) c.header_size-header.result.0 (header_is) (long) in
    let a = c.args in
    let h = header_is in
    let at : c.header_size-header.result.0 + c.payload_header_size.result ≡ run_at a.layout a.octets.now = omega (arith, h, c.payload_header_size.ensures) in
    let end : c.header_size-header.result.0 + c.payload_header_size.result + c.pair_at-length.result ≡ run_at a.layout a.octets.now + length_field a.octets.now =
    omega (arith, at, length-is) in
    let count = sym (count_at a.octets.now (octet) c.header_size-header.result.0 h (long)) in
    λ i. record { header = record { 0 = h i }; at = at i; end = end i; count = count i }
