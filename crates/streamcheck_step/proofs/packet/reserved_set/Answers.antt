-- `reserved_set` tells whether reserved bits are set.
-- By the layout: the last bits of four octets, or no bits.
use Rattle.std.proofs.Common.{◌+◌, ◌≤◌, length, subst, arith}
use Rattle.wire_spec.specs.Layout.{Layout, rfc8331, payload_header_size}
use Rattle.wire_spec.proofs.BitLaws.{no_bits}
use Rattle.streamcheck_step.proofs.ReservedLaws.{reserved-at}
use Rattle.streamcheck_step.proofs.packet.reserved_set.Goals as goal

pub quad_at-requires : goal.quad_at-requires
quad_at-requires c = let there : c.args.header.0 + payload_header_size rfc8331 ≤ length c.args.octets.now = let a = c.args in
    subst (λ (L : Layout). a.header.0 + payload_header_size L ≤ length a.octets.now) c.in-Rfc8331.is c.requires.1 in
    omega (arith, there)

pub returns-in-Rfc8331 : goal.returns-in-Rfc8331
returns-in-Rfc8331 c = let there : c.args.header.0 + payload_header_size rfc8331 ≤ length c.args.octets.now = let a = c.args in
    subst (λ (L : Layout). a.header.0 + payload_header_size L ≤ length a.octets.now) c.in-Rfc8331.is c.requires.1 in
    let a = c.args in
    let e = reserved-at a.octets.now (λ j. (c.shared_slice_known-1.given j).fits) a.header.0 c.requires.0 (there) in
    rw (c.in-Rfc8331.is, e, c.quad_at.ensures)

pub returns-in-Draft2015 : goal.returns-in-Draft2015
returns-in-Draft2015 c = rw (c.in-Draft2015.is, no_bits c.args.octets.now _)
