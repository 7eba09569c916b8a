-- `f_at` is F, or 0 in a layout that has none.
-- By the layout: two bits of an octet, or no bits.
use mathlib.Core.Path.{sym, subst}
use Prim.Native.Nat.{◌+◌, ◌≤◌}
use native.Mathlib.Omega.{arith}
use lib.ListN.{length}
use Rattle.wire_spec.specs.Layout.{Layout, rfc8331, payload_header_size}
use Rattle.wire_spec.proofs.BitLaws.{no_bits}
use Rattle.rtp_strict_reader.proofs.HeaderFields.{f-at}
use Rattle.rtp_strict_reader.proofs.stages.f_at.Goals as goal

pub overflow_add-result : goal.overflow_add-result
overflow_add-result c = let there : c.args.at + payload_header_size rfc8331 ≤ length c.args.octets.now = subst (λ (L : Layout). c.args.at + payload_header_size L ≤ length c.args.octets.now) c.in-Rfc8331.is c.requires.1 in
    omega (arith, there)

pub bounds-octets-at : goal.bounds-octets-at
bounds-octets-at c = let there : c.args.at + payload_header_size rfc8331 ≤ length c.args.octets.now = subst (λ (L : Layout). c.args.at + payload_header_size L ≤ length c.args.octets.now) c.in-Rfc8331.is c.requires.1 in
    omega (arith, there)

pub returns-in-Rfc8331 : goal.returns-in-Rfc8331
returns-in-Rfc8331 c = let there : c.args.at + payload_header_size rfc8331 ≤ length c.args.octets.now = subst (λ (L : Layout). c.args.at + payload_header_size L ≤ length c.args.octets.now) c.in-Rfc8331.is c.requires.1 in
    rw c.in-Rfc8331.is
    (sym (f-at c.args.octets.now (λ j. (c.shared_slice_known-1.given j).fits) c.args.at c.requires.0 (omega (arith, there)) (there)))

pub returns-in-Draft2015 : goal.returns-in-Draft2015
returns-in-Draft2015 c = rw c.in-Draft2015.is (sym (no_bits c.args.octets.now _))
