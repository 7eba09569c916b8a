-- `check` tells what a packet says and where its ANC data packets stand, or gives the refusal.
-- Stage by stage: what each stage told is carried to the next.
use mathlib.Core.Path.{◌≡◌, refl, sym, ◌∙◌, subst}
use Prim.Native.Nat.{ℕ, ◌≤◌}
use native.Mathlib.Omega.{arith}
use lib.ListN.{length}
use Rattle.wire_spec.specs.Packet.{header_size, payload_size, length_field, header_checks, padding_checks, payload_checks}
use Rattle.wire_spec.proofs.ResultLaws.{Passed}
use Rattle.wire_spec.proofs.PacketLaws.{header-sizes, padding-sizes}
use Rattle.wire_offsets.proofs.StageLaws.{stage-passed}
use Rattle.rtp_strict_reader.proofs.StageLaws.{refused-header, refused-padding, refused-payload, front-passed}
use Rattle.std.proofs.lemmas.Result.{err_from_is_err_and}
use Rattle.rtp_strict_reader.proofs.check.check.Goals as goal

pub returns-in_err-header : goal.returns-in_err-header
returns-in_err-header c = let s = c.args.octets.now in
    let p = err_from_is_err_and c.from_residual.result c.from_residual.ensures.1 in
    rw (p.1, p.2, refused-header c.args.layout s _ (sym c.check_header.ensures ∙ c.in_err-header.was)) refl

pub check_padding-requires : goal.check_padding-requires
check_padding-requires c = let header-passed : Passed (header_checks c.args.octets.now) × (header_size c.args.octets.now ≡ c.in_ok-header.header.0) = stage-passed (header_checks c.args.octets.now) (header_size c.args.octets.now) _ (sym c.check_header.ensures ∙ c.in_ok-header.was) in
    let s = c.args.octets.now in
    let p = header-passed in
    let z = header-sizes s p.0 in
    (sym p.1, subst (λ (x : ℕ). x ≤ length s) p.1 z.header, z.least)

pub returns-in_err-payload : goal.returns-in_err-payload
returns-in_err-payload c = let header-passed : Passed (header_checks c.args.octets.now) × (header_size c.args.octets.now ≡ c.in_ok-header.header.0) = stage-passed (header_checks c.args.octets.now) (header_size c.args.octets.now) _ (sym c.check_header.ensures ∙ c.in_ok-header.was) in
    let s = c.args.octets.now in
    let p = err_from_is_err_and c.from_residual-in_err-payload.result c.from_residual-in_err-payload.ensures.1 in
    rw (p.1, p.2, refused-padding c.args.layout s (header-passed).0 _ (sym c.check_padding.ensures ∙ c.in_err-payload.was)) refl

pub check_payload-requires : goal.check_payload-requires
check_payload-requires c = let header-passed : Passed (header_checks c.args.octets.now) × (header_size c.args.octets.now ≡ c.in_ok-header.header.0) = stage-passed (header_checks c.args.octets.now) (header_size c.args.octets.now) _ (sym c.check_header.ensures ∙ c.in_ok-header.was) in
    let padding-passed : Passed (padding_checks c.args.layout c.args.octets.now) × (payload_size c.args.octets.now ≡ c.in_ok-payload.payload.0) = stage-passed (padding_checks c.args.layout c.args.octets.now) (payload_size c.args.octets.now) _ (sym c.check_padding.ensures ∙ c.in_ok-payload.was) in
    let s = c.args.octets.now in
    let p = header-passed in
    let q = padding-passed in
    let z = padding-sizes c.args.layout s p.0 q.0 in
    record { header_value = (sym p.1, sym q.1); layout_bound = (omega (arith, p.1, q.1, z.payload), omega (arith, p.1, q.1, z.payload)) }

pub returns-in_err-length : goal.returns-in_err-length
returns-in_err-length c = let header-passed : Passed (header_checks c.args.octets.now) × (header_size c.args.octets.now ≡ c.in_ok-header.header.0) = stage-passed (header_checks c.args.octets.now) (header_size c.args.octets.now) _ (sym c.check_header.ensures ∙ c.in_ok-header.was) in
    let padding-passed : Passed (padding_checks c.args.layout c.args.octets.now) × (payload_size c.args.octets.now ≡ c.in_ok-payload.payload.0) = stage-passed (padding_checks c.args.layout c.args.octets.now) (payload_size c.args.octets.now) _ (sym c.check_padding.ensures ∙ c.in_ok-payload.was) in
    let s = c.args.octets.now in
    let p = err_from_is_err_and c.from_residual-in_err-length.result c.from_residual-in_err-length.ensures.1 in
    rw (p.1, p.2, refused-payload c.args.layout s (header-passed).0 (padding-passed).0 _ (sym c.check_payload.ensures ∙ c.in_err-length.was)) refl

pub check_packets-requires : goal.check_packets-requires
check_packets-requires c = let header-passed : Passed (header_checks c.args.octets.now) × (header_size c.args.octets.now ≡ c.in_ok-header.header.0) = stage-passed (header_checks c.args.octets.now) (header_size c.args.octets.now) _ (sym c.check_header.ensures ∙ c.in_ok-header.was) in
    let padding-passed : Passed (padding_checks c.args.layout c.args.octets.now) × (payload_size c.args.octets.now ≡ c.in_ok-payload.payload.0) = stage-passed (padding_checks c.args.layout c.args.octets.now) (payload_size c.args.octets.now) _ (sym c.check_padding.ensures ∙ c.in_ok-payload.was) in
    let payload-passed : Passed (payload_checks c.args.layout c.args.octets.now) × (length_field c.args.octets.now ≡ c.in_ok-length.length.0) = stage-passed (payload_checks c.args.layout c.args.octets.now) (length_field c.args.octets.now) _ (sym c.check_payload.ensures ∙ c.in_ok-length.was) in
    let s = c.args.octets.now in
    let h = header-passed in
    let l = payload-passed in
    front-passed c.args.layout s h.0 (padding-passed).0 l.0 _ _ h.1 l.1
