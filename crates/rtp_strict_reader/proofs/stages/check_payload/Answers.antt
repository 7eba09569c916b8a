-- `check_payload` gives 6, 7 or 8, or the octets of the ANC data packets.
-- Each test is the definition's, and the first that fails decides.
use mathlib.Core.Path.{◌≡◌, ap, ap₂, sym, ◌∙◌}
use mathlib.Core.Bool.{not, ◌||◌}
use Prim.Native.Nat.{ℕ, ◌+◌, ◌-◌, ◌<◌, ◌≤◌}
use native.Mathlib.Omega.{arith}
use borrow.Author.Tests.{eq-eqb, ne_eqb}
use lib.Dec.{eqb}
use lib.ListN.{length, get_or}
use Rattle.wire_spec.specs.Layout.{payload_header_size}
use Rattle.wire_spec.specs.Result.{Ok}
use Rattle.wire_spec.specs.Packet.{payload_size, length_field, anc_count, f_field, payload_checks}
use Rattle.wire_spec.proofs.LayoutLaws.{places}
use Rattle.wire_spec.proofs.ResultLaws.{judge-fails, judge-passes}
use Rattle.wire_offsets.specs.Stage.{stage_of}
use Rattle.rtp_strict_reader.proofs.HeaderFields.{length_at, count_at}
use Rattle.rtp_strict_reader.proofs.stages.check_payload.Goals as goal

pub overflow_add-at : goal.overflow_add-at
overflow_add-at c = let long : c.args.header.0 + 5 ≤ length c.args.octets.now = omega (arith, c.requires, (places c.args.layout).payload-least) in
    omega (arith, long)

pub pair_at-requires : goal.pair_at-requires
pair_at-requires c = let long : c.args.header.0 + 5 ≤ length c.args.octets.now = omega (arith, c.requires, (places c.args.layout).payload-least) in
    omega (arith, long)

pub f_at-f_valid-requires : goal.f_at-f_valid-requires
f_at-f_valid-requires c = (c.requires.header_value.0, omega (arith, c.requires))

pub overflow_sub-length_right : goal.overflow_sub-length_right
overflow_sub-length_right c = omega (arith, c.requires, c.payload_header_size.ensures)

pub overflow_add-counted : goal.overflow_add-counted
overflow_add-counted c = let long : c.args.header.0 + 5 ≤ length c.args.octets.now = omega (arith, c.requires, (places c.args.layout).payload-least) in
    omega (arith, long)

pub bounds-octets-at : goal.bounds-octets-at
bounds-octets-at c = let long : c.args.header.0 + 5 ≤ length c.args.octets.now = omega (arith, c.requires, (places c.args.layout).payload-least) in
    omega (arith, long)

pub returns-then-not-f_valid : goal.returns-then-not-f_valid
unfolding payload_checks
returns-then-not-f_valid c = let f-valid : not (eqb c.f_at-f_valid.result 1) ≡ not (eqb (f_field c.args.layout c.args.octets.now) 1) = ap (λ (x : ℕ). not (eqb x 1)) c.f_at-f_valid.ensures in
    let s = c.args.octets.now in
    c.refuse.ensures ∙ sym (ap stage_of (judge-fails 0 0 (payload_checks c.args.layout s) (Ok (length_field s)) tt (sym (f-valid) ∙ ap not (eq-eqb _ 1 c.if-not-f_valid.true))))

pub returns-then-not-length_right : goal.returns-then-not-length_right
unfolding payload_checks
returns-then-not-length_right c = let long : c.args.header.0 + 5 ≤ length c.args.octets.now = omega (arith, c.requires, (places c.args.layout).payload-least) in
    let octet : (j : ℕ) → get_or c.args.octets.now j 0 < 256 = λ j. (c.shared_slice_known-1.given j).fits in
    let found : c.pair_at.result ≡ length_field c.args.octets.now = c.pair_at.ensures ∙ length_at c.args.octets.now (octet) c.args.header.0 c.requires.header_value.0 (long) in
    let f-valid : not (eqb c.f_at-f_valid.result 1) ≡ not (eqb (f_field c.args.layout c.args.octets.now) 1) = ap (λ (x : ℕ). not (eqb x 1)) c.f_at-f_valid.ensures in
    let length-right : eqb c.pair_at.result (c.args.payload.0 - c.payload_header_size.result) ≡ eqb (length_field c.args.octets.now) (payload_size c.args.octets.now - payload_header_size c.args.layout) = ap₂ eqb (found) (ap₂ (λ (x y : ℕ). x - y) c.requires.header_value.1 c.payload_header_size.ensures) in
    let s = c.args.octets.now in
    let f = sym (f-valid) ∙ ap not (ne_eqb _ 1 c.if-not-f_valid.false) in
    c.refuse-then-not-length_right.ensures ∙ sym (ap stage_of (judge-fails 0 1 (payload_checks c.args.layout s) (Ok (length_field s)) (f, tt) (sym (length-right) ∙ ne_eqb _ _ c.if-not-length_right.true)))

pub returns-then-not-counted : goal.returns-then-not-counted
unfolding payload_checks
returns-then-not-counted c = let long : c.args.header.0 + 5 ≤ length c.args.octets.now = omega (arith, c.requires, (places c.args.layout).payload-least) in
    let octet : (j : ℕ) → get_or c.args.octets.now j 0 < 256 = λ j. (c.shared_slice_known-1.given j).fits in
    let found : c.pair_at.result ≡ length_field c.args.octets.now = c.pair_at.ensures ∙ length_at c.args.octets.now (octet) c.args.header.0 c.requires.header_value.0 (long) in
    let f-valid : not (eqb c.f_at-f_valid.result 1) ≡ not (eqb (f_field c.args.layout c.args.octets.now) 1) = ap (λ (x : ℕ). not (eqb x 1)) c.f_at-f_valid.ensures in
    let length-right : eqb c.pair_at.result (c.args.payload.0 - c.payload_header_size.result) ≡ eqb (length_field c.args.octets.now) (payload_size c.args.octets.now - payload_header_size c.args.layout) = ap₂ eqb (found) (ap₂ (λ (x y : ℕ). x - y) c.requires.header_value.1 c.payload_header_size.ensures) in
    let counted : not (eqb (get_or c.args.octets.now (c.args.header.0 + 4) 0) 0) || eqb c.pair_at.result 0 ≡ not (eqb (anc_count c.args.octets.now) 0) || eqb (length_field c.args.octets.now) 0 = ap₂ (λ (x y : ℕ). not (eqb x 0) || eqb y 0)
    (sym (count_at c.args.octets.now (octet) c.args.header.0 c.requires.header_value.0 (long))) (found) in
    let s = c.args.octets.now in
    let f = sym (f-valid) ∙ ap not (ne_eqb _ 1 c.if-not-f_valid.false) in
    let l = sym (length-right) ∙ eq-eqb _ _ c.if-not-length_right.false in
    c.refuse-then-not-counted.ensures ∙ sym (ap stage_of (judge-fails 0 2 (payload_checks c.args.layout s) (Ok (length_field s)) (f, (l, tt)) (sym (counted) ∙ c.if-not-counted.true)))

pub returns : goal.returns
unfolding payload_checks
returns c = let long : c.args.header.0 + 5 ≤ length c.args.octets.now = omega (arith, c.requires, (places c.args.layout).payload-least) in
    let octet : (j : ℕ) → get_or c.args.octets.now j 0 < 256 = λ j. (c.shared_slice_known-1.given j).fits in
    let found : c.pair_at.result ≡ length_field c.args.octets.now = c.pair_at.ensures ∙ length_at c.args.octets.now (octet) c.args.header.0 c.requires.header_value.0 (long) in
    let f-valid : not (eqb c.f_at-f_valid.result 1) ≡ not (eqb (f_field c.args.layout c.args.octets.now) 1) = ap (λ (x : ℕ). not (eqb x 1)) c.f_at-f_valid.ensures in
    let length-right : eqb c.pair_at.result (c.args.payload.0 - c.payload_header_size.result) ≡ eqb (length_field c.args.octets.now) (payload_size c.args.octets.now - payload_header_size c.args.layout) = ap₂ eqb (found) (ap₂ (λ (x y : ℕ). x - y) c.requires.header_value.1 c.payload_header_size.ensures) in
    let counted : not (eqb (get_or c.args.octets.now (c.args.header.0 + 4) 0) 0) || eqb c.pair_at.result 0 ≡ not (eqb (anc_count c.args.octets.now) 0) || eqb (length_field c.args.octets.now) 0 = ap₂ (λ (x y : ℕ). not (eqb x 0) || eqb y 0)
    (sym (count_at c.args.octets.now (octet) c.args.header.0 c.requires.header_value.0 (long))) (found) in
    let s = c.args.octets.now in
    let f = sym (f-valid) ∙ ap not (ne_eqb _ 1 c.if-not-f_valid.false) in
    let l = sym (length-right) ∙ eq-eqb _ _ c.if-not-length_right.false in
    let k = sym (counted) ∙ c.if-not-counted.false in
    ap (λ (x : ℕ). Ok (record { 0 = x })) (found) ∙ sym (ap stage_of (judge-passes 0 (payload_checks c.args.layout s) (Ok (length_field s)) (f, (l, (k, tt)))))
