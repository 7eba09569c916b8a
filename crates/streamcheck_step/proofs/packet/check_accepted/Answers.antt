-- `check_accepted` steps past a packet that was checked.
-- By what it shows: its records are a list, which is never too short, and beside them stand its six values and the reserved bits.
use Rattle.std.proofs.Common.{List, take, sym, ap, ◌∙◌, subst, arith, length-take-le}
use Rattle.wire_spec.specs.Anc.{Record}
use Rattle.wire_spec.specs.Result.{Result, IsAccepted}
use Rattle.wire_spec.specs.Cells.{read_list}
use Rattle.wire_spec.proofs.Window.{below_all}
use Rattle.rtp_strict_reader.proofs.ReadLaws.{Outlined, outlined}
use Rattle.streamcheck_spec.specs.declared.place.Scan.{Scan}
use Rattle.streamcheck_spec.specs.Code.{past_all, past_list}
use Rattle.streamcheck_step.proofs.PacketLaws.{Shows, shows, shown-turn}
use Rattle.streamcheck_step.proofs.packet.check_accepted.Goals as goal

pub read_records-requires : goal.read_records-requires
read_records-requires c = let shown : Shows c.args.layout c.args.octets.now c.args.outline c.requires.octets_value = shows _ _ _ _ (below_all c.args.octets.now (λ j. (c.shared_slice_known-1.given j).fits)) in
    record { octets_value = c.requires.octets_value; cells_in_bounds = omega (arith, (shown).fits, c.requires.max_packet_in_bounds) }

pub slice_bounds-past_list-end : goal.slice_bounds-past_list-end
slice_bounds-past_list-end c = let shown : Shows c.args.layout c.args.octets.now c.args.outline c.requires.octets_value = shows _ _ _ _ (below_all c.args.octets.now (λ j. (c.shared_slice_known-1.given j).fits)) in
    omega (arith, (shown).fits, c.requires.max_packet_in_bounds, c.cells-1.given)

pub slice_bounds-past_list-end-2 : goal.slice_bounds-past_list-end-2
slice_bounds-past_list-end-2 c = let shown : Shows c.args.layout c.args.octets.now c.args.outline c.requires.octets_value = shows _ _ _ _ (below_all c.args.octets.now (λ j. (c.shared_slice_known-1.given j).fits)) in
    sym (length-take-le _ _ (omega (arith, (shown).fits, c.requires.max_packet_in_bounds, c.cells-1.given)))

pub past_list-scan-requires : goal.past_list-scan-requires
past_list-scan-requires c = let shown : Shows c.args.layout c.args.octets.now c.args.outline c.requires.octets_value = shows _ _ _ _ (below_all c.args.octets.now (λ j. (c.shared_slice_known-1.given j).fits)) in
    let a = c.args in
    let w = shown in
    subst IsAccepted (sym (ap (λ (l : List _). read_list (take a.outline.cells l)) c.read_records.ensures ∙ w.listed a.cells.now)) tt

pub reserved_set-reserved-requires : goal.reserved_set-reserved-requires
reserved_set-reserved-requires c = let outline-here : Outlined c.args.layout c.args.octets.now c.args.outline c.requires.octets_value = outlined c.args.layout _ _ _ (below_all c.args.octets.now (λ j. (c.shared_slice_known-1.given j).fits)) in
    let f = outline-here in
    (f.header_is, omega (arith, f.whole))

pub returns : goal.returns
returns c = let shown : Shows c.args.layout c.args.octets.now c.args.outline c.requires.octets_value = shows _ _ _ _ (below_all c.args.octets.now (λ j. (c.shared_slice_known-1.given j).fits)) in
    let a = c.args in
    let w = shown in
    let q = ap (λ (l : List _). read_list (take a.outline.cells l)) c.read_records.ensures ∙ w.listed a.cells.now in
    let scan =
    c.past_list-scan.ensures ∙ ap (λ (r : Result (List Record)). past_list c.scan_of.result r) q
    ∙ ap (λ (z : Scan). past_all z w.packet.records) c.scan_of.ensures in record {
      value = c.step.ensures
          ∙ shown-turn _ _ _ _ w a.checker _ _ _ (w.head c.summary_at-summary.result c.summary_at-summary.ensures) (c.reserved_set-reserved.ensures ∙ w.reserved) scan;
      cells_after = c.read_records.ensures;
    }
