-- `arrive_checked` does one step: the next state, the answer, and the store.
-- By what was found of the packet, stage by stage.
use Rattle.std.proofs.Common.{◌≡◌, ℕ, ◌+◌, ◌-◌, ◌≤◌, Bool, true, false, cond, List, length, take, drop, sym, refl, ap, ◌∙◌, arith, length-drop, length-take}
use Rattle.wire_spec.specs.Bits.{splice}
use Rattle.wire_spec.specs.Result.{Result}
use Rattle.wire_spec.specs.Cells.{list_in}
use Rattle.wire_spec.specs.Packet.{Content}
use Rattle.wire_spec.proofs.CellLaws.{length-in}
use Rattle.wire_spec.proofs.ListLaws.{part-written, length-splice}
use Rattle.rtp_strict_reader.specs.Answers.{cells_after_in}
use Rattle.depacketizer_spec.specs.Step.{Step}
use Rattle.depacketizer.specs.Answers.{arrival_of}
use Rattle.depacketizer.proofs.ArriveLaws.{refused-step, admitted-packet, late-or-far, fresh-sound, fresh-room, fresh_step}
use Rattle.depacketizer.proofs.state.Depacketizer.arrive_checked.Goals as goal
use Rattle.depacketizer.proofs.state.Depacketizer.arrive_checked.Goals.{then-decision, else-decision}

kept : (b : Bool) (l : List ℕ) (at : ℕ) (x : List ℕ) → (b ≡ true → at + length x ≤ length l) → length (cond b (splice l at x) l) ≡ length l
kept true l at x h = length-splice l at x (h refl)
kept false l at x h = refl

pub returns-in-Err : goal.returns-in-Err
returns-in-Err c =
    let a = c.args in
    let e = refused-step a.self.state a.layout a.octets.now a.store.now a.inspected c.requires _ (sym c.admit.ensures ∙ c.in-Err.is) in
    record { value = ap arrival_of (sym e); store_after = ap (λ (x : Step). x.store) (sym e) }

pub returns-in-Err-place : goal.returns-in-Err-place
returns-in-Err-place c =
    let a = c.args in
    let w = admitted-packet a.self.state a.layout a.octets.now a.store.now a.inspected c.requires c.in-Ok.packet (sym c.admit.ensures ∙ c.in-Ok.is) in
    let r = late-or-far a.self.state a.layout a.octets.now a.store.now c.in-Ok.packet w _ (sym c.place.ensures ∙ c.in-Err-place.is) in
    record { value = c.refuse.ensures ∙ sym r.0; store_after = sym r.1 }

pub decide-decision-requires : goal.decide-decision-requires
decide-decision-requires c =
    let a = c.args in
    let w = admitted-packet a.self.state a.layout a.octets.now a.store.now a.inspected c.requires c.in-Ok.packet (sym c.admit.ensures ∙ c.in-Ok.is) in
    let s = fresh-sound a.self.state a.layout a.octets.now a.store.now c.in-Ok.packet w c.in-Ok-place.fresh (sym c.place.ensures ∙ c.in-Ok-place.is) in
    (s.fitting.records, s.fitting.cells, s.fitting.packets)

pub overflow_cast-index : goal.overflow_cast-index
overflow_cast-index c =
    let a = c.args in
    let w = admitted-packet a.self.state a.layout a.octets.now a.store.now a.inspected c.requires c.in-Ok.packet (sym c.admit.ensures ∙ c.in-Ok.is) in
    let s = fresh-sound a.self.state a.layout a.octets.now a.store.now c.in-Ok.packet w c.in-Ok-place.fresh (sym c.place.ensures ∙ c.in-Ok-place.is) in
    omega (arith, s.fitting.packets)

pub offset_bounds-store-at : goal.offset_bounds-store-at
offset_bounds-store-at c =
    let a = c.args in
    let w = admitted-packet a.self.state a.layout a.octets.now a.store.now a.inspected c.requires c.in-Ok.packet (sym c.admit.ensures ∙ c.in-Ok.is) in
    let s = fresh-sound a.self.state a.layout a.octets.now a.store.now c.in-Ok.packet w c.in-Ok-place.fresh (sym c.place.ensures ∙ c.in-Ok-place.is) in
    omega (arith, s.fitting.cells)

pub slice_bounds-read_records-count : goal.slice_bounds-read_records-count
slice_bounds-read_records-count c =
    let a = c.args in
    let w = admitted-packet a.self.state a.layout a.octets.now a.store.now a.inspected c.requires c.in-Ok.packet (sym c.admit.ensures ∙ c.in-Ok.is) in
    let s = fresh-sound a.self.state a.layout a.octets.now a.store.now c.in-Ok.packet w c.in-Ok-place.fresh (sym c.place.ensures ∙ c.in-Ok-place.is) in
    omega (arith, s.fitting.enough)

pub slice_bounds-read_records-start : goal.slice_bounds-read_records-start
slice_bounds-read_records-start c =
    let a = c.args in
    let w = admitted-packet a.self.state a.layout a.octets.now a.store.now a.inspected c.requires c.in-Ok.packet (sym c.admit.ensures ∙ c.in-Ok.is) in
    let s = fresh-sound a.self.state a.layout a.octets.now a.store.now c.in-Ok.packet w c.in-Ok-place.fresh (sym c.place.ensures ∙ c.in-Ok-place.is) in
    omega (arith, s.fitting.enough)

pub read_records-requires : goal.read_records-requires
read_records-requires c =
    let a = c.args in
    let w = admitted-packet a.self.state a.layout a.octets.now a.store.now a.inspected c.requires c.in-Ok.packet (sym c.admit.ensures ∙ c.in-Ok.is) in
    let n = fresh-room a.self.state a.layout a.octets.now a.store.now c.in-Ok.packet w c.in-Ok-place.fresh (sym c.place.ensures ∙ c.in-Ok-place.is) c.decide-decision.result c.decide-decision.ensures c.if-decision.true in
    record { octets_value = w.checked; cells_in_bounds = simp (length-take, length-drop) (omega (arith, n)) }

pub shape_of-store : goal.shape_of-store
shape_of-store c =
    let a = c.args in
    let from = c.in-Ok-place.fresh.from in
    let w = admitted-packet a.self.state a.layout a.octets.now a.store.now a.inspected c.requires c.in-Ok.packet (sym c.admit.ensures ∙ c.in-Ok.is) in
    let roomy = fresh-room a.self.state a.layout a.octets.now a.store.now c.in-Ok.packet w c.in-Ok-place.fresh (sym c.place.ensures ∙ c.in-Ok-place.is) c.decide-decision.result c.decide-decision.ensures in
    let x = list_in from.packets w.says.records in
    let written : c.if-decision.store ≡ cond c.decide-decision.result.append (splice a.store.now from.cells x) a.store.now =
    elim c.if-decision.branch [
      | then-decision v ↦ v.store-is ∙ part-written from.cells a.store.now x _ (v.read_records.ensures ∙ ap (λ (r : Result Content). cells_after_in from.packets r (take (length a.store.now - from.cells) (drop from.cells a.store.now))) w.reads)
          ∙ ap (λ (b : Bool). cond b (splice a.store.now from.cells x) a.store.now) (sym v.if-decision.true)
      | else-decision v ↦ v.store-is ∙ ap (λ (b : Bool). cond b (splice a.store.now from.cells x) a.store.now) (sym v.if-decision.false)
    ] in
    ap length written ∙ kept c.decide-decision.result.append a.store.now from.cells x (λ t. omega (arith, roomy t, w.cells, length-in from.packets w.says.records))

pub returns : goal.returns
returns c =
    let a = c.args in
    let from = c.in-Ok-place.fresh.from in
    let w = admitted-packet a.self.state a.layout a.octets.now a.store.now a.inspected c.requires c.in-Ok.packet (sym c.admit.ensures ∙ c.in-Ok.is) in
    let stepped = fresh_step a.self.state a.layout a.octets.now a.store.now c.in-Ok.packet w c.in-Ok-place.fresh (sym c.place.ensures ∙ c.in-Ok-place.is) c.decide-decision.result c.decide-decision.ensures in
    let x = list_in from.packets w.says.records in
    let written : c.if-decision.store ≡ cond c.decide-decision.result.append (splice a.store.now from.cells x) a.store.now =
    elim c.if-decision.branch [
      | then-decision v ↦ v.store-is ∙ part-written from.cells a.store.now x _ (v.read_records.ensures ∙ ap (λ (r : Result Content). cells_after_in from.packets r (take (length a.store.now - from.cells) (drop from.cells a.store.now))) w.reads)
          ∙ ap (λ (b : Bool). cond b (splice a.store.now from.cells x) a.store.now) (sym v.if-decision.true)
      | else-decision v ↦ v.store-is ∙ ap (λ (b : Bool). cond b (splice a.store.now from.cells x) a.store.now) (sym v.if-decision.false)
    ] in
    record {
      value = (λ i. record { state = record { state = c.after.ensures i }; answer = c.decide-decision.result.answer }) ∙ ap arrival_of (sym stepped);
      store_after = written ∙ ap (λ (x : Step). x.store) (sym stepped);
    }
