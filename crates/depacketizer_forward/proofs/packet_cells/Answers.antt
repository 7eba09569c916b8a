use Rattle.std.proofs.Common.{◌≡◌, ℕ, ◌+◌, ◌<◌, ◌≤◌, List, length, drop, length-drop, ap, sym, subst, arith}
use Rattle.wire_spec.proofs.ListLaws.{part-all}
use Rattle.depacketizer_forward.specs.Forward.{record_cells, packet_cells}
use Rattle.depacketizer_forward.proofs.PacketLaws.{record-inside, none_left, one_more}
use Rattle.depacketizer_forward.proofs.packet_cells.Goals as goal

inside : (k : ℕ) (r : List ℕ) (s : ℕ) → s ≡ record_cells k r → s ≤ length r
inside k r s e = omega (arith, record-inside k r)

-- the packet's cells are its own and those behind it
goes : (k : ℕ) (r : List ℕ) (s : ℕ) → s ≡ record_cells k r → 0 < s → packet_cells k r ≡ s + packet_cells k (drop s r)
goes k r s e h = subst (λ (n : ℕ). packet_cells k r ≡ n + packet_cells k (drop n r)) (sym e) (one_more k r (subst (λ (n : ℕ). 0 < n) e h))

pub returns-then-step-eq0 : goal.returns-then-step-eq0
returns-then-step-eq0 c =
    omega (arith, none_left c.args.index c.loop-rest.rest.now (omega (arith, c.record_cells-step.ensures)))

pub offset_bounds-rest-step : goal.offset_bounds-rest-step
offset_bounds-rest-step c = omega (arith, inside c.args.index c.loop-rest.rest.now _ c.record_cells-step.ensures)

pub slice_bounds-rest-count : goal.slice_bounds-rest-count
slice_bounds-rest-count c = inside c.args.index c.loop-rest.rest.now _ c.record_cells-step.ensures

pub slice_bounds-rest-start : goal.slice_bounds-rest-start
slice_bounds-rest-start c = inside c.args.index c.loop-rest.rest.now _ c.record_cells-step.ensures

pub loop-rest-smaller : goal.loop-rest-smaller
loop-rest-smaller c =
    let s = c.record_cells-step.result in
    let r = c.loop-rest.rest.now in
    rw (part-all s r, length-drop s r) (omega (arith, inside c.args.index r s c.record_cells-step.ensures))

pub loop-rest-preserved : goal.loop-rest-preserved
loop-rest-preserved c =
    let k = c.args.index in
    let s = c.record_cells-step.result in
    let r = c.loop-rest.rest.now in
    let p = part-all s r in
    let g = goes k r s c.record_cells-step.ensures (omega arith) in
    let i = inside k r s c.record_cells-step.ensures in
    (omega (arith, ap length p, length-drop s r), omega (arith, g, i, ap (packet_cells k) p, ap length p, length-drop s r))
