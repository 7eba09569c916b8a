use mathlib.Core.Path.{◌≡◌, refl, ap, ◌∙◌}
use Prim.Native.Nat.{ℕ, ◌+◌, ◌≤◌}
use native.Mathlib.Omega.{arith}
use lib.ListN.{length, length-drop}
use Rattle.wire_spec.specs.Bits.{overwrite, splice}
use Rattle.wire_spec.specs.Anc.{anc_octets, anc_size}
use Rattle.wire_spec.specs.Cells.{head_cells, cell_count, cell_record, rest, read_list}
use Rattle.wire_spec.proofs.ListLaws.{part-all, part-written}
use Rattle.anc_writer.specs.Answers.{list_octets}
use Rattle.anc_record.proofs.FrontLaws.{rest-is}
use Rattle.anc_writer.proofs.RunLeft.{Next, to-write-all, to-write-none, next, to-write-same}
use Rattle.anc_writer.proofs.write.write_run.Goals as goal

pub loop-rest-init : goal.loop-rest-init
loop-rest-init c = (refl, to-write-all c.args.layout c.args.cells.now c.args.octets.now c.requires.0 c.requires.1)

pub slice_bounds-write_packet-count : goal.slice_bounds-write_packet-count
slice_bounds-write_packet-count c = let next_here : let a = c.args in let l = c.loop-rest in Next a.layout (overwrite (list_octets a.layout (read_list a.cells.now)) a.octets.now) l.octets l.rest.now l.to = let l = c.loop-rest in next c.args.layout _ l.octets l.rest.now l.to l.invariant.1 c.loop-rest-test.true in
    omega (arith, (next_here).room)

pub slice_bounds-write_packet-start : goal.slice_bounds-write_packet-start
slice_bounds-write_packet-start c = let next_here : let a = c.args in let l = c.loop-rest in Next a.layout (overwrite (list_octets a.layout (read_list a.cells.now)) a.octets.now) l.octets l.rest.now l.to = let l = c.loop-rest in next c.args.layout _ l.octets l.rest.now l.to l.invariant.1 c.loop-rest-test.true in
    omega (arith, (next_here).room)

pub write_packet-words-requires : goal.write_packet-words-requires
write_packet-words-requires c = let next_here : let a = c.args in let l = c.loop-rest in Next a.layout (overwrite (list_octets a.layout (read_list a.cells.now)) a.octets.now) l.octets l.rest.now l.to = let l = c.loop-rest in next c.args.layout _ l.octets l.rest.now l.to l.invariant.1 c.loop-rest-test.true in
    let n = next_here in
    let l = c.loop-rest in
    record { well_formed = n.front.formed; cells_in_bounds = n.front.lies.inside; cells_in_bounds_2 = rw (part-all l.to l.octets, length-drop l.to l.octets) (omega (arith, n.room)) }

pub overflow_add-step : goal.overflow_add-step
overflow_add-step c = let next_here : let a = c.args in let l = c.loop-rest in Next a.layout (overwrite (list_octets a.layout (read_list a.cells.now)) a.octets.now) l.octets l.rest.now l.to = let l = c.loop-rest in next c.args.layout _ l.octets l.rest.now l.to l.invariant.1 c.loop-rest-test.true in
    let count-is : c.write_packet-words.result.0 ≡ cell_count c.loop-rest.rest.now = c.write_packet-words.ensures.result_value in
    let step-inside : head_cells + c.write_packet-words.result.0 ≤ length c.loop-rest.rest.now = omega (arith, count-is, (next_here).front.lies.inside) in
    omega (arith, step-inside)

pub offset_bounds-rest-step : goal.offset_bounds-rest-step
offset_bounds-rest-step c = let next_here : let a = c.args in let l = c.loop-rest in Next a.layout (overwrite (list_octets a.layout (read_list a.cells.now)) a.octets.now) l.octets l.rest.now l.to = let l = c.loop-rest in next c.args.layout _ l.octets l.rest.now l.to l.invariant.1 c.loop-rest-test.true in
    let count-is : c.write_packet-words.result.0 ≡ cell_count c.loop-rest.rest.now = c.write_packet-words.ensures.result_value in
    let step-inside : head_cells + c.write_packet-words.result.0 ≤ length c.loop-rest.rest.now = omega (arith, count-is, (next_here).front.lies.inside) in
    omega (arith, step-inside)

pub slice_bounds-rest-count : goal.slice_bounds-rest-count
slice_bounds-rest-count c = let next_here : let a = c.args in let l = c.loop-rest in Next a.layout (overwrite (list_octets a.layout (read_list a.cells.now)) a.octets.now) l.octets l.rest.now l.to = let l = c.loop-rest in next c.args.layout _ l.octets l.rest.now l.to l.invariant.1 c.loop-rest-test.true in
    let count-is : c.write_packet-words.result.0 ≡ cell_count c.loop-rest.rest.now = c.write_packet-words.ensures.result_value in
    let step-inside : head_cells + c.write_packet-words.result.0 ≤ length c.loop-rest.rest.now = omega (arith, count-is, (next_here).front.lies.inside) in
    omega (arith, step-inside)

pub slice_bounds-rest-start : goal.slice_bounds-rest-start
slice_bounds-rest-start c = let next_here : let a = c.args in let l = c.loop-rest in Next a.layout (overwrite (list_octets a.layout (read_list a.cells.now)) a.octets.now) l.octets l.rest.now l.to = let l = c.loop-rest in next c.args.layout _ l.octets l.rest.now l.to l.invariant.1 c.loop-rest-test.true in
    let count-is : c.write_packet-words.result.0 ≡ cell_count c.loop-rest.rest.now = c.write_packet-words.ensures.result_value in
    let step-inside : head_cells + c.write_packet-words.result.0 ≤ length c.loop-rest.rest.now = omega (arith, count-is, (next_here).front.lies.inside) in
    omega (arith, step-inside)

pub overflow_add-to : goal.overflow_add-to
overflow_add-to c = let next_here : let a = c.args in let l = c.loop-rest in Next a.layout (overwrite (list_octets a.layout (read_list a.cells.now)) a.octets.now) l.octets l.rest.now l.to = let l = c.loop-rest in next c.args.layout _ l.octets l.rest.now l.to l.invariant.1 c.loop-rest-test.true in
    let count-is : c.write_packet-words.result.0 ≡ cell_count c.loop-rest.rest.now = c.write_packet-words.ensures.result_value in
    let size_is : c.packet_size-size.result.0 ≡ anc_size c.args.layout (cell_count c.loop-rest.rest.now) = c.packet_size-size.ensures ∙ ap (anc_size c.args.layout) (count-is) in
    omega (arith, size_is, (next_here).room, c.loop-rest.invariant.0)

pub loop-rest-smaller : goal.loop-rest-smaller
loop-rest-smaller c = let r = c.loop-rest.rest.now in
    let k = head_cells + c.write_packet-words.result.0 in
    rw (part-all k r, length-drop k r) (omega (arith, c.loop-rest-test.true))

pub loop-rest-preserved : goal.loop-rest-preserved
loop-rest-preserved c = let next_here : let a = c.args in let l = c.loop-rest in Next a.layout (overwrite (list_octets a.layout (read_list a.cells.now)) a.octets.now) l.octets l.rest.now l.to = let l = c.loop-rest in next c.args.layout _ l.octets l.rest.now l.to l.invariant.1 c.loop-rest-test.true in
    let count-is : c.write_packet-words.result.0 ≡ cell_count c.loop-rest.rest.now = c.write_packet-words.ensures.result_value in
    let size_is : c.packet_size-size.result.0 ≡ anc_size c.args.layout (cell_count c.loop-rest.rest.now) = c.packet_size-size.ensures ∙ ap (anc_size c.args.layout) (count-is) in
    let L = c.args.layout in
    let l = c.loop-rest in
    let r = l.rest.now in
    let o = anc_octets L (cell_record r) in
    let put = part-written l.to l.octets o c.write_packet-words.new.octets c.write_packet-words.ensures.octets_after in (
      omega (arith, c.octets-1.given.1, l.invariant.0),
      to-write-same L _ (splice l.octets l.to o) _ (rest r) _ (l.to + anc_size L (cell_count r)) _ put (rest-is r c.write_packet-words.result.0 (count-is))
          (ap (λ (z : ℕ). l.to + z) (size_is)) (next_here).then,
    )

pub returns : goal.returns
returns c = let l = c.loop-rest in
    to-write-none c.args.layout _ l.octets l.rest.now l.to l.invariant.1 c.loop-rest-test.false
