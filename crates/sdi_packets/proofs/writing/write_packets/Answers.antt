use mathlib.Core.Path.{◌≡◌, refl, ap, sym, ◌∙◌, subst₃}
use Prim.Native.Nat.{ℕ, ◌+◌, ◌-◌, ◌<◌, ◌≤◌}
use native.Mathlib.Omega.{arith}
use lib.ListN.{length, take, drop, length-drop}
use Rattle.wire_spec.specs.Bits.{overwrite}
use Rattle.wire_spec.specs.Words.{header_numbers}
use Rattle.wire_spec.specs.Cells.{head_cells, cell_count, cell_record, rest, read_list}
use Rattle.wire_spec.proofs.ListLaws.{part-all, part-written}
use Rattle.sdi_spec.specs.Packets.{packet_words}
use Rattle.sdi_spec.specs.Passes.{list_stretch}
use Rattle.sdi_spec.proofs.WalkLaws.{ToWrite, WriteNext, to-write-all, to-write-none, write-next}
use Rattle.sdi_packets.proofs.writing.write_packets.Goals as goal

pub loop-rest-init : goal.loop-rest-init
loop-rest-init c = (refl, to-write-all c.args.cells.now c.args.words.now c.requires.0 c.requires.1)

pub offset_bounds-words-to : goal.offset_bounds-words-to
offset_bounds-words-to c = let here : let a = c.args in let l = c.loop-rest in WriteNext (overwrite (list_stretch (read_list a.cells.now)) a.words.now) l.words l.rest.now l.to = let l = c.loop-rest in write-next _ l.words l.rest.now l.to l.invariant.1 c.loop-rest-test.true in
    omega (arith, (here).room)

pub slice_bounds-write_packet-count : goal.slice_bounds-write_packet-count
slice_bounds-write_packet-count c = let here : let a = c.args in let l = c.loop-rest in WriteNext (overwrite (list_stretch (read_list a.cells.now)) a.words.now) l.words l.rest.now l.to = let l = c.loop-rest in write-next _ l.words l.rest.now l.to l.invariant.1 c.loop-rest-test.true in
    omega (arith, (here).room)

pub slice_bounds-write_packet-start : goal.slice_bounds-write_packet-start
slice_bounds-write_packet-start c = let here : let a = c.args in let l = c.loop-rest in WriteNext (overwrite (list_stretch (read_list a.cells.now)) a.words.now) l.words l.rest.now l.to = let l = c.loop-rest in write-next _ l.words l.rest.now l.to l.invariant.1 c.loop-rest-test.true in
    omega (arith, (here).room)

pub write_packet-n-requires : goal.write_packet-n-requires
write_packet-n-requires c = let here : let a = c.args in let l = c.loop-rest in WriteNext (overwrite (list_stretch (read_list a.cells.now)) a.words.now) l.words l.rest.now l.to = let l = c.loop-rest in write-next _ l.words l.rest.now l.to l.invariant.1 c.loop-rest-test.true in
    let n = here in
    let l = c.loop-rest in
    record { well_formed = n.formed; cells_in_bounds = (n.inside, rw (part-all l.to l.words, length-drop l.to l.words) (omega (arith, n.room))) }

pub overflow_add-step : goal.overflow_add-step
overflow_add-step c = let here : let a = c.args in let l = c.loop-rest in WriteNext (overwrite (list_stretch (read_list a.cells.now)) a.words.now) l.words l.rest.now l.to = let l = c.loop-rest in write-next _ l.words l.rest.now l.to l.invariant.1 c.loop-rest-test.true in
    let inside : (head_cells + c.write_packet-n.result ≤ length c.loop-rest.rest.now) × (c.write_packet-n.result < header_numbers) = let n = here in (omega (arith, c.write_packet-n.ensures.value, n.inside), omega (arith, c.write_packet-n.ensures.value, n.small)) in
    omega (arith, inside)

pub offset_bounds-rest-step : goal.offset_bounds-rest-step
offset_bounds-rest-step c = let here : let a = c.args in let l = c.loop-rest in WriteNext (overwrite (list_stretch (read_list a.cells.now)) a.words.now) l.words l.rest.now l.to = let l = c.loop-rest in write-next _ l.words l.rest.now l.to l.invariant.1 c.loop-rest-test.true in
    let inside : (head_cells + c.write_packet-n.result ≤ length c.loop-rest.rest.now) × (c.write_packet-n.result < header_numbers) = let n = here in (omega (arith, c.write_packet-n.ensures.value, n.inside), omega (arith, c.write_packet-n.ensures.value, n.small)) in
    omega (arith, inside)

pub slice_bounds-rest-count : goal.slice_bounds-rest-count
slice_bounds-rest-count c = let here : let a = c.args in let l = c.loop-rest in WriteNext (overwrite (list_stretch (read_list a.cells.now)) a.words.now) l.words l.rest.now l.to = let l = c.loop-rest in write-next _ l.words l.rest.now l.to l.invariant.1 c.loop-rest-test.true in
    let inside : (head_cells + c.write_packet-n.result ≤ length c.loop-rest.rest.now) × (c.write_packet-n.result < header_numbers) = let n = here in (omega (arith, c.write_packet-n.ensures.value, n.inside), omega (arith, c.write_packet-n.ensures.value, n.small)) in
    omega (arith, inside)

pub slice_bounds-rest-start : goal.slice_bounds-rest-start
slice_bounds-rest-start c = let here : let a = c.args in let l = c.loop-rest in WriteNext (overwrite (list_stretch (read_list a.cells.now)) a.words.now) l.words l.rest.now l.to = let l = c.loop-rest in write-next _ l.words l.rest.now l.to l.invariant.1 c.loop-rest-test.true in
    let inside : (head_cells + c.write_packet-n.result ≤ length c.loop-rest.rest.now) × (c.write_packet-n.result < header_numbers) = let n = here in (omega (arith, c.write_packet-n.ensures.value, n.inside), omega (arith, c.write_packet-n.ensures.value, n.small)) in
    omega (arith, inside)

pub overflow_add-to : goal.overflow_add-to
overflow_add-to c = let here : let a = c.args in let l = c.loop-rest in WriteNext (overwrite (list_stretch (read_list a.cells.now)) a.words.now) l.words l.rest.now l.to = let l = c.loop-rest in write-next _ l.words l.rest.now l.to l.invariant.1 c.loop-rest-test.true in
    let inside : (head_cells + c.write_packet-n.result ≤ length c.loop-rest.rest.now) × (c.write_packet-n.result < header_numbers) = let n = here in (omega (arith, c.write_packet-n.ensures.value, n.inside), omega (arith, c.write_packet-n.ensures.value, n.small)) in
    omega (arith, inside)

pub overflow_add-to-in-loop-rest : goal.overflow_add-to-in-loop-rest
overflow_add-to-in-loop-rest c = let here : let a = c.args in let l = c.loop-rest in WriteNext (overwrite (list_stretch (read_list a.cells.now)) a.words.now) l.words l.rest.now l.to = let l = c.loop-rest in write-next _ l.words l.rest.now l.to l.invariant.1 c.loop-rest-test.true in
    omega (arith, c.write_packet-n.ensures.value, (here).room, c.loop-rest.invariant.0)

pub loop-rest-smaller : goal.loop-rest-smaller
loop-rest-smaller c = let r = c.loop-rest.rest.now in
    let k = head_cells + c.write_packet-n.result in
    rw (part-all k r, length-drop k r) (omega (arith, c.loop-rest-test.true))

pub loop-rest-preserved : goal.loop-rest-preserved
loop-rest-preserved c = let here : let a = c.args in let l = c.loop-rest in WriteNext (overwrite (list_stretch (read_list a.cells.now)) a.words.now) l.words l.rest.now l.to = let l = c.loop-rest in write-next _ l.words l.rest.now l.to l.invariant.1 c.loop-rest-test.true in
    let l = c.loop-rest in
    let r = l.rest.now in
    let n = c.write_packet-n.result in
    let count = sym c.write_packet-n.ensures.value in
    let e1 = sym (part-written l.to l.words (packet_words (cell_record r)) c.write_packet-n.new.words c.write_packet-n.ensures.words_after) in
    let e2 : rest r ≡ take (length r - (head_cells + n)) (drop (head_cells + n) r) = ap (λ (k : ℕ). drop (head_cells + k) r) count ∙ sym (part-all (head_cells + n) r) in
    let e3 : l.to + (7 + cell_count r) ≡ l.to + (7 + n) = ap (λ (k : ℕ). l.to + (7 + k)) count in
    (omega (arith, c.words-1.given.1, l.invariant.0), subst₃ (ToWrite _) e1 e2 e3 (here).goes)

pub returns : goal.returns
returns c = let l = c.loop-rest in
    to-write-none _ l.words l.rest.now l.to l.invariant.1 c.loop-rest-test.false
