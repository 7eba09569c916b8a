use mathlib.Core.Path.{◌≡◌, refl, ap, sym, ◌∙◌, subst₃}
use mathlib.Core.Bool.{true}
use mathlib.Core.List.{List}
use Prim.Native.Nat.{ℕ, ◌+◌, ◌-◌, ◌≤◌}
use native.Mathlib.Omega.{arith}
use lib.ListN.{length, take, drop, length-drop}
use Rattle.wire_spec.specs.Bits.{overwrite}
use Rattle.wire_spec.specs.Cells.{head_cells, cells_of}
use Rattle.wire_spec.proofs.ListLaws.{part-all, part-written}
use Rattle.sdi_spec.specs.Packets.{has_flag, line_count, line_record, packets_in}
use Rattle.sdi_spec.specs.Passes.{found_cells}
use Rattle.sdi_spec.proofs.WalkLaws.{ToRead, ReadNext, to-read-all, to-read-none, read_next, flag-long}
use Rattle.sdi_packets.proofs.reading.read_packets.Goals as goal

pub loop-rest-init : goal.loop-rest-init
loop-rest-init c = (refl, to-read-all c.args.position c.requires.0 c.args.words.now c.args.cells.now c.requires.1 c.requires.2)

pub slice_bounds-read_packet-count : goal.slice_bounds-read_packet-count
slice_bounds-read_packet-count c = let flagged : has_flag c.loop-rest.rest.now ≡ true = sym c.has_flag.ensures ∙ c.loop-rest-test.true in
    omega (arith, flag-long _ (flagged))

pub slice_bounds-read_packet-start : goal.slice_bounds-read_packet-start
slice_bounds-read_packet-start c = let flagged : has_flag c.loop-rest.rest.now ≡ true = sym c.has_flag.ensures ∙ c.loop-rest-test.true in
    omega (arith, flag-long _ (flagged))

pub offset_bounds-cells-to : goal.offset_bounds-cells-to
offset_bounds-cells-to c = let flagged : has_flag c.loop-rest.rest.now ≡ true = sym c.has_flag.ensures ∙ c.loop-rest-test.true in
    let here : let a = c.args in let l = c.loop-rest in ReadNext a.position (overwrite (found_cells (packets_in a.position a.words.now)) a.cells.now) l.cells l.rest.now l.to = let l = c.loop-rest in read_next _ _ l.cells l.rest.now l.to l.invariant.1 (flagged) in
    omega (arith, (here).room)

pub slice_bounds-read_packet-count-in-loop-rest : goal.slice_bounds-read_packet-count-in-loop-rest
slice_bounds-read_packet-count-in-loop-rest c = let flagged : has_flag c.loop-rest.rest.now ≡ true = sym c.has_flag.ensures ∙ c.loop-rest-test.true in
    let here : let a = c.args in let l = c.loop-rest in ReadNext a.position (overwrite (found_cells (packets_in a.position a.words.now)) a.cells.now) l.cells l.rest.now l.to = let l = c.loop-rest in read_next _ _ l.cells l.rest.now l.to l.invariant.1 (flagged) in
    omega (arith, (here).room)

pub slice_bounds-read_packet-start-in-loop-rest : goal.slice_bounds-read_packet-start-in-loop-rest
slice_bounds-read_packet-start-in-loop-rest c = let flagged : has_flag c.loop-rest.rest.now ≡ true = sym c.has_flag.ensures ∙ c.loop-rest-test.true in
    let here : let a = c.args in let l = c.loop-rest in ReadNext a.position (overwrite (found_cells (packets_in a.position a.words.now)) a.cells.now) l.cells l.rest.now l.to = let l = c.loop-rest in read_next _ _ l.cells l.rest.now l.to l.invariant.1 (flagged) in
    omega (arith, (here).room)

pub read_packet-n-requires : goal.read_packet-n-requires
read_packet-n-requires c = let flagged : has_flag c.loop-rest.rest.now ≡ true = sym c.has_flag.ensures ∙ c.loop-rest-test.true in
    let here : let a = c.args in let l = c.loop-rest in ReadNext a.position (overwrite (found_cells (packets_in a.position a.words.now)) a.cells.now) l.cells l.rest.now l.to = let l = c.loop-rest in read_next _ _ l.cells l.rest.now l.to l.invariant.1 (flagged) in
    let l = c.loop-rest in
    let n = here in
    rw (part-all 3 l.rest.now, part-all l.to l.cells, length-drop l.to l.cells) (n.fits, omega (arith, n.room))

pub overflow_add-step : goal.overflow_add-step
overflow_add-step c = let flagged : has_flag c.loop-rest.rest.now ≡ true = sym c.has_flag.ensures ∙ c.loop-rest-test.true in
    let here : let a = c.args in let l = c.loop-rest in ReadNext a.position (overwrite (found_cells (packets_in a.position a.words.now)) a.cells.now) l.cells l.rest.now l.to = let l = c.loop-rest in read_next _ _ l.cells l.rest.now l.to l.invariant.1 (flagged) in
    let count-is : c.read_packet-n.result ≡ line_count (drop 3 c.loop-rest.rest.now) = c.read_packet-n.ensures.value ∙ ap line_count (part-all 3 c.loop-rest.rest.now) in
    let inside : 7 + c.read_packet-n.result ≤ length c.loop-rest.rest.now = omega (arith, count-is, (here).inside) in
    omega (arith, inside)

pub offset_bounds-rest-step : goal.offset_bounds-rest-step
offset_bounds-rest-step c = let flagged : has_flag c.loop-rest.rest.now ≡ true = sym c.has_flag.ensures ∙ c.loop-rest-test.true in
    let here : let a = c.args in let l = c.loop-rest in ReadNext a.position (overwrite (found_cells (packets_in a.position a.words.now)) a.cells.now) l.cells l.rest.now l.to = let l = c.loop-rest in read_next _ _ l.cells l.rest.now l.to l.invariant.1 (flagged) in
    let count-is : c.read_packet-n.result ≡ line_count (drop 3 c.loop-rest.rest.now) = c.read_packet-n.ensures.value ∙ ap line_count (part-all 3 c.loop-rest.rest.now) in
    let inside : 7 + c.read_packet-n.result ≤ length c.loop-rest.rest.now = omega (arith, count-is, (here).inside) in
    omega (arith, inside)

pub slice_bounds-rest-count : goal.slice_bounds-rest-count
slice_bounds-rest-count c = let flagged : has_flag c.loop-rest.rest.now ≡ true = sym c.has_flag.ensures ∙ c.loop-rest-test.true in
    let here : let a = c.args in let l = c.loop-rest in ReadNext a.position (overwrite (found_cells (packets_in a.position a.words.now)) a.cells.now) l.cells l.rest.now l.to = let l = c.loop-rest in read_next _ _ l.cells l.rest.now l.to l.invariant.1 (flagged) in
    let count-is : c.read_packet-n.result ≡ line_count (drop 3 c.loop-rest.rest.now) = c.read_packet-n.ensures.value ∙ ap line_count (part-all 3 c.loop-rest.rest.now) in
    let inside : 7 + c.read_packet-n.result ≤ length c.loop-rest.rest.now = omega (arith, count-is, (here).inside) in
    omega (arith, inside)

pub slice_bounds-rest-start : goal.slice_bounds-rest-start
slice_bounds-rest-start c = let flagged : has_flag c.loop-rest.rest.now ≡ true = sym c.has_flag.ensures ∙ c.loop-rest-test.true in
    let here : let a = c.args in let l = c.loop-rest in ReadNext a.position (overwrite (found_cells (packets_in a.position a.words.now)) a.cells.now) l.cells l.rest.now l.to = let l = c.loop-rest in read_next _ _ l.cells l.rest.now l.to l.invariant.1 (flagged) in
    let count-is : c.read_packet-n.result ≡ line_count (drop 3 c.loop-rest.rest.now) = c.read_packet-n.ensures.value ∙ ap line_count (part-all 3 c.loop-rest.rest.now) in
    let inside : 7 + c.read_packet-n.result ≤ length c.loop-rest.rest.now = omega (arith, count-is, (here).inside) in
    omega (arith, inside)

pub overflow_add-to : goal.overflow_add-to
overflow_add-to c = let flagged : has_flag c.loop-rest.rest.now ≡ true = sym c.has_flag.ensures ∙ c.loop-rest-test.true in
    let here : let a = c.args in let l = c.loop-rest in ReadNext a.position (overwrite (found_cells (packets_in a.position a.words.now)) a.cells.now) l.cells l.rest.now l.to = let l = c.loop-rest in read_next _ _ l.cells l.rest.now l.to l.invariant.1 (flagged) in
    let count-is : c.read_packet-n.result ≡ line_count (drop 3 c.loop-rest.rest.now) = c.read_packet-n.ensures.value ∙ ap line_count (part-all 3 c.loop-rest.rest.now) in
    let inside : 7 + c.read_packet-n.result ≤ length c.loop-rest.rest.now = omega (arith, count-is, (here).inside) in
    omega (arith, inside)

pub overflow_add-to-in-loop-rest : goal.overflow_add-to-in-loop-rest
overflow_add-to-in-loop-rest c = let flagged : has_flag c.loop-rest.rest.now ≡ true = sym c.has_flag.ensures ∙ c.loop-rest-test.true in
    let here : let a = c.args in let l = c.loop-rest in ReadNext a.position (overwrite (found_cells (packets_in a.position a.words.now)) a.cells.now) l.cells l.rest.now l.to = let l = c.loop-rest in read_next _ _ l.cells l.rest.now l.to l.invariant.1 (flagged) in
    let count-is : c.read_packet-n.result ≡ line_count (drop 3 c.loop-rest.rest.now) = c.read_packet-n.ensures.value ∙ ap line_count (part-all 3 c.loop-rest.rest.now) in
    omega (arith, count-is, (here).room, c.loop-rest.invariant.0)

pub loop-rest-smaller : goal.loop-rest-smaller
loop-rest-smaller c = let flagged : has_flag c.loop-rest.rest.now ≡ true = sym c.has_flag.ensures ∙ c.loop-rest-test.true in
    let here : let a = c.args in let l = c.loop-rest in ReadNext a.position (overwrite (found_cells (packets_in a.position a.words.now)) a.cells.now) l.cells l.rest.now l.to = let l = c.loop-rest in read_next _ _ l.cells l.rest.now l.to l.invariant.1 (flagged) in
    let count-is : c.read_packet-n.result ≡ line_count (drop 3 c.loop-rest.rest.now) = c.read_packet-n.ensures.value ∙ ap line_count (part-all 3 c.loop-rest.rest.now) in
    let inside : 7 + c.read_packet-n.result ≤ length c.loop-rest.rest.now = omega (arith, count-is, (here).inside) in
    let left = c.loop-rest.rest.now in
    let k = 7 + c.read_packet-n.result in
    rw (part-all k left, length-drop k left) (omega (arith, inside))

pub loop-rest-preserved : goal.loop-rest-preserved
loop-rest-preserved c = let flagged : has_flag c.loop-rest.rest.now ≡ true = sym c.has_flag.ensures ∙ c.loop-rest-test.true in
    let here : let a = c.args in let l = c.loop-rest in ReadNext a.position (overwrite (found_cells (packets_in a.position a.words.now)) a.cells.now) l.cells l.rest.now l.to = let l = c.loop-rest in read_next _ _ l.cells l.rest.now l.to l.invariant.1 (flagged) in
    let count-is : c.read_packet-n.result ≡ line_count (drop 3 c.loop-rest.rest.now) = c.read_packet-n.ensures.value ∙ ap line_count (part-all 3 c.loop-rest.rest.now) in
    let l = c.loop-rest in
    let a = c.args in
    let left = l.rest.now in
    let n = c.read_packet-n.result in
    let part = c.read_packet-n.new.cells in
    let x = cells_of (line_record a.position (drop 3 left)) in
    let stored : part ≡ overwrite x (take (length l.cells - l.to) (drop l.to l.cells)) =
    c.read_packet-n.ensures.cells_after
    ∙ ap (λ (y : List ℕ). overwrite (cells_of (line_record a.position y)) (take (length l.cells - l.to) (drop l.to l.cells))) (part-all 3 left) in
    let e1 = sym (part-written l.to l.cells x part stored) in
    let e2 : drop (7 + line_count (drop 3 left)) left ≡ take (length left - (7 + n)) (drop (7 + n) left) =
    ap (λ (k : ℕ). drop (7 + k) left) (sym (count-is)) ∙ sym (part-all (7 + n) left) in
    let e3 : l.to + (head_cells + line_count (drop 3 left)) ≡ l.to + (head_cells + n) = ap (λ (k : ℕ). l.to + (head_cells + k)) (sym (count-is)) in
    (omega (arith, c.cells-1.given.1, l.invariant.0), subst₃ (ToRead a.position _) e1 e2 e3 (here).goes)

pub returns : goal.returns
returns c = let l = c.loop-rest in
    to-read-none _ _ l.cells l.rest.now l.to l.invariant.1 (sym c.has_flag.ensures ∙ c.loop-rest-test.false)
