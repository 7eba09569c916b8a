use mathlib.Core.Path.{◌≡◌, refl, ap, sym, ◌∙◌}
use Prim.Native.Nat.{suc, ◌≤◌, ◌+◌, ◌-◌}
use native.Mathlib.Nat.{sub-zero}
use native.Mathlib.Omega.{arith}
use lib.ListN.{length, length-take, length-drop}
use Rattle.wire_spec.specs.Anc.{anc_size, read_run}
use Rattle.wire_spec.proofs.ListLaws.{splice-none}
use Rattle.anc_reader.specs.Answers.{run_cells_in}
use Rattle.anc_reader.proofs.RunLaws.{Left, First, first, left-next}
use Rattle.anc_reader.proofs.read.read_run.Goals as goal

pub loop-i-init : goal.loop-i-init
loop-i-init c = let a = c.args in
    record {
      accepts = rw (sub-zero a.count) c.requires.accepted;
      long = refl;
      room = rw (sub-zero a.count) (omega (arith, c.requires.octets_in_bounds));
      stored = rw (sub-zero a.count);
    }

pub read_packet-words-requires : goal.read_packet-words-requires
read_packet-words-requires c = let here : let a = c.args in let l = c.loop-i in Left c.args.layout a.index (run_cells_in a.index (read_run c.args.layout 0 a.count a.octets.now)) a.cells.now l.i (suc (a.count - (l.i + 1))) l.rest.now l.cells l.to = let a = c.args in
    let l = c.loop-i in
    let n : a.count - l.i ≡ suc (a.count - (l.i + 1)) = omega arith in
    rw n at l.invariant in
    let found : First c.args.layout _ _ _ _ _ _ _ _ (here) = first c.args.layout _ _ _ _ _ _ _ _ (here) in
    record { octets_in_bounds = (found).fits; octets_in_bounds_2 = simp (length-take, length-drop) (omega (arith, (found).room)) }

pub slice_bounds-rest-count : goal.slice_bounds-rest-count
slice_bounds-rest-count c = let here : let a = c.args in let l = c.loop-i in Left c.args.layout a.index (run_cells_in a.index (read_run c.args.layout 0 a.count a.octets.now)) a.cells.now l.i (suc (a.count - (l.i + 1))) l.rest.now l.cells l.to = let a = c.args in
    let l = c.loop-i in
    let n : a.count - l.i ≡ suc (a.count - (l.i + 1)) = omega arith in
    rw n at l.invariant in
    let found : First c.args.layout _ _ _ _ _ _ _ _ (here) = first c.args.layout _ _ _ _ _ _ _ _ (here) in
    let size-there : c.packet_size-size.result.0 ≤ length c.loop-i.rest.now = let e = c.packet_size-size.ensures ∙ ap (anc_size c.args.layout) c.read_packet-words.ensures.result_value in
    omega (arith, (found).fits) in
    size-there

pub slice_bounds-rest-start : goal.slice_bounds-rest-start
slice_bounds-rest-start c = let here : let a = c.args in let l = c.loop-i in Left c.args.layout a.index (run_cells_in a.index (read_run c.args.layout 0 a.count a.octets.now)) a.cells.now l.i (suc (a.count - (l.i + 1))) l.rest.now l.cells l.to = let a = c.args in
    let l = c.loop-i in
    let n : a.count - l.i ≡ suc (a.count - (l.i + 1)) = omega arith in
    rw n at l.invariant in
    let found : First c.args.layout _ _ _ _ _ _ _ _ (here) = first c.args.layout _ _ _ _ _ _ _ _ (here) in
    let size-there : c.packet_size-size.result.0 ≤ length c.loop-i.rest.now = let e = c.packet_size-size.ensures ∙ ap (anc_size c.args.layout) c.read_packet-words.ensures.result_value in
    omega (arith, (found).fits) in
    size-there

pub overflow_add-to-in-loop-i : goal.overflow_add-to-in-loop-i
overflow_add-to-in-loop-i c = let here : let a = c.args in let l = c.loop-i in Left c.args.layout a.index (run_cells_in a.index (read_run c.args.layout 0 a.count a.octets.now)) a.cells.now l.i (suc (a.count - (l.i + 1))) l.rest.now l.cells l.to = let a = c.args in
    let l = c.loop-i in
    let n : a.count - l.i ≡ suc (a.count - (l.i + 1)) = omega arith in
    rw n at l.invariant in
    let found : First c.args.layout _ _ _ _ _ _ _ _ (here) = first c.args.layout _ _ _ _ _ _ _ _ (here) in
    omega (arith, (found).room, c.read_packet-words.ensures.result_value)

pub loop-i-preserved : goal.loop-i-preserved
loop-i-preserved c = let here : let a = c.args in let l = c.loop-i in Left c.args.layout a.index (run_cells_in a.index (read_run c.args.layout 0 a.count a.octets.now)) a.cells.now l.i (suc (a.count - (l.i + 1))) l.rest.now l.cells l.to = let a = c.args in
    let l = c.loop-i in
    let n : a.count - l.i ≡ suc (a.count - (l.i + 1)) = omega arith in
    rw n at l.invariant in
    let l = c.loop-i in
    let r = c.read_packet-words in
    let z = c.packet_size-size in
    left-next c.args.layout _ _ _ _ _ _ _ _ (here) r.result.0 z.result.0 c.read_packet-words.new.cells c.read_packet-words.ensures.result_value c.packet_size-size.ensures c.read_packet-words.ensures.cells_after

pub returns : goal.returns
unfolding read_run
returns c = let l = c.loop-i in
    let e : c.args.count - l.i ≡ 0 = omega arith in
    let done = rw e at l.invariant in
    sym (splice-none l.cells l.to) ∙ done.stored
