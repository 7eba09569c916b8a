use mathlib.Core.Path.{◌≡◌, ap, sym, ◌∙◌}
use mathlib.Core.List.{List}
use Prim.Native.Nat.{ℕ, suc, ◌+◌, ◌-◌}
use native.Mathlib.Nat.{add-zero, sub-zero, zero-add}
use native.Mathlib.Omega.{arith}
use lib.ListN.{length, drop, length-drop}
use Rattle.wire_spec.specs.Anc.{read_run, anc_size}
use Rattle.wire_spec.specs.Cells.{head_cells}
use Rattle.wire_spec.proofs.ListLaws.{part-all}
use Rattle.wire_spec.proofs.SizeLaws.{cells-octets}
use Rattle.std.proofs.lemmas.Result.{err_from_is_err_and}
use Rattle.anc_reader.proofs.RunLaws.{tally, tally-none, refused-next, Next, accepted-next}
use Rattle.anc_reader.proofs.check.check_run.Goals as goal

pub loop-i-init : goal.loop-i-init
loop-i-init c = let a = c.args in
    (zero-add _, omega arith, rw (sub-zero a.count) (tally-none c.args.layout (read_run c.args.layout 0 a.count a.octets.now)))

pub returns-in_err-words : goal.returns-in_err-words
returns-in_err-words c = let a = c.args in
    let l = c.loop-i in
    let n : a.count - l.i ≡ suc (a.count - (l.i + 1)) = omega arith in
    let p = err_from_is_err_and c.from_residual.result c.from_residual.ensures.1 in
    rw (p.1, p.2)
    (sym (refused-next c.args.layout l.rest.now l.i (a.count - (l.i + 1)) l.used.0 l.cells _ (sym c.check_packet.ensures ∙ c.in_err-words.was))
    ∙ (rw n at l.invariant.2))

pub slice_bounds-rest-count : goal.slice_bounds-rest-count
slice_bounds-rest-count c = let next : let l = c.loop-i in Next c.args.layout l.rest.now l.i (c.args.count - (l.i + 1)) l.used.0 l.cells c.in_ok-words.words = let l = c.loop-i in
    accepted-next c.args.layout l.rest.now l.i _ l.used.0 l.cells _ (sym c.check_packet.ensures ∙ c.in_ok-words.was) in
    omega (arith, (next).fits, c.packet_size-size.ensures)

pub slice_bounds-rest-start : goal.slice_bounds-rest-start
slice_bounds-rest-start c = let next : let l = c.loop-i in Next c.args.layout l.rest.now l.i (c.args.count - (l.i + 1)) l.used.0 l.cells c.in_ok-words.words = let l = c.loop-i in
    accepted-next c.args.layout l.rest.now l.i _ l.used.0 l.cells _ (sym c.check_packet.ensures ∙ c.in_ok-words.was) in
    omega (arith, (next).fits, c.packet_size-size.ensures)

pub plus-used-requires : goal.plus-used-requires
plus-used-requires c = let next : let l = c.loop-i in Next c.args.layout l.rest.now l.i (c.args.count - (l.i + 1)) l.used.0 l.cells c.in_ok-words.words = let l = c.loop-i in
    accepted-next c.args.layout l.rest.now l.i _ l.used.0 l.cells _ (sym c.check_packet.ensures ∙ c.in_ok-words.was) in
    omega (arith, (next).fits, c.packet_size-size.ensures)

pub overflow_add-cells : goal.overflow_add-cells
overflow_add-cells c = let next : let l = c.loop-i in Next c.args.layout l.rest.now l.i (c.args.count - (l.i + 1)) l.used.0 l.cells c.in_ok-words.words = let l = c.loop-i in
    accepted-next c.args.layout l.rest.now l.i _ l.used.0 l.cells _ (sym c.check_packet.ensures ∙ c.in_ok-words.was) in
    let w = c.in_ok-words.words.0 in
    omega (arith, cells-octets c.args.layout w, (next).fits)

pub loop-i-preserved : goal.loop-i-preserved
loop-i-preserved c = let next : let l = c.loop-i in Next c.args.layout l.rest.now l.i (c.args.count - (l.i + 1)) l.used.0 l.cells c.in_ok-words.words = let l = c.loop-i in
    accepted-next c.args.layout l.rest.now l.i _ l.used.0 l.cells _ (sym c.check_packet.ensures ∙ c.in_ok-words.was) in
    let a = c.args in
    let l = c.loop-i in
    let s = l.rest.now in
    let z = c.packet_size-size.result.0 in
    let w = c.in_ok-words.words.0 in
    let m = a.count - (l.i + 1) in
    let n : a.count - l.i ≡ suc m = omega arith in
    let t = next in
    let e : z ≡ anc_size c.args.layout w = c.packet_size-size.ensures in (
      omega (arith, ap length (part-all z s), length-drop z s, t.fits, c.plus-used.ensures),
      omega (arith, e, cells-octets c.args.layout w, c.plus-used.ensures),
      rw c.plus-used.ensures
          (ap (λ (x : List ℕ). tally c.args.layout (l.used.0 + z) (l.cells + (head_cells + w)) (read_run c.args.layout (l.i + 1) m x)) (part-all z s)
          ∙ ap (λ (x : ℕ). tally c.args.layout (l.used.0 + x) (l.cells + (head_cells + w)) (read_run c.args.layout (l.i + 1) m (drop x s))) e
          ∙ sym t.goes
          ∙ (rw n at l.invariant.2)),
    )

pub returns : goal.returns
unfolding read_run
returns c = let l = c.loop-i in
    let e : c.args.count - l.i ≡ 0 = omega arith in
    rw (add-zero l.used.0, add-zero l.cells) at (rw e at l.invariant.2)
