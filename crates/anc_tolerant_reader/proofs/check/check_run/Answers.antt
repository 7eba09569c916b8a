use mathlib.Core.Path.{◌≡◌, ap, sym, ◌∙◌}
use mathlib.Core.List.{List}
use Prim.Native.Nat.{ℕ, suc, ◌+◌, ◌-◌}
use native.Mathlib.Nat.{add-zero, sub-zero}
use native.Mathlib.Omega.{arith}
use lib.ListN.{length, drop, length-drop}
use Rattle.wire_spec.specs.Anc.{anc_size}
use Rattle.wire_spec.proofs.ListLaws.{part-all}
use Rattle.wire_spec.proofs.SizeLaws.{cells-octets}
use Rattle.anc_tolerant_spec.specs.Tolerant.{tolerate_run}
use Rattle.anc_tolerant_reader.specs.Answers.{tallied}
use Rattle.anc_tolerant_reader.specs.declared.check.Tally.{Tally}
use Rattle.std.proofs.lemmas.Result.{err_from_is_err_and}
use Rattle.anc_tolerant_reader.proofs.RunLaws.{joined, joined-none, tallied-most, refused-next, Next, taken_next}
use Rattle.anc_tolerant_reader.proofs.check.check_run.Goals as goal

pub loop-i-init : goal.loop-i-init
loop-i-init c = let a = c.args in
    (omega arith, omega arith, rw (sub-zero a.count) (joined-none (tolerate_run a.layout 0 a.count a.octets.now)))

pub returns-in_err-part : goal.returns-in_err-part
returns-in_err-part c = let a = c.args in
    let l = c.loop-i in
    let n : a.count - l.i ≡ suc (a.count - (l.i + 1)) = omega arith in
    let p = err_from_is_err_and c.from_residual.result c.from_residual.ensures.1 in
    rw (p.1, p.2)
    (sym (refused-next a.layout l.rest.now l.i (a.count - (l.i + 1)) l.tally _ _ (sym c.take_packet.ensures ∙ c.in_err-part.was))
    ∙ (rw n at l.invariant.2))

pub slice_bounds-rest-count : goal.slice_bounds-rest-count
slice_bounds-rest-count c = let next : let l = c.loop-i in Next c.args.layout l.rest.now l.i (c.args.count - (l.i + 1)) l.tally c.in_ok-part.part.words c.in_ok-part.part.own = let l = c.loop-i in
    taken_next c.args.layout l.rest.now l.i _ l.tally _ _ (sym c.take_packet.ensures ∙ c.in_ok-part.was) in
    omega (arith, (next).fits, c.packet_size-step.ensures)

pub slice_bounds-rest-start : goal.slice_bounds-rest-start
slice_bounds-rest-start c = let next : let l = c.loop-i in Next c.args.layout l.rest.now l.i (c.args.count - (l.i + 1)) l.tally c.in_ok-part.part.words c.in_ok-part.part.own = let l = c.loop-i in
    taken_next c.args.layout l.rest.now l.i _ l.tally _ _ (sym c.take_packet.ensures ∙ c.in_ok-part.was) in
    omega (arith, (next).fits, c.packet_size-step.ensures)

pub plus-tally-requires : goal.plus-tally-requires
plus-tally-requires c = let next : let l = c.loop-i in Next c.args.layout l.rest.now l.i (c.args.count - (l.i + 1)) l.tally c.in_ok-part.part.words c.in_ok-part.part.own = let l = c.loop-i in
    taken_next c.args.layout l.rest.now l.i _ l.tally _ _ (sym c.take_packet.ensures ∙ c.in_ok-part.was) in
    omega (arith, (next).fits, cells-octets c.args.layout c.in_ok-part.part.words.0)

pub loop-i-preserved : goal.loop-i-preserved
loop-i-preserved c = let next : let l = c.loop-i in Next c.args.layout l.rest.now l.i (c.args.count - (l.i + 1)) l.tally c.in_ok-part.part.words c.in_ok-part.part.own = let l = c.loop-i in
    taken_next c.args.layout l.rest.now l.i _ l.tally _ _ (sym c.take_packet.ensures ∙ c.in_ok-part.was) in
    let a = c.args in
    let l = c.loop-i in
    let L = a.layout in
    let s = l.rest.now in
    let z = c.packet_size-step.result.0 in
    let w = c.in_ok-part.part.words.0 in
    let own = c.in_ok-part.part.own in
    let m = a.count - (l.i + 1) in
    let n : a.count - l.i ≡ suc m = omega arith in
    let t = next in
    let e : z ≡ anc_size L w = c.packet_size-step.ensures in
    let p : c.plus-tally.result ≡ tallied l.tally w own = c.plus-tally.ensures in
    let b = tallied-most l.tally w own in (
      omega (arith, ap (λ (x : Tally). x.omitted) p, b),
      omega (arith, ap (λ (x : Tally). x.cells) p, b, ap length (part-all z s), length-drop z s, t.fits, cells-octets L w),
      ap (λ (x : List ℕ). joined c.plus-tally.result (tolerate_run L (l.i + 1) m x)) (part-all z s)
          ∙ ap (λ (x : Tally). joined x (tolerate_run L (l.i + 1) m (drop z s))) p
          ∙ ap (λ (x : ℕ). joined (tallied l.tally w own) (tolerate_run L (l.i + 1) m (drop x s))) e
          ∙ sym t.goes
          ∙ (rw n at l.invariant.2),
    )

pub returns : goal.returns
unfolding tolerate_run
returns c = let l = c.loop-i in
    let e : c.args.count - l.i ≡ 0 = omega arith in
    rw (add-zero l.tally.omitted, add-zero l.tally.cells) at (rw e at l.invariant.2)
