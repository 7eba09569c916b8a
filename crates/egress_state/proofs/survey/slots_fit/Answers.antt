use mathlib.Core.Path.{◌≡◌, sym, ◌∙◌}
use mathlib.Core.Bool.{true, false}
use native.Mathlib.Omega.{arith}
use Rattle.egress_spec.specs.Places.{slot_ok}
use Rattle.egress_spec.proofs.Upto.{upto-fails, upto-more, upto-none}
use Rattle.egress_state.proofs.survey.slots_fit.Goals as goal

pub returns-then-not-slot_fits : goal.returns-then-not-slot_fits
returns-then-not-slot_fits c = let st = c.args.state in
    let l = c.loop-k in
    let f : slot_ok st l.k ≡ false = sym c.slot_fits.ensures ∙ c.if-not-slot_fits.true in
    rw (upto-fails (slot_ok st) 64 l.k f (omega arith))

pub loop-k-preserved : goal.loop-k-preserved
loop-k-preserved c = let st = c.args.state in
    let l = c.loop-k in
    let f : slot_ok st l.k ≡ true = sym c.slot_fits.ensures ∙ c.if-not-slot_fits.false in
    upto-more (slot_ok st) l.k l.invariant f

pub returns : goal.returns
returns c = let e : c.loop-k.k ≡ 64 = omega arith in
    sym (rw e at c.loop-k.invariant)

pub loop-k-init : goal.loop-k-init
loop-k-init c = upto-none _
