use mathlib.Core.Path.{◌≡◌, refl, sym, ◌∙◌, subst}
use mathlib.Core.Bool.{true}
use Prim.Native.Nat.{ℕ, ◌+◌, ◌*◌, ◌<◌}
use native.Mathlib.Omega.{arith}
use lib.ListN.{set}
use Rattle.egress_spec.specs.Places.{held, slot_at}
use Rattle.egress_state.proofs.SurveyLaws.{Fit, Passed, fits_below, held_of, mark-at, no-marks, passed-free, passed-held, passes, twice, unfit, refuses-memory, refuses-numbers, refuses-place}
use Rattle.egress_spec.proofs.PlaceLaws.{head-fits, slot-fits}
use Rattle.egress_spec.proofs.Upto.{upto-none}
use Rattle.egress_state.proofs.survey.survey.Goals as goal
use Rattle.egress_state.proofs.survey.survey.Goals.{then-is_held+else-not-length_fits+else-used-slot, else-is_held}

pub returns-then-memory-ne-MEMORY : goal.returns-then-memory-ne-MEMORY
returns-then-memory-ne-MEMORY c = refuses-memory _ _ _ c.if-memory-ne-MEMORY.true

pub returns-then-not-numbers_fit : goal.returns-then-not-numbers_fit
returns-then-not-numbers_fit c = refuses-numbers _ _ _ (sym c.numbers_fit.ensures ∙ c.if-not-numbers_fit.true)

pub loop-c-init : goal.loop-c-init
loop-c-init c =
    record {
      size = omega arith;
      long = refl;
      numbers = sym c.numbers_fit.ensures ∙ c.if-not-numbers_fit.false;
      places = upto-none _;
      marks = no-marks c.args.state;
    }

pub loop-i-init : goal.loop-i-init
loop-i-init c = let l = c.loop-c in
    let a = c.args in
    let z : 8 * l.c ≡ 8 * l.c + 0 = omega arith in
    subst (λ (k : ℕ). Passed a.state a.memory k l.used) z l.invariant

pub is_held-requires : goal.is_held-requires
is_held-requires c = let a = c.args in
    let l = c.loop-i in
    let k = 8 * c.loop-c.c + l.i in
    (omega arith, head-fits a.state c.loop-c.c l.invariant.numbers (omega arith))

pub returns-then-not-length_fits : goal.returns-then-not-length_fits
returns-then-not-length_fits c = let a = c.args in
    let l = c.loop-i in
    let k = 8 * c.loop-c.c + l.i in
    let low : k < 64 = omega arith in
    let place = sym (held_of a.state c.loop-c.c l.i (omega arith)) in
    let h : held a.state k ≡ true = place ∙ sym c.is_held.ensures ∙ c.if-is_held.true in
    let f = sym c.length_fits.ensures ∙ c.if-not-length_fits.true in
    refuses-place a.state a.memory l.used k low (unfit a.state k h f)

pub overflow_cast-slot : goal.overflow_cast-slot
overflow_cast-slot c = let a = c.args in
    let l = c.loop-i in
    let k = 8 * c.loop-c.c + l.i in
    let h : slot_at a.state k < 64 = slot-fits a.state k l.invariant.numbers (omega arith) in
    fits_below h

pub bounds-used-slot : goal.bounds-used-slot
bounds-used-slot c = let a = c.args in
    let l = c.loop-i in
    let k = 8 * c.loop-c.c + l.i in
    slot-fits a.state k l.invariant.numbers (omega arith)

pub returns-then-used-slot : goal.returns-then-used-slot
returns-then-used-slot c = let a = c.args in
    let l = c.loop-i in
    let k = 8 * c.loop-c.c + l.i in
    let low : k < 64 = omega arith in
    let place = sym (held_of a.state c.loop-c.c l.i (omega arith)) in
    let held-here = c.is_held.ensures in
    let h : held a.state k ≡ true = place ∙ sym held-here ∙ c.if-is_held.true in
    let m = mark-at a.state a.memory k l.used l.invariant low in
    refuses-place a.state a.memory l.used k low (twice a.state k h (sym m ∙ c.if-used-slot.true))

pub bounds-used-slot-then-is_held : goal.bounds-used-slot-then-is_held
bounds-used-slot-then-is_held c = let a = c.args in
    let l = c.loop-i in
    let k = 8 * c.loop-c.c + l.i in
    slot-fits a.state k l.invariant.numbers (omega arith)

pub loop-i-preserved : goal.loop-i-preserved
loop-i-preserved c = let a = c.args in
    let l = c.loop-i in
    let k = 8 * c.loop-c.c + l.i in
    let low : k < 64 = omega arith in
    let place = sym (held_of a.state c.loop-c.c l.i (omega arith)) in
    let told = place ∙ sym c.is_held.ensures in
    let z : k + 1 ≡ 8 * c.loop-c.c + (l.i + 1) = omega arith in
    elim c.if-is_held.branch [
      | then-is_held+else-not-length_fits+else-used-slot w ↦
          let e : Fit a.state k = sym w.length_fits.ensures ∙ w.if-not-length_fits.false in
          let marked = set l.used (slot_at a.state k) true in
          let p = passed-held a.state a.memory k l.used l.invariant low (told ∙ w.if-is_held.true) e w.if-used-slot.false in
          rw w.used-is (subst (λ (j : ℕ). Passed a.state a.memory j marked) z p)
      | else-is_held w ↦
          let p = passed-free a.state a.memory k l.used l.invariant (told ∙ w.if-is_held.false) in
          rw w.used-is (subst (λ (j : ℕ). Passed a.state a.memory j l.used) z p)
    ]

pub loop-c-preserved : goal.loop-c-preserved
loop-c-preserved c = let a = c.args in
    let l = c.loop-i in
    let k = 8 * c.loop-c.c + l.i in
    let z : k ≡ 8 * (c.loop-c.c + 1) = omega arith in
    subst (λ (j : ℕ). Passed a.state a.memory j l.used) z l.invariant

pub returns : goal.returns
returns c = let l = c.loop-c in
    let a = c.args in
    passes a.state a.memory (8 * l.c) l.used (omega arith) l.invariant
