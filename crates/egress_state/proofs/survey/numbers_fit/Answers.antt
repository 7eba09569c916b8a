use mathlib.Core.Path.{◌≡◌, sym, ◌∙◌}
use mathlib.Core.Bool.{true, false}
use native.Mathlib.Omega.{arith}
use borrow.Author.Tests.{lt-ltb, le-ltb}
use Rattle.egress_spec.specs.Places.{channel_ok}
use Rattle.egress_spec.proofs.Upto.{upto-fails, upto-more, upto-none}
use Rattle.egress_state.proofs.survey.numbers_fit.Goals as goal

pub returns-then-not-channel_fits : goal.returns-then-not-channel_fits
returns-then-not-channel_fits c = let st = c.args.state in
    let l = c.loop-c in
    let f : channel_ok st l.c ≡ false = sym c.channel_fits.ensures ∙ c.if-not-channel_fits.true in
    rw (upto-fails (channel_ok st) 8 l.c f (omega arith))

pub loop-c-preserved : goal.loop-c-preserved
loop-c-preserved c = let st = c.args.state in
    let l = c.loop-c in
    let f : channel_ok st l.c ≡ true = sym c.channel_fits.ensures ∙ c.if-not-channel_fits.false in
    upto-more (channel_ok st) l.c l.invariant f

pub returns-then-state-ge-CHANNELS : goal.returns-then-state-ge-CHANNELS
returns-then-state-ge-CHANNELS c = let st = c.args.state in
    let l = c.loop-c in
    let e : l.c ≡ 8 = omega arith in
    rw (rw e at l.invariant, le-ltb st.next 8 (omega arith))

pub returns : goal.returns
returns c = let st = c.args.state in
    let l = c.loop-c in
    let e : l.c ≡ 8 = omega arith in
    c.slots_fit.ensures ∙ sym (rw (rw e at l.invariant, lt-ltb st.next 8 (omega arith)))

pub loop-c-init : goal.loop-c-init
loop-c-init c = upto-none _
