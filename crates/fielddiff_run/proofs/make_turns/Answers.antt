-- By the laws of a run in turns.
use Rattle.std.proofs.Common.{ap, ap₂, ◌∙◌, arith}
use Rattle.program_spec.proofs.TurnLaws.{first-turn, last-turn, next-turn}
use Rattle.fielddiff_turn.specs.declared.Run.{Run}
use Rattle.fielddiff_turn.specs.Turns.{started}
use Rattle.fielddiff_turn.proofs.RunLaws.{position-made, run-stands}
use Rattle.fielddiff_run.proofs.make_turns.Goals as goal

pub loop-made-init : goal.loop-made-init
loop-made-init c =
    let e = c.start-run.ensures ∙ ap₂ started c.start.ensures c.start-2.ensures in
    first-turn (ap (λ (v : Run). v.«open») e)

pub turn-run-requires-clause-position_bound : goal.turn-run-requires-clause-position_bound
turn-run-requires-clause-position_bound c =
    let e = c.start-run.ensures ∙ ap₂ started c.start.ensures c.start-2.ensures in
    let f = c.loop-made.invariant in
    let z = run-stands e f.passed in
    (omega (arith, position-made e f.passed, f.made, c.loop-made-test.true), (z.now, z.stands))

pub loop-made-preserved : goal.loop-made-preserved
loop-made-preserved c = next-turn c.loop-made.invariant c.turn-run.ensures c.if-not-goes_on.false

pub returns-then-not-goes_on : goal.returns-then-not-goes_on
returns-then-not-goes_on c =
    let e = c.start-run.ensures ∙ ap₂ started c.start.ensures c.start-2.ensures in
    (_, e, last-turn c.loop-made.invariant c.turn-run.ensures c.if-not-goes_on.true)

pub returns-after-loop-made : goal.returns-after-loop-made
returns-after-loop-made c =
    let e = c.start-run.ensures ∙ ap₂ started c.start.ensures c.start-2.ensures in
    let i = c.loop-made.invariant in
    (_, e, record { read = i.read; written = i.written; passed = i.passed; ends = λ o. omega (arith, i.made, c.loop-made-test.false) })
