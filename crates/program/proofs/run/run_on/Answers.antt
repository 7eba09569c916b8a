-- By the laws of a run in turns.
use Rattle.std.proofs.Common.{refl, arith}
use Rattle.program_spec.proofs.RunLaws.{bounds}
use Rattle.program_spec.proofs.TurnLaws.{first-turn, last-turn, next-turn}
use Rattle.program.proofs.run.run_on.Goals as goal

pub loop-made-init : goal.loop-made-init
loop-made-init g c = first-turn c.requires.goes_on

pub turn-requires-clause-in_bounds : goal.turn-requires-clause-in_bounds
turn-requires-clause-in_bounds g c = bounds c.requires.in_bounds c.loop-made.invariant.passed

pub turn-requires-clause-holds : goal.turn-requires-clause-holds
turn-requires-clause-holds g c =
    let l = c.loop-made in
    let i = l.invariant in
    let r = c.requires.lasts i.read i.written _ i.passed (omega (arith, i.made, c.loop-made-test.true)) l.run.session l.store l.auto.store refl in
    record { item = omega (arith, r.0.item, l.auto.input); text = rw l.auto.out r.0.text }

pub turn-requires-clause-can_take : goal.turn-requires-clause-can_take
turn-requires-clause-can_take g c =
    let l = c.loop-made in
    let i = l.invariant in
    (c.requires.lasts i.read i.written _ i.passed (omega (arith, i.made, c.loop-made-test.true)) l.run.session l.store l.auto.store refl).1

pub loop-made-preserved : goal.loop-made-preserved
loop-made-preserved g c = next-turn c.loop-made.invariant c.turn.ensures c.if-not-goes_on.false

pub returns-then-not-goes_on : goal.returns-then-not-goes_on
returns-then-not-goes_on g c = last-turn c.loop-made.invariant c.turn.ensures c.if-not-goes_on.true
