-- By the laws of a run in turns.
use Rattle.std.proofs.Common.{refl, [], arith}
use Rattle.program_spec.specs.Run.{at}
use Rattle.program_spec.proofs.RunLaws.{bounds, start-bounds, still-enough}
use Rattle.fieldlist_turns.specs.Turns.{Enough}
use Rattle.fieldlist_turns.proofs.RunLaws.{ended}
use Rattle.fieldlist_turns.proofs.TurnLaws.{ready}
use Rattle.fieldlist.proofs.list.Goals as goal

pub run_on-run-requires-clause-in_bounds : goal.run_on-run-requires-clause-in_bounds
run_on-run-requires-clause-in_bounds c = start-bounds (c.start-started.ensures.waits [] _)

pub run_on-run-requires-clause-goes_on : goal.run_on-run-requires-clause-goes_on
run_on-run-requires-clause-goes_on c = (c.start-started.ensures.waits [] []).goes_on

pub run_on-run-requires-clause-lasts : goal.run_on-run-requires-clause-lasts
run_on-run-requires-clause-lasts c =
    let enough = still-enough Enough refl refl c.start-started.auto.out c.requires in
    λ read written here p left. ready enough here

pub close-requires-clause-in_bounds : goal.close-requires-clause-in_bounds
close-requires-clause-in_bounds c =
    let b = bounds (start-bounds (c.start-started.ensures.waits c.args.store.now c.args.input.now)) c.run_on-run.ensures.passed in
    (b.0, b.1, omega arith)

pub returns : goal.returns
returns c =
    let r = c.run_on-run in
    let a = c.args in
    let t = c.start-started.ensures.waits a.store.now a.input.now in
    (at (r.result.session, r.new.store) r.result.buffers r.new.input r.new.out, refl, ended a.layout a.store.now t r.ensures (c.close.ensures r.new.store))
