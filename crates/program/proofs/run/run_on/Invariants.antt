-- The turns so far are a run, which goes on.
use Rattle.program_spec.specs.Run.{at, turning}
use Rattle.program_spec.proofs.TurnLaws.{Going}
use Rattle.program.proofs.run.run_on.Given as goal

abbrev pub invariant-loop-made : goal.invariant-loop-made
invariant-loop-made g l =
    let t = g.P.TakesItems in
    Going (turning (t.program l.it))
    (at (t.carried l.it l.initial.run.session l.initial.store) l.initial.run.buffers l.initial.input l.initial.out)
    (at (t.carried l.it l.run.session l.store) l.run.buffers l.input l.out) l.made
