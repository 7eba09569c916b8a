-- The turns so far are a run, which goes on.
use Rattle.program_spec.proofs.TurnLaws.{Going}
use Rattle.fielddiff_turn.specs.Turns.{at, turning}
use Rattle.fielddiff_run.proofs.make_turns.Given as goal

abbrev pub invariant-loop-made : goal.invariant-loop-made
invariant-loop-made l =
    Going turning (at l.initial.run l.initial.lread l.initial.rread l.initial.lstore l.initial.rstore l.initial.out) (at l.run l.lread l.rread l.lstore l.rstore l.out) l.made
