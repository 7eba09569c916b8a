-- By the laws of a run in turns.
use Rattle.fielddiff_turn.proofs.RunLaws.{run-ended}
use Rattle.fielddiff_run.proofs.compare_within.Goals as goal

pub returns : goal.returns
returns c = let t = c.make_turns-run.ensures in run-ended t.1 t.2 c.close.ensures
