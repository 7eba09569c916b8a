-- There are cells for any packet.
use Rattle.streamcheck_turns.proofs.TurnLaws.{with-cells}
use Rattle.streamcheck_turns.proofs.CheckTakesItems.take.Goals as goal

pub returns : goal.returns
returns c = with-cells c.requires c.check_frame-reported.ensures.answers
