-- `start` leaves the first line put.
-- There is room for it.
use Rattle.fieldlist_session.specs.Session.{title}
use Rattle.program_spec.proofs.StepLaws.{first-put}
use Rattle.fieldlist_turns.specs.Turns.{program}
use Rattle.fieldlist_turns.proofs.TurnLaws.{room-put}
use Rattle.fieldlist_turns.proofs.start.Goals as goal

pub returns : goal.returns
returns c = let p = room-put title c.args.out.now _ _ _ c.requires c.begin.ensures.value c.begin.ensures.out_after c.octets_of-filled.ensures in
    record { octets = p.octets; waits = λ store input. first-put program c.begin-2.ensures p }
