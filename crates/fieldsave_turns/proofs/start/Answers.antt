-- `start` leaves the file's head put.
-- There is room for it.
use Rattle.program_spec.proofs.StepLaws.{first-put}
use Rattle.fieldsave_turns.specs.Turns.{program}
use Rattle.fieldsave_turns.proofs.TurnLaws.{head-put}
use Rattle.fieldsave_turns.proofs.start.Goals as goal

pub returns : goal.returns
returns c = let w = c.begin in
    let p = head-put c.args.out.now _ w.result _ c.requires c.begin.ensures.value c.begin.ensures.out_after c.octets_of-filled.ensures in
    record { octets = p.octets; waits = λ store input. first-put program c.begin-2.ensures p }
