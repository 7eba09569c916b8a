-- By whether there is room for what it prints, and by the phase.
use Rattle.std.proofs.Common.{ap, arith}
use Rattle.fielddiff_turn.specs.Turns.{is_over, rests, writes}
use Rattle.fielddiff_turn.proofs.TurnLaws.{flushed-turned}
use Rattle.fielddiff_run.proofs.turn.Goals as goal

pub returns-then-out-run-lt-TEXT_ROOM : goal.returns-then-out-run-lt-TEXT_ROOM
returns-then-out-run-lt-TEXT_ROOM c =
    let a = c.args in
    flushed-turned a.run a.lread.now a.rread.now a.lstore.now a.rstore.now a.out.now c.requires.bounds c.flush.result c.flush.ensures
    (writes (omega (arith, c.if-out-run-lt-TEXT_ROOM.true, c.requires.enough.text)) c.flush.ensures)

pub returns-in-Comparing : goal.returns-in-Comparing
returns-in-Comparing c = c.turn_records.ensures c.args.lread.now c.args.rread.now c.requires.bounds

pub returns-in-Done : goal.returns-in-Done
returns-in-Done c =
    let a = c.args in
    flushed-turned a.run a.lread.now a.rread.now a.lstore.now a.rstore.now a.out.now c.requires.bounds c.flush-in-Done.result c.flush-in-Done.ensures
    (rests (ap is_over c.in-Done.is) c.flush-in-Done.ensures)
