-- By whether one of the fields has no more records.
use Rattle.std.proofs.Common.{sym, subst}
use Rattle.fielddiff_turn.specs.declared.Run.{Run}
use Rattle.fielddiff_turn.specs.declared.Phase.{Phase}
use Rattle.fielddiff_turn.specs.Turns.{PhaseStands, Turned}
use Rattle.fielddiff_turn.proofs.RecordLaws.{compared}
use Rattle.fielddiff_turn.proofs.TurnLaws.{record-turned, records-over}
use Rattle.fielddiff_turn.proofs.turn_records.Goals as goal

pub returns-then-records : goal.returns-then-records
returns-then-records c =
    let a = c.args in
    λ l r b. subst (λ (z : Run). Turned a.run l r a.left.now a.right.now a.out.now z l r a.left.now a.right.now a.out.now) (sym c.with_phase.ensures)
    (records-over a.run l r a.left.now a.right.now a.out.now b a.records c.requires.text_room_in_bounds.1 c.if-records.true)

pub print_record-requires-clause-here : goal.print_record-requires-clause-here
print_record-requires-clause-here c =
    let a = c.args in
    let n = c.requires.stands.0 in
    let q = compared a.records a.left.now a.right.now n.left_records n.right_records (subst (λ (h : Phase). PhaseStands h a.left.now a.right.now n) c.requires.text_room_in_bounds.1 c.requires.stands.1.phase) c.if-records.false in
    (q.left_here, q.right_here)

pub returns : goal.returns
returns c =
    let a = c.args in
    let t = c.print_record in
    λ l r b. record-turned a.run l r a.left.now a.right.now a.out.now b a.records c.requires.text_room_in_bounds.1 c.if-records.false t.result t.new.out t.ensures.put t.ensures.value
