-- The lines of the records that are left, behind those that are put, make the whole text. A list that was accepted has a header at its front, while cells
-- are left.
use Rattle.std.proofs.Common.{◌+◌, ◌*◌, ◌≤◌, length}
use Rattle.wire_spec.specs.Cells.{read_list}
use Rattle.fieldlist_records.specs.Records.{cell_room, list_text}
use Rattle.fieldlist_records.proofs.RecordsLeft.{Left}
use Rattle.fieldlist_records.proofs.put_records.Given as goal

abbrev pub invariant-loop-rest : goal.invariant-loop-rest
invariant-loop-rest l = record {
  room : l.to + cell_room * length l.rest ≤ length l.out;
  left : Left l.initial.out l.at (list_text (read_list l.cells)) l.out l.rest l.to;
}

abbrev pub decreases-loop-rest : goal.decreases-loop-rest
decreases-loop-rest l = length l.rest
