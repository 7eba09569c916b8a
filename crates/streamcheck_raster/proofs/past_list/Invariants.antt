-- `past_list` goes past all records of a list.
-- Invariant: past the records that are left makes past all of them. A list that was accepted has a header at its front, while cells are left.
use lib.ListN.{length}
use Rattle.wire_spec.specs.Cells.{read_list}
use Rattle.streamcheck_spec.specs.Code.{past_list}
use Rattle.streamcheck_raster.proofs.RecordsLeft.{Left}
use Rattle.streamcheck_raster.proofs.past_list.Given as goal

abbrev pub invariant-loop-rest : goal.invariant-loop-rest
invariant-loop-rest l = Left (past_list l.initial.scan (read_list l.cells)) l.rest l.scan

abbrev pub decreases-loop-rest : goal.decreases-loop-rest
decreases-loop-rest l = length l.rest
