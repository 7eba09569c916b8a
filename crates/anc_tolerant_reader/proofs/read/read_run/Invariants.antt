-- `read_run` writes the records that come through of a run to the first cells, and no other cell.
-- Invariant: the cells that are left, written behind those that are, make all of them written.
use Prim.Native.Nat.{◌-◌}
use Rattle.wire_spec.specs.Result.{IsAccepted}
use Rattle.anc_tolerant_spec.specs.Tolerant.{tolerate_run}
use Rattle.anc_tolerant_reader.specs.Answers.{taken_cells}
use Rattle.anc_tolerant_reader.proofs.RunLaws.{Left}
use Rattle.anc_tolerant_reader.proofs.read.read_run.Given as goal

abbrev pub invariant-loop-i : goal.invariant-loop-i
invariant-loop-i l = IsAccepted (tolerate_run l.layout l.i (l.count - l.i) l.rest)
    × Left (taken_cells (tolerate_run l.layout 0 l.count l.octets)) l.initial.cells (taken_cells (tolerate_run l.layout l.i (l.count - l.i) l.rest)) l.cells l.to
