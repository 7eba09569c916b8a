-- `read_run` writes the records of a run to the first cells, and no other cell.
-- Invariant: the records that are left, written behind those that are, make all of them written.
use Prim.Native.Nat.{◌-◌}
use Rattle.wire_spec.specs.Anc.{read_run}
use Rattle.anc_reader.specs.Answers.{run_cells_in}
use Rattle.anc_reader.proofs.RunLaws.{Left}
use Rattle.anc_reader.proofs.read.read_run.Given as goal

abbrev pub invariant-loop-i : goal.invariant-loop-i
invariant-loop-i l = Left l.layout l.index (run_cells_in l.index (read_run l.layout 0 l.count l.octets)) l.initial.cells l.i (l.count - l.i) l.rest l.cells l.to
