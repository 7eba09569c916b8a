-- `measure_list` answers how many records a list has and the octets of their packets, or that it is refused.
-- Invariant: every record so far is clear; what was counted, with what the cells that are left will add, is the answer; and the sums fit.
use mathlib.Core.Path.{◌≡◌}
use Prim.Native.Nat.{◌+◌, ◌*◌, ◌≤◌}
use lib.ListN.{length}
use Rattle.wire_spec.specs.Result.{◌then◌}
use Rattle.wire_spec.specs.Cells.{rest, records_from, read_list}
use Rattle.anc_writer.specs.Answers.{listed_of}
use Rattle.anc_writer.proofs.ListRun.{verdict, tally}
use Rattle.anc_writer.proofs.check.measure_list.Given as goal

abbrev pub invariant-loop-rest : goal.invariant-loop-rest
invariant-loop-rest l = (l.count + length l.rest ≤ length l.cells) × (2 * l.octets.0 + 3 * length l.rest ≤ 3 * length l.cells)
    × (tally l.layout l.count l.octets.0 (records_from (length l.rest) l.count l.rest then verdict l.count l.count) ≡ listed_of l.layout (read_list l.cells))

abbrev pub decreases-loop-rest : goal.decreases-loop-rest
decreases-loop-rest l = length l.rest
