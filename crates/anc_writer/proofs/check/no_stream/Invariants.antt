-- `no_stream` tells whether S and StreamNum of each record are zero.
-- Invariant: the test of the records that were seen, with the test of those that are left, is the test of all.
use mathlib.Core.Bool.{◌&&◌}
use mathlib.Core.Path.{◌≡◌}
use lib.ListN.{length}
use Rattle.wire_spec.specs.Result.{IsAccepted}
use Rattle.wire_spec.specs.Cells.{rest, read_list}
use Rattle.wire_spec.specs.Writing.{no_stream}
use Rattle.anc_writer.specs.Answers.{list_records}
use Rattle.anc_writer.proofs.check.no_stream.Given as goal

abbrev pub invariant-loop-rest : goal.invariant-loop-rest
invariant-loop-rest l = IsAccepted (read_list l.rest) × (l.none && no_stream (list_records (read_list l.rest)) ≡ no_stream (list_records (read_list l.cells)))

abbrev pub decreases-loop-rest : goal.decreases-loop-rest
decreases-loop-rest l = length l.rest
