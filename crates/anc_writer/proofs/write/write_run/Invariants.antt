-- `write_run` writes all records of the list as a run of packets.
-- Invariant: the records that are left, written behind those that are, make the whole run.
use mathlib.Core.Path.{◌≡◌}
use lib.ListN.{length}
use Rattle.wire_spec.specs.Bits.{overwrite}
use Rattle.wire_spec.specs.Cells.{rest, read_list}
use Rattle.anc_writer.specs.Answers.{list_octets}
use Rattle.anc_writer.proofs.RunLeft.{ToWrite}
use Rattle.anc_writer.proofs.write.write_run.Given as goal

abbrev pub invariant-loop-rest : goal.invariant-loop-rest
invariant-loop-rest l = (length l.octets ≡ length l.initial.octets) × ToWrite l.layout (overwrite (list_octets l.layout (read_list l.cells)) l.initial.octets) l.octets l.rest l.to

abbrev pub decreases-loop-rest : goal.decreases-loop-rest
decreases-loop-rest l = length l.rest
