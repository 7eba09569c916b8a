-- `write_packets` writes the packets of all records of the list to the first words, and no other word.
-- Invariant: the packets that are left, written behind those that are, make all of them written.
use mathlib.Core.Path.{◌≡◌}
use lib.ListN.{length}
use Rattle.wire_spec.specs.Bits.{overwrite}
use Rattle.wire_spec.specs.Cells.{read_list}
use Rattle.sdi_spec.specs.Passes.{list_stretch}
use Rattle.sdi_spec.proofs.WalkLaws.{ToWrite}
use Rattle.sdi_packets.proofs.writing.write_packets.Given as goal

abbrev pub invariant-loop-rest : goal.invariant-loop-rest
invariant-loop-rest l = (length l.words ≡ length l.initial.words) × ToWrite (overwrite (list_stretch (read_list l.cells)) l.initial.words) l.words l.rest l.to

abbrev pub decreases-loop-rest : goal.decreases-loop-rest
decreases-loop-rest l = length l.rest
