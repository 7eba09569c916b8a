-- `read_packets` writes the records of the packets to the first cells, and no other cell.
-- Invariant: the records that are left, written behind those that are, make all of them written.
use mathlib.Core.Path.{◌≡◌}
use lib.ListN.{length}
use Rattle.wire_spec.specs.Bits.{overwrite}
use Rattle.sdi_spec.specs.Packets.{packets_in}
use Rattle.sdi_spec.specs.Passes.{found_cells}
use Rattle.sdi_spec.proofs.WalkLaws.{ToRead}
use Rattle.sdi_packets.proofs.reading.read_packets.Given as goal

abbrev pub invariant-loop-rest : goal.invariant-loop-rest
invariant-loop-rest l = (length l.cells ≡ length l.initial.cells) × ToRead l.position (overwrite (found_cells (packets_in l.position l.words)) l.initial.cells) l.cells l.rest l.to

abbrev pub decreases-loop-rest : goal.decreases-loop-rest
decreases-loop-rest l = length l.rest
