-- `packet_cells` tells the cells of the records at the front that came in the packet.
-- Invariant: the cells that are passed, with those of the packet that are left, are all of the packet's.
use Rattle.std.proofs.Common.{◌≡◌, ◌+◌, ◌≤◌, length}
use Rattle.depacketizer_forward.specs.Forward.{packet_cells}
use Rattle.depacketizer_forward.proofs.packet_cells.Given as goal

abbrev pub invariant-loop-rest : goal.invariant-loop-rest
invariant-loop-rest l = (length l.rest ≤ length l.cells) × (packet_cells l.index l.cells + length l.rest ≡ length l.cells + packet_cells l.index l.rest)

abbrev pub decreases-loop-rest : goal.decreases-loop-rest
decreases-loop-rest l = length l.rest
