-- `tags_size` is the octets of the tags.
-- Invariant: what was counted, with the tags from there on, is all of them.
use mathlib.Core.Path.{◌≡◌}
use Prim.Native.Nat.{◌+◌, ◌-◌, ◌≤◌}
use lib.ListN.{length, drop}
use Rattle.capture_datagram.specs.Link.{tag_octets}
use Rattle.capture_datagram.proofs.ethernet.tags_size.Given as goal

abbrev pub invariant-loop-size : goal.invariant-loop-size
invariant-loop-size l = (l.at + l.size ≤ length l.packet) × (l.size + tag_octets (drop (l.at + l.size) l.packet) ≡ tag_octets (drop l.at l.packet))

abbrev pub decreases-loop-size : goal.decreases-loop-size
decreases-loop-size l = length l.packet - l.size
