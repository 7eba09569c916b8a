-- `headers_at` walks over the extension headers to UDP's.
-- Invariant: what the headers from here on say is what all of them say.
use mathlib.Core.Path.{◌≡◌}
use Prim.Native.Nat.{◌-◌, ◌≤◌}
use lib.ListN.{length, drop}
use Rattle.capture_datagram.specs.Answer.{beyond}
use Rattle.capture_datagram.specs.Ip.{headers}
use Rattle.capture_datagram.proofs.ipv6.headers_at.Given as goal

abbrev pub invariant-loop-header : goal.invariant-loop-header
invariant-loop-header l = (l.at ≤ length l.packet) × (beyond l.at (headers l.port l.next l.room (drop l.at l.packet)) ≡ beyond l.start (headers l.port l.first l.payload (drop l.start l.packet)))

abbrev pub decreases-loop-header : goal.decreases-loop-header
decreases-loop-header l = length l.packet - l.at
