-- `check_packets` tells what the packets at the front are.
-- Invariant: what was counted, with what the words that are left come to, is the answer, whatever the position.
use mathlib.Core.Path.{◌≡◌}
use Prim.Native.Nat.{◌+◌, ◌≤◌}
use lib.ListN.{length}
use Rattle.sdi_spec.specs.declared.position.Position.{Position}
use Rattle.sdi_spec.specs.Packets.{packets_from, packets_in}
use Rattle.sdi_spec.specs.Passes.{found_of}
use Rattle.sdi_spec.proofs.WalkLaws.{tally}
use Rattle.sdi_check.proofs.check.check_packets.Given as goal

abbrev pub invariant-loop-rest : goal.invariant-loop-rest
invariant-loop-rest l = (l.count ≤ l.used) × (l.used + length l.rest ≡ length l.words)
    × ((P : Position) → tally l.count l.used (packets_from (length l.rest) P l.count l.rest) ≡ found_of (packets_in P l.words))

abbrev pub decreases-loop-rest : goal.decreases-loop-rest
decreases-loop-rest l = length l.rest
