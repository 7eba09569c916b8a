-- `check_items` gathers the items of a text.
-- Invariant: what was gathered, with the items that are left, comes to what the whole text comes to.
use mathlib.Core.Path.{◌≡◌}
use Prim.Native.Nat.{◌≤◌, ◌+◌}
use lib.ListN.{length}
use Rattle.wire_spec.specs.Bits.{bit}
use Rattle.sdp_spec.specs.Reading.{gather, items, none}
use Rattle.sdp_spec.proofs.CutLaws.{left}
use Rattle.sdp_reader.proofs.check_items.Given as goal

abbrev pub invariant-loop-more : goal.invariant-loop-more
invariant-loop-more l = (l.index + (length l.rest + bit l.more) ≤ length l.text + 1) × (gather l.index l.found (left l.more l.rest) ≡ gather 0 none (items l.text))

abbrev pub decreases-loop-more : goal.decreases-loop-more
decreases-loop-more l = length l.rest + bit l.more
