-- `wanted` tells whether a record is wanted, by pairs in plain octets.
-- Invariant: an entry of what is left matches exactly where an entry of the whole does.
use mathlib.Core.Path.{◌≡◌}
use Prim.Native.Nat.{◌-◌, ◌≤◌}
use lib.ListN.{length, drop}
use Rattle.anc_filter.specs.Wanted.{any_in}
use Rattle.anc_filter.proofs.wanted.Given as goal

abbrev pub invariant-loop-i : goal.invariant-loop-i
invariant-loop-i l = (l.i ≤ length l.pairs) × (any_in l.did l.sdid (drop l.i l.pairs) ≡ any_in l.did l.sdid l.pairs)

abbrev pub decreases-loop-i : goal.decreases-loop-i
decreases-loop-i l = length l.pairs - l.i
