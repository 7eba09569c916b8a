-- `serve` is safe and ends.
-- Invariant: the takes made are within what is asked, and the memory keeps its length.
use mathlib.Core.Path.{◌≡◌}
use Prim.Native.Nat.{◌≤◌, ◌-◌}
use lib.ListN.{length}
use Rattle.example_egress.proofs.serve.Given as goal

abbrev pub invariant-loop-k : goal.invariant-loop-k
invariant-loop-k l = (l.k ≤ l.takes) × (length l.memory ≡ length l.initial.memory)

abbrev pub decreases-loop-k : goal.decreases-loop-k
decreases-loop-k l = l.takes - l.k
