-- `try_number` is safe and ends.
-- Invariant: the places passed are at most as many as there are.
use Prim.Native.Nat.{◌≤◌, ◌-◌}
use Rattle.example_egress.proofs.borders.try_number.Given as goal

abbrev pub invariant-loop-k : goal.invariant-loop-k
invariant-loop-k l = l.k ≤ l.places

abbrev pub decreases-loop-k : goal.decreases-loop-k
decreases-loop-k l = l.places - l.k
