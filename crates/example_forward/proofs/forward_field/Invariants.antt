-- What is left of the store is no longer than it was.
use Rattle.std.proofs.Common.{◌≤◌, length}
use Rattle.example_forward.proofs.forward_field.Given as goal

abbrev pub invariant-loop-index : goal.invariant-loop-index
invariant-loop-index l = length l.rest ≤ length l.store
