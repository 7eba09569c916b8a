-- What was read lies in the octets.
use Rattle.std.proofs.Common.{◌≤◌, ◌-◌, length}
use Rattle.example_fieldfile.proofs.read_full.Given as goal

abbrev pub invariant-loop-done : goal.invariant-loop-done
invariant-loop-done l = l.done ≤ length l.octets

abbrev pub decreases-loop-done : goal.decreases-loop-done
decreases-loop-done l = length l.initial.octets - l.done
