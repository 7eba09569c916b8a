-- `check_run` tells what a run of packets is in the tolerant way.
-- Invariant: what was counted, with what the packets that are left come to, is what the whole run comes to.
use mathlib.Core.Path.{◌≡◌}
use Prim.Native.Nat.{◌≤◌, ◌+◌, ◌-◌}
use lib.ListN.{length}
use Rattle.anc_tolerant_spec.specs.Tolerant.{tolerate_run}
use Rattle.anc_tolerant_reader.specs.Answers.{tolerant_run_of}
use Rattle.anc_tolerant_reader.proofs.RunLaws.{joined}
use Rattle.anc_tolerant_reader.proofs.check.check_run.Given as goal

abbrev pub invariant-loop-i : goal.invariant-loop-i
invariant-loop-i l = (l.tally.omitted ≤ l.i) × (l.tally.cells + length l.rest ≤ length l.octets)
    × (joined l.tally (tolerate_run l.layout l.i (l.count - l.i) l.rest) ≡ tolerant_run_of (tolerate_run l.layout 0 l.count l.octets))
