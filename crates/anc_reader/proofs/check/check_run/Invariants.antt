-- `check_run` tells what a run of packets is.
-- Invariant: what was counted, with what the packets that are left come to, is what the whole run comes to.
use mathlib.Core.Path.{◌≡◌}
use Prim.Native.Nat.{◌≤◌, ◌+◌, ◌-◌}
use lib.ListN.{length}
use Rattle.wire_spec.specs.Anc.{read_run}
use Rattle.anc_reader.specs.Answers.{run_of}
use Rattle.anc_reader.proofs.RunLaws.{tally}
use Rattle.anc_reader.proofs.check.check_run.Given as goal

abbrev pub invariant-loop-i : goal.invariant-loop-i
invariant-loop-i l = (l.used.0 + length l.rest ≡ length l.octets) × (l.cells ≤ l.used.0)
    × (tally l.layout l.used.0 l.cells (read_run l.layout l.i (l.count - l.i) l.rest) ≡ run_of l.layout (read_run l.layout 0 l.count l.octets))
