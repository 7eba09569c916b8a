-- `add_lanes` adds the words to the sums of the lanes: all together, modulo 512.
-- Invariant: the sums, and the sum of the words that are left, make the whole sum, modulo 512.
use Rattle.std.proofs.Common.{◌≡◌, ◌+◌, ◌%◌, drop, sum}
use Rattle.wire_spec.specs.Words.{sum_low}
use Rattle.wire_row_scan.proofs.scan.add_lanes.Given as goal

abbrev pub invariant-loop-j : goal.invariant-loop-j
invariant-loop-j l = (sum l.sums + sum_low (drop l.j l.words)) % 512 ≡ (sum l.initial.sums + sum_low l.words) % 512
