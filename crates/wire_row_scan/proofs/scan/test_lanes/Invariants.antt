-- `test_lanes` tests each word in its lane.
-- Invariant: the lanes, and the words that are left, show a protected word where there was one.
use Rattle.std.proofs.Common.{◌≡◌, ◌&&◌, drop}
use Rattle.wire_spec.specs.Words.{all_clear}
use Rattle.wire_row_scan.specs.Clear.{all_high}
use Rattle.wire_row_scan.proofs.scan.test_lanes.Given as goal

abbrev pub invariant-loop-j : goal.invariant-loop-j
invariant-loop-j l = all_high l.lows && all_clear (drop l.j l.words) ≡ all_high l.initial.lows && all_clear l.words
