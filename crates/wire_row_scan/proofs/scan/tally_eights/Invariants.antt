-- `tally_eights` tallies the words from an octet on.
-- Invariant: the lanes, and the words that are left, make the whole.
use Rattle.std.proofs.Common.{◌≡◌, ◌+◌, ◌-◌, ◌*◌, ◌%◌, ◌≤◌, ◌&&◌, length, sum}
use Rattle.wire_spec.specs.Bits.{row_at}
use Rattle.wire_spec.specs.Words.{word_bits, sum_low, all_clear}
use Rattle.wire_row_scan.specs.Clear.{all_high}
use Rattle.wire_row_scan.proofs.scan.tally_eights.Given as goal

abbrev pub invariant-loop-k : goal.invariant-loop-k
invariant-loop-k l = (l.k ≤ l.eights) × (length l.sums ≡ 8) × (length l.lows ≡ 8)
    × ((sum l.sums + sum_low (row_at word_bits l.octets (8 * (l.from + 10 * l.k)) (8 * (l.eights - l.k)))) % 512 ≡ sum_low (row_at word_bits l.octets (8 * l.from) (8 * l.eights)) % 512)
    × (all_high l.lows && all_clear (row_at word_bits l.octets (8 * (l.from + 10 * l.k)) (8 * (l.eights - l.k))) ≡ all_clear (row_at word_bits l.octets (8 * l.from) (8 * l.eights)))

abbrev pub decreases-loop-k : goal.decreases-loop-k
decreases-loop-k l = l.eights - l.k
