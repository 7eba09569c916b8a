-- `tally_singly` tallies the words from a bit on.
-- Invariant: what was tallied, and the words that are left, make the whole.
use Rattle.std.proofs.Common.{◌≡◌, ◌+◌, ◌-◌, ◌*◌, ◌%◌, ◌&&◌, leb}
use Rattle.wire_spec.specs.Bits.{row_at}
use Rattle.wire_spec.specs.Words.{word_bits, sum_low, all_clear}
use Rattle.wire_row_scan.proofs.scan.tally_singly.Given as goal

abbrev pub invariant-loop-k : goal.invariant-loop-k
invariant-loop-k l =
    ((l.sum + sum_low (row_at word_bits l.octets (l.bit + 10 * l.k) (l.count - l.k))) % 512 ≡ sum_low (row_at word_bits l.octets l.bit l.count) % 512)
    × (leb 8 l.low && all_clear (row_at word_bits l.octets (l.bit + 10 * l.k) (l.count - l.k)) ≡ all_clear (row_at word_bits l.octets l.bit l.count))
