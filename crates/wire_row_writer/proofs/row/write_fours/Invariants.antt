-- `write_fours` stores the first words from an octet on, and changes no other bit.
-- Invariant: the first words, four for each turn, are stored.
use Rattle.std.proofs.Common.{◌≡◌, ◌-◌, ◌*◌, ◌≤◌, length, take}
use Rattle.wire_spec.specs.Bits.{bits, field_bits, row, splice}
use Rattle.wire_spec.specs.Words.{word_bits}
use Rattle.wire_row_writer.proofs.row.write_fours.Given as goal

abbrev pub invariant-loop-k : goal.invariant-loop-k
invariant-loop-k l = (l.k ≤ l.fours) × (length l.octets ≡ length l.initial.octets) × (bits l.octets ≡ splice (bits l.initial.octets) (8 * l.from) (field_bits (row word_bits (take (4 * l.k) l.words))))

abbrev pub decreases-loop-k : goal.decreases-loop-k
decreases-loop-k l = l.fours - l.k
