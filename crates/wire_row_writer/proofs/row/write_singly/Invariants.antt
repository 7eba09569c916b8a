-- `write_singly` stores the words from a bit on, and changes no other bit.
-- Invariant: the first words are stored.
use Rattle.std.proofs.Common.{◌≡◌, take}
use Rattle.wire_spec.specs.Bits.{bits, field_bits, row, splice}
use Rattle.wire_spec.specs.Words.{word_bits}
use Rattle.wire_row_writer.proofs.row.write_singly.Given as goal

abbrev pub invariant-loop-k : goal.invariant-loop-k
invariant-loop-k l = bits l.octets ≡ splice (bits l.initial.octets) l.bit (field_bits (row word_bits (take l.k l.words)))
