-- `read_singly` writes words to the first cells, and no other cell.
-- Invariant: the words that are left, written behind those that are, make all of them written.
use mathlib.Core.Path.{◌≡◌}
use Prim.Native.Nat.{◌+◌, ◌-◌, ◌*◌}
use Rattle.wire_spec.specs.Bits.{row_at, overwrite, splice}
use Rattle.wire_spec.specs.Words.{word_bits}
use Rattle.anc_reader.proofs.read.read_singly.Given as goal

abbrev pub invariant-loop-k : goal.invariant-loop-k
invariant-loop-k l =
    splice l.cells l.k (row_at word_bits l.octets (l.bit + 10 * l.k) (l.count - l.k))
    ≡ overwrite (row_at word_bits l.octets l.bit l.count) l.initial.cells
