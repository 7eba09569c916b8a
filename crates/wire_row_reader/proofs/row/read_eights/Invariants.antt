-- `read_eights` writes the words from an octet on to the cells from one on, and no other cell.
-- Invariant: the words that are left, written behind those that are, make all of them written.
use mathlib.Core.Path.{◌≡◌}
use Prim.Native.Nat.{◌≤◌, ◌+◌, ◌-◌, ◌*◌}
use lib.ListN.{length}
use Rattle.wire_spec.specs.Bits.{row_at, splice}
use Rattle.wire_spec.specs.Words.{word_bits}
use Rattle.wire_row_reader.proofs.row.read_eights.Given as goal

abbrev pub invariant-loop-k : goal.invariant-loop-k
invariant-loop-k l = (l.k ≤ l.eights) × (length l.cells ≡ length l.initial.cells)
    × (splice l.cells (l.to + 8 * l.k) (row_at word_bits l.octets (8 * (l.from + 10 * l.k)) (8 * (l.eights - l.k))) ≡ splice l.initial.cells l.to (row_at word_bits l.octets (8 * l.from) (8 * l.eights)))

abbrev pub decreases-loop-k : goal.decreases-loop-k
decreases-loop-k l = l.eights - l.k
