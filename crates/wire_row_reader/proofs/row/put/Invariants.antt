-- `put` writes words to the cells from one on, and no other cell.
-- Invariant: the words that are left, written behind those that are, make all of them written.
use Rattle.std.proofs.Common.{◌≡◌, ◌+◌, drop}
use Rattle.wire_spec.specs.Bits.{splice}
use Rattle.wire_row_reader.proofs.row.put.Given as goal

abbrev pub invariant-loop-k : goal.invariant-loop-k
invariant-loop-k l = splice l.cells (l.to + l.k) (drop l.k l.words) ≡ splice l.initial.cells l.to l.words
