-- `sum_cells` is the sum of the low nine bits of the words, modulo 512.
-- Invariant: what was summed, and the sum of what is left, make the whole sum, modulo 512.
use Rattle.std.proofs.Common.{◌≡◌, ◌+◌, ◌%◌, drop}
use Rattle.wire_spec.specs.Words.{sum_low}
use Rattle.wire_row_writer.proofs.sum.sum_cells.Given as goal

abbrev pub invariant-loop-w : goal.invariant-loop-w
invariant-loop-w l = (l.sum + sum_low (drop l.w-index l.words)) % 512 ≡ sum_low l.words % 512
