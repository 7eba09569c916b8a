-- `has_words` tells whether the first three checks of a record hold.
-- The cells are there where the other two are asked.
use borrow.Author.Tests.{le-leb, lt-leb}
use mathlib.Core.Path.{ap}
use mathlib.Core.Bool.{Bool, ◌&&◌}
use Prim.Native.Nat.{◌+◌}
use native.Mathlib.Omega.{arith}
use lib.Dec.{leb}
use lib.ListN.{length}
use Rattle.wire_spec.specs.Cells.{head_cells, cell_count}
use Rattle.anc_record.proofs.check.has_words.Goals as goal

pub returns-then-cells-lt-CELLS : goal.returns-then-cells-lt-CELLS
returns-then-cells-lt-CELLS c = rw (lt-leb _ _ c.if-cells-lt-CELLS.true)

pub overflow_cast-end : goal.overflow_cast-end
overflow_cast-end c = omega (arith, c.shared_slice_known-2-1.given 7)

pub overflow_add-end : goal.overflow_add-end
overflow_add-end c = omega (arith, c.shared_slice_known-2-1.given 7)

pub returns : goal.returns
returns c = let l = c.args.cells.now in
    rw (le-leb _ _ c.if-cells-lt-CELLS.false) (ap (λ (b : Bool). b && leb (head_cells + cell_count l) (length l)) c.head_in_range.ensures)
