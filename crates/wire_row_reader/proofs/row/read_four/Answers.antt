-- `read_four` writes the four words from an octet on to the cells from one on, and no other cell.
-- By the cells set one after the other.
use mathlib.Core.Path.{ap, ◌∙◌}
use mathlib.Core.List.{[], ◌∷◌}
use Prim.Native.Nat.{◌*◌}
use native.Mathlib.Omega.{arith}
use lib.ListN.{length-set}
use Rattle.wire_spec.specs.Bits.{splice}
use Rattle.wire_spec.proofs.ListLaws.{set-run}
use Rattle.wire_row_reader.proofs.Rows.{row-run}
use Rattle.wire_row_reader.proofs.row.read_four.Goals as goal

pub bounds-cells-to-2 : goal.bounds-cells-to-2
bounds-cells-to-2 c = simp length-set (omega arith)

pub bounds-cells-to-3 : goal.bounds-cells-to-3
bounds-cells-to-3 c = simp length-set (omega arith)

pub bounds-cells-to-4 : goal.bounds-cells-to-4
bounds-cells-to-4 c = simp length-set (omega arith)

pub returns : goal.returns
returns c = let a = c.args in
    let l = a.cells.now in
    set-run l a.to _ (_ ∷ _ ∷ _ ∷ []) (omega arith)
    ∙ ap (splice l a.to)
    ((λ i. c.fetch-w.ensures i ∷ c.fetch-x.ensures i ∷ c.fetch-y.ensures i ∷ c.fetch-z.ensures i ∷ []) ∙ row-run 3 a.octets.now (8 * a.from))
