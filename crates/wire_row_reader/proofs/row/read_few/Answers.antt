-- `read_few` writes at most three words from a bit on to the cells from one on, and no other cell.
-- By the cells set one after the other.
use mathlib.Core.Path.{◌≡◌, ap, sym, ◌∙◌}
use mathlib.Core.List.{[], ◌∷◌}
use native.Mathlib.Omega.{arith}
use lib.ListN.{length-set}
use Rattle.wire_spec.specs.Bits.{row_at, splice}
use Rattle.wire_spec.proofs.ListLaws.{set-run, splice-none}
use Rattle.wire_row_reader.proofs.Rows.{row-run}
use Rattle.wire_row_reader.proofs.row.read_few.Goals as goal

pub returns-then-count-eq0 : goal.returns-then-count-eq0
unfolding row_at
returns-then-count-eq0 c = let a = c.args in
    let e : a.count ≡ 0 = omega arith in
    rw e (sym (splice-none a.cells.now a.to))

pub returns-then-count-eq1 : goal.returns-then-count-eq1
returns-then-count-eq1 c = let a = c.args in
    let l = a.cells.now in
    let e : a.count ≡ 1 = omega arith in
    rw e
    (set-run l a.to _ [] (omega arith)
    ∙ ap (splice l a.to) ((λ i. c.fetch.ensures i ∷ []) ∙ row-run 0 a.octets.now a.bit))

pub bounds-cells-to-2 : goal.bounds-cells-to-2
bounds-cells-to-2 c = simp length-set (omega arith)

pub returns-then-count-eq2 : goal.returns-then-count-eq2
returns-then-count-eq2 c = let a = c.args in
    let l = a.cells.now in
    let e : a.count ≡ 2 = omega arith in
    rw e
    (set-run l a.to _ (_ ∷ []) (omega arith)
    ∙ ap (splice l a.to) ((λ i. c.fetch.ensures i ∷ c.fetch-2.ensures i ∷ []) ∙ row-run 1 a.octets.now a.bit))

pub bounds-cells-to-3 : goal.bounds-cells-to-3
bounds-cells-to-3 c = simp length-set (omega arith)

pub returns : goal.returns
returns c = let a = c.args in
    let l = a.cells.now in
    let e : a.count ≡ 3 = omega arith in
    rw e
    (set-run l a.to _ (_ ∷ _ ∷ []) (omega arith)
    ∙ ap (splice l a.to) ((λ i. c.fetch.ensures i ∷ c.fetch-2.ensures i ∷ c.fetch-3.ensures i ∷ []) ∙ row-run 2 a.octets.now a.bit))
