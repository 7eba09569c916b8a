-- `record_cells` tells the cells of the record at the front, if it came in the packet.
-- By what `check_record` answers, and by the ninth cell.
use Rattle.std.specs.Prelude.{Some}
use borrow.Author.Tests.{eq-eqb, ne_eqb}
use mathlib.Core.Path.{◌≡◌, ap, sym, ◌∙◌}
use mathlib.Core.Bool.{Bool, cond}
use Prim.Native.Nat.{◌+◌}
use native.Mathlib.Omega.{arith}
use Rattle.wire_spec.specs.Cells.{head_cells, cell_index}
use Rattle.anc_record.specs.Answers.{front_of}
use Rattle.anc_record.proofs.FrontLaws.{taken, lies}
use Rattle.depacketizer_forward.specs.Forward.{front_cells}
use Rattle.depacketizer_forward.proofs.record_cells.Goals as goal

pub bounds-cells-8 : goal.bounds-cells-8
bounds-cells-8 c = let told : front_of c.args.cells.now ≡ Some c.in-Some.front = sym c.check_record.ensures ∙ c.in-Some.is in
    let l = c.args.cells.now in omega (arith, (lies l (taken l _ _ (told)).passed).inside)

pub returns-then-cells-index : goal.returns-then-cells-index
returns-then-cells-index c = let told : front_of c.args.cells.now ≡ Some c.in-Some.front = sym c.check_record.ensures ∙ c.in-Some.is in
    let a = c.args in
    sym (ap (front_cells a.index a.cells.now) (told) ∙ ap (λ (b : Bool). cond b (head_cells + c.in-Some.front.words.0) 0) (ne_eqb (cell_index a.cells.now) a.index c.if-cells-index.true))

pub returns-in_default : goal.returns-in_default
returns-in_default c = let a = c.args in
    sym (ap (front_cells a.index a.cells.now) (sym c.check_record.ensures ∙ c.in_default.is))

pub returns : goal.returns
returns c = let told : front_of c.args.cells.now ≡ Some c.in-Some.front = sym c.check_record.ensures ∙ c.in-Some.is in
    let a = c.args in
    sym (ap (front_cells a.index a.cells.now) (told) ∙ ap (λ (b : Bool). cond b (head_cells + c.in-Some.front.words.0) 0) (eq-eqb (cell_index a.cells.now) a.index c.if-cells-index.false))
