-- `Header::at` finds the header of the record that starts at a cell, or refuses.
-- By what `check_record` answers of the cells from there on; behind the last cell there is no record.
use mathlib.Core.Path.{◌≡◌, ap, sym, ◌∙◌, subst}
use mathlib.Core.List.{List, []}
use Prim.Native.Nat.{ℕ, ◌-◌}
use native.Mathlib.Omega.{arith}
use lib.ListN.{length, take, drop, drop_of_length-le}
use Rattle.wire_spec.specs.Cells.{cell_record, cell_checks}
use Rattle.wire_spec.specs.Result.{Ok}
use Rattle.wire_spec.proofs.CellLaws.{front-passed}
use Rattle.wire_spec.proofs.ListLaws.{part-all}
use Rattle.wire_spec.proofs.ResultLaws.{Passed}
use Rattle.anc_record.specs.Answers.{found_of}
use Rattle.anc_record.specs.Header.{header_of, header_at}
use Rattle.anc_record.proofs.FrontLaws.{lies, taken, malformed}
use Rattle.anc_record.proofs.FoundLaws.{passed-found}
use Rattle.anc_record.proofs.header.Header.at.Goals as goal

pub returns-then-cells-at : goal.returns-then-cells-at
unfolding header_at cell_checks
returns-then-cells-at c = let a = c.args in
    let none : drop a.at a.cells.now ≡ [] = drop_of_length-le a.cells.now {i = a.at} (omega (arith, c.if-cells-at.true)) in
    rw (c.refuse.ensures, none)

pub header_of-requires : goal.header_of-requires
header_of-requires c = let passes : let a = c.args in Passed (cell_checks (take (length a.cells.now - a.at) (drop a.at a.cells.now))) = (taken _ _ _ (sym c.check_record.ensures ∙ c.in-Some.is)).passed in
    let p = passes in
    ((front-passed _ p).0, (lies _ p).inside)

pub returns-in-None : goal.returns-in-None
unfolding header_at
returns-in-None c = let a = c.args in
    let e = part-all a.at a.cells.now in
    let m = sym c.check_record.ensures ∙ c.in-None.is in
    c.refuse-in-None.ensures ∙ sym (ap found_of (rw e at (malformed 0 _ (Ok (header_of (cell_record (drop a.at a.cells.now)))) m)))

pub returns-in-Some : goal.returns-in-Some
returns-in-Some c = let passes : let a = c.args in Passed (cell_checks (take (length a.cells.now - a.at) (drop a.at a.cells.now))) = (taken _ _ _ (sym c.check_record.ensures ∙ c.in-Some.is)).passed in
    let a = c.args in
    let e = part-all a.at a.cells.now in
    ap Ok (c.header_of.ensures ∙ ap (λ (l : List ℕ). header_of (cell_record l)) e)
    ∙ sym (passed-found a.cells.now a.at (subst (λ (l : List ℕ). Passed (cell_checks l)) e (passes)))
