use mathlib.Core.Bool.{Bool, true, ◌&&◌, and_assoc, and-true}
use mathlib.Core.Path.{◌≡◌, refl, ap, sym, ◌∙◌, subst}
use mathlib.Core.List.{List, [], ◌∷◌}
use Prim.Native.Nat.{ℕ, ◌+◌, ◌≤◌}
use native.Mathlib.Omega.{arith}
use lib.Dec.{eqb}
use lib.ListN.{get_or, length, length-drop}
use Rattle.wire_spec.specs.Result.{IsAccepted}
use Rattle.wire_spec.specs.Anc.{Record}
use Rattle.wire_spec.specs.Cells.{head_cells, cell_count, cell_record, records_from, clear_from, rest, read_list}
use Rattle.wire_spec.specs.Writing.{no_stream}
use Rattle.wire_spec.proofs.ListLaws.{part-all}
use Rattle.anc_record.proofs.FrontLaws.{rest-is}
use Rattle.anc_writer.specs.Answers.{list_records}
use Rattle.anc_writer.proofs.ListFront.{Front, front}
use Rattle.anc_writer.proofs.check.no_stream.Goals as goal

pub loop-rest-init : goal.loop-rest-init
loop-rest-init c = (c.requires, refl)

pub bounds-rest-3 : goal.bounds-rest-3
bounds-rest-3 c = let front-here : Front c.loop-rest.rest.now = front c.loop-rest.rest.now c.loop-rest.invariant.0 c.loop-rest-test.true in
    omega (arith, (front-here).lies.inside)

pub bounds-rest-4 : goal.bounds-rest-4
bounds-rest-4 c = let front-here : Front c.loop-rest.rest.now = front c.loop-rest.rest.now c.loop-rest.invariant.0 c.loop-rest-test.true in
    omega (arith, (front-here).lies.inside)

pub bounds-rest-7 : goal.bounds-rest-7
bounds-rest-7 c = let front-here : Front c.loop-rest.rest.now = front c.loop-rest.rest.now c.loop-rest.invariant.0 c.loop-rest-test.true in
    omega (arith, (front-here).lies.inside)

pub overflow_cast-step : goal.overflow_cast-step
overflow_cast-step c = let front-here : Front c.loop-rest.rest.now = front c.loop-rest.rest.now c.loop-rest.invariant.0 c.loop-rest-test.true in
    omega (arith, (front-here).lies)

pub overflow_add-step : goal.overflow_add-step
overflow_add-step c = let front-here : Front c.loop-rest.rest.now = front c.loop-rest.rest.now c.loop-rest.invariant.0 c.loop-rest-test.true in
    omega (arith, (front-here).lies)

pub offset_bounds-rest-step : goal.offset_bounds-rest-step
offset_bounds-rest-step c = let front-here : Front c.loop-rest.rest.now = front c.loop-rest.rest.now c.loop-rest.invariant.0 c.loop-rest-test.true in
    omega (arith, (front-here).lies)

pub slice_bounds-rest-count : goal.slice_bounds-rest-count
slice_bounds-rest-count c = let front-here : Front c.loop-rest.rest.now = front c.loop-rest.rest.now c.loop-rest.invariant.0 c.loop-rest-test.true in
    omega (arith, (front-here).lies)

pub slice_bounds-rest-start : goal.slice_bounds-rest-start
slice_bounds-rest-start c = let front-here : Front c.loop-rest.rest.now = front c.loop-rest.rest.now c.loop-rest.invariant.0 c.loop-rest-test.true in
    omega (arith, (front-here).lies)

pub loop-rest-smaller : goal.loop-rest-smaller
loop-rest-smaller c = let l = c.loop-rest.rest.now in
    let k = head_cells + cell_count l in
    rw (part-all k l, length-drop k l) (omega (arith, c.loop-rest-test.true))

pub loop-rest-preserved : goal.loop-rest-preserved
unfolding cell_record
loop-rest-preserved c = let front-here : Front c.loop-rest.rest.now = front c.loop-rest.rest.now c.loop-rest.invariant.0 c.loop-rest-test.true in
    let l = c.loop-rest.rest.now in
    let none = c.loop-rest.none in
    let here = eqb (get_or l 3 0) 0 && eqb (get_or l 4 0) 0 in
    let more = no_stream (list_records (read_list (rest l))) in
    let h = front-here in
    subst (λ (x : List ℕ). (IsAccepted (read_list x) × ((none && here) && no_stream (list_records (read_list x)) ≡ no_stream (list_records (read_list c.args.cells.now))))) (sym (rest-is l (cell_count l) refl)) (
      h.behind,
      and_assoc none here more ∙ ap (λ (rs : List Record). none && no_stream rs) (sym h.records) ∙ c.loop-rest.invariant.1,
    )

-- no cells are no record
ended : (none : Bool) (l : List ℕ) → length l ≤ 0 → none ≡ none && no_stream (list_records (read_list l))
unfolding records_from clear_from
ended none [] h = sym (and-true none)
ended none (x ∷ l) h = absurd (omega arith)

pub returns : goal.returns
returns c = ended c.loop-rest.none c.loop-rest.rest.now c.loop-rest-test.false ∙ c.loop-rest.invariant.1
