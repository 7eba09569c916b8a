use mathlib.Core.Path.{◌≡◌, ap, sym, ◌∙◌, subst}
use mathlib.Core.List.{List}
use Prim.Native.Nat.{ℕ, ◌+◌, ◌*◌, ◌≤◌}
use native.Mathlib.Omega.{arith}
use lib.ListN.{length, length-drop}
use Rattle.wire_spec.specs.Result.{◌then◌}
use Rattle.wire_spec.specs.Anc.{anc_size}
use Rattle.wire_spec.specs.Cells.{head_cells, cell_count, rest, cell_record, records_from, read_list}
use Rattle.wire_spec.specs.Words.{all_clear}
use Rattle.wire_spec.proofs.ListLaws.{part-all}
use Rattle.wire_spec.proofs.SizeLaws.{size-cells}
use Rattle.anc_record.proofs.FrontLaws.{Lies, Taken, lies, rest-is, taken}
use Rattle.anc_writer.specs.Answers.{listed_of}
use Rattle.anc_writer.specs.Clear.{clear_before}
use Rattle.anc_writer.proofs.ListRun.{verdict, before-most, tally, tally-none, tally-next, tally-stops, tally-ends, ends-protected, ends-clear}
use Rattle.anc_writer.proofs.check.check_list.Goals as goal

pub loop-rest-init : goal.loop-rest-init
unfolding verdict
loop-rest-init c = (omega arith, omega arith, omega arith, tally-none c.args.layout (read_list c.args.cells.now))

pub returns-in_default : goal.returns-in_default
returns-in_default c = let l = c.loop-rest in
    c.refuse_at.ensures ∙ sym (tally-stops c.args.layout l.first l.count l.octets.0 l.rest.now c.loop-rest-test.true (sym c.check_record.ensures ∙ c.in_default.is))
    ∙ l.invariant.3

pub overflow_add-step : goal.overflow_add-step
overflow_add-step c = let front-taken : Taken c.loop-rest.rest.now c.in-Some.front.words c.in-Some.front.clear = taken _ _ _ (sym c.check_record.ensures ∙ c.in-Some.is) in
    let front-passes : let left = c.loop-rest.rest.now in Lies left × (c.in-Some.front.words.0 ≡ cell_count left) = let t = front-taken in (lies _ t.passed, t.count) in
    omega (arith, front-passes)

pub offset_bounds-rest-step : goal.offset_bounds-rest-step
offset_bounds-rest-step c = let front-taken : Taken c.loop-rest.rest.now c.in-Some.front.words c.in-Some.front.clear = taken _ _ _ (sym c.check_record.ensures ∙ c.in-Some.is) in
    let front-passes : let left = c.loop-rest.rest.now in Lies left × (c.in-Some.front.words.0 ≡ cell_count left) = let t = front-taken in (lies _ t.passed, t.count) in
    omega (arith, front-passes)

pub slice_bounds-rest-count : goal.slice_bounds-rest-count
slice_bounds-rest-count c = let front-taken : Taken c.loop-rest.rest.now c.in-Some.front.words c.in-Some.front.clear = taken _ _ _ (sym c.check_record.ensures ∙ c.in-Some.is) in
    let front-passes : let left = c.loop-rest.rest.now in Lies left × (c.in-Some.front.words.0 ≡ cell_count left) = let t = front-taken in (lies _ t.passed, t.count) in
    omega (arith, front-passes)

pub slice_bounds-rest-start : goal.slice_bounds-rest-start
slice_bounds-rest-start c = let front-taken : Taken c.loop-rest.rest.now c.in-Some.front.words c.in-Some.front.clear = taken _ _ _ (sym c.check_record.ensures ∙ c.in-Some.is) in
    let front-passes : let left = c.loop-rest.rest.now in Lies left × (c.in-Some.front.words.0 ≡ cell_count left) = let t = front-taken in (lies _ t.passed, t.count) in
    omega (arith, front-passes)

pub plus-octets-requires : goal.plus-octets-requires
plus-octets-requires c = let front-taken : Taken c.loop-rest.rest.now c.in-Some.front.words c.in-Some.front.clear = taken _ _ _ (sym c.check_record.ensures ∙ c.in-Some.is) in
    let front-passes : let left = c.loop-rest.rest.now in Lies left × (c.in-Some.front.words.0 ≡ cell_count left) = let t = front-taken in (lies _ t.passed, t.count) in
    let size_is : let left = c.loop-rest.rest.now in (c.packet_size-size.result.0 ≡ anc_size c.args.layout (cell_count left)) × (2 * c.packet_size-size.result.0 ≤ 3 * (head_cells + cell_count left)) = let e = c.packet_size-size.ensures ∙ ap (anc_size c.args.layout) (front-passes).1 in
    (e, rw e (size-cells c.args.layout _)) in
    omega (arith, front-passes, size_is)

pub clear_before-first-requires : goal.clear_before-first-requires
clear_before-first-requires c = let front-taken : Taken c.loop-rest.rest.now c.in-Some.front.words c.in-Some.front.clear = taken _ _ _ (sym c.check_record.ensures ∙ c.in-Some.is) in
    let front-passes : let left = c.loop-rest.rest.now in Lies left × (c.in-Some.front.words.0 ≡ cell_count left) = let t = front-taken in (lies _ t.passed, t.count) in
    omega (arith, (front-passes).0)

pub loop-rest-smaller : goal.loop-rest-smaller
loop-rest-smaller c = let r = c.loop-rest.rest.now in
    let k = head_cells + c.in-Some.front.words.0 in
    rw (part-all k r, length-drop k r) (omega arith)

pub loop-rest-preserved : goal.loop-rest-preserved
loop-rest-preserved c = let front-taken : Taken c.loop-rest.rest.now c.in-Some.front.words c.in-Some.front.clear = taken _ _ _ (sym c.check_record.ensures ∙ c.in-Some.is) in
    let front-passes : let left = c.loop-rest.rest.now in Lies left × (c.in-Some.front.words.0 ≡ cell_count left) = let t = front-taken in (lies _ t.passed, t.count) in
    let size_is : let left = c.loop-rest.rest.now in (c.packet_size-size.result.0 ≡ anc_size c.args.layout (cell_count left)) × (2 * c.packet_size-size.result.0 ≤ 3 * (head_cells + cell_count left)) = let e = c.packet_size-size.ensures ∙ ap (anc_size c.args.layout) (front-passes).1 in
    (e, rw e (size-cells c.args.layout _)) in
    let l = c.loop-rest in
    let r = l.rest.now in
    let cells = c.args.cells.now in
    let t = front-taken in
    let h = front-passes in
    let z = size_is in
    let d = length-drop (head_cells + cell_count r) r in
    let bump = c.clear_before-first.ensures ∙ ap (clear_before l.first l.count) t.told in
    subst (λ (x : List ℕ). (((l.count + 1) + length x ≤ length cells) × (2 * c.plus-octets.result.0 + 3 * length x ≤ 3 * length cells) × (c.clear_before-first.result ≤ (l.count + 1)) × (tally c.args.layout (l.count + 1) c.plus-octets.result.0 (records_from (length x) (l.count + 1) x then verdict c.clear_before-first.result (l.count + 1)) ≡ listed_of c.args.layout (read_list cells))))
    (sym (rest-is r c.in-Some.front.words.0 h.1)) (
      omega arith,
      omega (arith, z),
      rw bump (before-most l.first l.count (all_clear (cell_record r).words) l.invariant.2),
      rw (c.plus-octets.ensures, z.0, bump) (sym (tally-next c.args.layout l.first l.count l.octets.0 r l.invariant.2 c.loop-rest-test.true t.passed) ∙ l.invariant.3),
    )

pub returns-then-first-count : goal.returns-then-first-count
returns-then-first-count c = let l = c.loop-rest in
    let L = c.args.layout in
    c.refuse_at-then-first-count.ensures ∙ ends-protected L l.first l.count l.octets.0 c.if-first-count.true
    ∙ sym (tally-ends L l.first l.count l.octets.0 l.rest.now c.loop-rest-test.false) ∙ l.invariant.3

pub returns : goal.returns
returns c = let l = c.loop-rest in
    let L = c.args.layout in
    ends-clear L l.first l.count l.octets.0 l.invariant.2 c.if-first-count.false
    ∙ sym (tally-ends L l.first l.count l.octets.0 l.rest.now c.loop-rest-test.false) ∙ l.invariant.3
