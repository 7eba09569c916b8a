use mathlib.Core.Path.{◌≡◌, refl, ap, sym, ◌∙◌, subst}
use mathlib.Core.Bool.{true}
use mathlib.Core.List.{List}
use Prim.Native.Nat.{ℕ, ◌+◌, ◌*◌, ◌≤◌}
use native.Mathlib.Omega.{arith}
use lib.ListN.{length, length-drop}
use Rattle.wire_spec.specs.Result.{◌then◌}
use Rattle.wire_spec.specs.Anc.{anc_size}
use Rattle.wire_spec.specs.Cells.{head_cells, cell_count, rest, records_from, read_list}
use Rattle.wire_spec.proofs.ListLaws.{part-all}
use Rattle.wire_spec.proofs.SizeLaws.{size-cells}
use Rattle.anc_record.specs.Answers.{front_of, is_clear_front}
use Rattle.anc_record.proofs.FrontLaws.{Lies, lies, rest-is, clear-taken}
use Rattle.anc_writer.specs.Answers.{listed_of, measured_of}
use Rattle.anc_writer.proofs.ListRun.{verdict, tally, tally-none, tally-ends, ends-clear, tally-clear, tally-unclear}
use Rattle.anc_writer.proofs.check.measure_list.Goals as goal

pub loop-rest-init : goal.loop-rest-init
unfolding verdict
loop-rest-init c = (omega arith, omega arith, tally-none c.args.layout (read_list c.args.cells.now))

pub returns-then-not-is_clear_record : goal.returns-then-not-is_clear_record
returns-then-not-is_clear_record c = let l = c.loop-rest in
    sym (tally-unclear c.args.layout l.count l.octets.0 l.rest.now c.loop-rest-test.true (sym c.is_clear_record.ensures ∙ c.if-not-is_clear_record.true))
    ∙ ap measured_of l.invariant.2

pub bounds-rest-7 : goal.bounds-rest-7
bounds-rest-7 c = let clear : is_clear_front (front_of c.loop-rest.rest.now) ≡ true = sym c.is_clear_record.ensures ∙ c.if-not-is_clear_record.false in
    let front-lies : Lies c.loop-rest.rest.now = let l = c.loop-rest.rest.now in lies l (clear-taken l (clear)).0 in
    omega (arith, front-lies)

pub overflow_cast-n : goal.overflow_cast-n
overflow_cast-n c = let clear : is_clear_front (front_of c.loop-rest.rest.now) ≡ true = sym c.is_clear_record.ensures ∙ c.if-not-is_clear_record.false in
    let front-lies : Lies c.loop-rest.rest.now = let l = c.loop-rest.rest.now in lies l (clear-taken l (clear)).0 in
    omega (arith, front-lies)

pub overflow_cast-step : goal.overflow_cast-step
overflow_cast-step c = let clear : is_clear_front (front_of c.loop-rest.rest.now) ≡ true = sym c.is_clear_record.ensures ∙ c.if-not-is_clear_record.false in
    let front-lies : Lies c.loop-rest.rest.now = let l = c.loop-rest.rest.now in lies l (clear-taken l (clear)).0 in
    omega (arith, front-lies)

pub overflow_add-step : goal.overflow_add-step
overflow_add-step c = let clear : is_clear_front (front_of c.loop-rest.rest.now) ≡ true = sym c.is_clear_record.ensures ∙ c.if-not-is_clear_record.false in
    let front-lies : Lies c.loop-rest.rest.now = let l = c.loop-rest.rest.now in lies l (clear-taken l (clear)).0 in
    omega (arith, front-lies)

pub offset_bounds-rest-step : goal.offset_bounds-rest-step
offset_bounds-rest-step c = let clear : is_clear_front (front_of c.loop-rest.rest.now) ≡ true = sym c.is_clear_record.ensures ∙ c.if-not-is_clear_record.false in
    let front-lies : Lies c.loop-rest.rest.now = let l = c.loop-rest.rest.now in lies l (clear-taken l (clear)).0 in
    omega (arith, front-lies)

pub slice_bounds-rest-count : goal.slice_bounds-rest-count
slice_bounds-rest-count c = let clear : is_clear_front (front_of c.loop-rest.rest.now) ≡ true = sym c.is_clear_record.ensures ∙ c.if-not-is_clear_record.false in
    let front-lies : Lies c.loop-rest.rest.now = let l = c.loop-rest.rest.now in lies l (clear-taken l (clear)).0 in
    omega (arith, front-lies)

pub slice_bounds-rest-start : goal.slice_bounds-rest-start
slice_bounds-rest-start c = let clear : is_clear_front (front_of c.loop-rest.rest.now) ≡ true = sym c.is_clear_record.ensures ∙ c.if-not-is_clear_record.false in
    let front-lies : Lies c.loop-rest.rest.now = let l = c.loop-rest.rest.now in lies l (clear-taken l (clear)).0 in
    omega (arith, front-lies)

pub plus-octets-requires : goal.plus-octets-requires
plus-octets-requires c = let clear : is_clear_front (front_of c.loop-rest.rest.now) ≡ true = sym c.is_clear_record.ensures ∙ c.if-not-is_clear_record.false in
    let front-lies : Lies c.loop-rest.rest.now = let l = c.loop-rest.rest.now in lies l (clear-taken l (clear)).0 in
    let size_is : let left = c.loop-rest.rest.now in (c.packet_size-size.result.0 ≡ anc_size c.args.layout (cell_count left)) × (2 * c.packet_size-size.result.0 ≤ 3 * (head_cells + cell_count left)) = (c.packet_size-size.ensures, rw c.packet_size-size.ensures (size-cells c.args.layout _)) in
    omega (arith, front-lies, size_is)

pub overflow_add-count : goal.overflow_add-count
overflow_add-count c = let clear : is_clear_front (front_of c.loop-rest.rest.now) ≡ true = sym c.is_clear_record.ensures ∙ c.if-not-is_clear_record.false in
    let front-lies : Lies c.loop-rest.rest.now = let l = c.loop-rest.rest.now in lies l (clear-taken l (clear)).0 in
    omega (arith, front-lies)

pub loop-rest-smaller : goal.loop-rest-smaller
loop-rest-smaller c = let r = c.loop-rest.rest.now in
    let k = head_cells + cell_count r in
    rw (part-all k r, length-drop k r) (omega arith)

pub loop-rest-preserved : goal.loop-rest-preserved
loop-rest-preserved c = let clear : is_clear_front (front_of c.loop-rest.rest.now) ≡ true = sym c.is_clear_record.ensures ∙ c.if-not-is_clear_record.false in
    let front-lies : Lies c.loop-rest.rest.now = let l = c.loop-rest.rest.now in lies l (clear-taken l (clear)).0 in
    let size_is : let left = c.loop-rest.rest.now in (c.packet_size-size.result.0 ≡ anc_size c.args.layout (cell_count left)) × (2 * c.packet_size-size.result.0 ≤ 3 * (head_cells + cell_count left)) = (c.packet_size-size.ensures, rw c.packet_size-size.ensures (size-cells c.args.layout _)) in
    let l = c.loop-rest in
    let r = l.rest.now in
    let a = c.args in
    let f = front-lies in
    let z = size_is in
    let d = length-drop (head_cells + cell_count r) r in
    subst (λ (x : List ℕ). (((l.count + 1) + length x ≤ length a.cells.now) × (2 * c.plus-octets.result.0 + 3 * length x ≤ 3 * length a.cells.now) × (tally a.layout (l.count + 1) c.plus-octets.result.0 (records_from (length x) (l.count + 1) x then verdict (l.count + 1) (l.count + 1)) ≡ listed_of a.layout (read_list a.cells.now))))
    (sym (rest-is r (cell_count r) refl)) (
      omega arith,
      omega (arith, z),
      rw (c.plus-octets.ensures, z.0) (sym (tally-clear a.layout l.count l.octets.0 r c.loop-rest-test.true (clear)) ∙ l.invariant.2),
    )

pub returns : goal.returns
returns c = let l = c.loop-rest in
    let L = c.args.layout in
    ap measured_of (ends-clear L l.count l.count l.octets.0 (omega arith) (omega arith)
    ∙ sym (tally-ends L l.count l.count l.octets.0 l.rest.now c.loop-rest-test.false) ∙ l.invariant.2)
