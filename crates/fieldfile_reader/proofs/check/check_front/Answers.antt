-- `check_front` tells what the field at the front of the octets says, and the offset after it, or gives the refusal.
-- Stage by stage: what each stage told is carried to the next.
use Rattle.wire_spec.specs.Result.{Ok}
use mathlib.Core.Path.{refl, ◌≡◌, ap, ap₂, sym, subst, ◌∙◌}
use mathlib.Core.Bool.{Bool}
use mathlib.Core.List.{List}
use Prim.Native.Nat.{ℕ, ◌+◌, ◌<◌, ◌≤◌}
use native.Mathlib.Omega.{arith}
use lib.ListN.{length, drop, get_or}
use Rattle.wire_spec.specs.Layout.{rfc8331}
use Rattle.wire_spec.specs.Anc.{read_run}
use Rattle.wire_spec.proofs.ResultLaws.{Passed}
use Rattle.wire_spec.proofs.ListLaws.{part-all}
use Rattle.wire_spec.proofs.Window.{below_all}
use Rattle.anc_reader.specs.Answers.{run_of}
use Rattle.fieldfile_spec.specs.File.{field_header_size, count_field, field_header_checks, within_limits}
use Rattle.wire_offsets.proofs.StageLaws.{stage-passed}
use Rattle.fieldfile_reader.proofs.HeadFields.{f-at}
use Rattle.fieldfile_spec.proofs.FrontLaws.{header-least, header-there}
use Rattle.fieldfile_reader.proofs.ReadLaws.{refused-header, refused-run, run_fits, over-limits, found-field}
use Rattle.std.proofs.lemmas.Result.{err_from_is_err_and}
use Rattle.fieldfile_reader.proofs.check.check_front.Goals as goal

pub returns-in_err-header : goal.returns-in_err-header
returns-in_err-header c = let a = c.args in
    let p = err_from_is_err_and c.from_residual.result c.from_residual.ensures.1 in
    rw (p.1, p.2, refused-header a.version a.octets.now _ (sym c.check_header.ensures ∙ c.in_err-header.was)) refl

pub count_at-count-requires : goal.count_at-count-requires
count_at-count-requires c = let passed : let a = c.args in Passed (field_header_checks a.version a.octets.now) × (field_header_size a.version ≡ c.in_ok-header.header.0) = stage-passed (field_header_checks c.args.version c.args.octets.now) (field_header_size c.args.version) _ (sym c.check_header.ensures ∙ c.in_ok-header.was) in
    let there : field_header_size c.args.version ≤ length c.args.octets.now = header-there c.args.version c.args.octets.now (passed).0 in
    there

pub slice_bounds-check_run-count : goal.slice_bounds-check_run-count
slice_bounds-check_run-count c = let passed : let a = c.args in Passed (field_header_checks a.version a.octets.now) × (field_header_size a.version ≡ c.in_ok-header.header.0) = stage-passed (field_header_checks c.args.version c.args.octets.now) (field_header_size c.args.version) _ (sym c.check_header.ensures ∙ c.in_ok-header.was) in
    let there : field_header_size c.args.version ≤ length c.args.octets.now = header-there c.args.version c.args.octets.now (passed).0 in
    let starts : c.in_ok-header.header.0 ≤ length c.args.octets.now = subst (λ (k : ℕ). k ≤ length c.args.octets.now) (passed).1 (there) in
    starts

pub slice_bounds-check_run-start : goal.slice_bounds-check_run-start
slice_bounds-check_run-start c = let passed : let a = c.args in Passed (field_header_checks a.version a.octets.now) × (field_header_size a.version ≡ c.in_ok-header.header.0) = stage-passed (field_header_checks c.args.version c.args.octets.now) (field_header_size c.args.version) _ (sym c.check_header.ensures ∙ c.in_ok-header.was) in
    let there : field_header_size c.args.version ≤ length c.args.octets.now = header-there c.args.version c.args.octets.now (passed).0 in
    let starts : c.in_ok-header.header.0 ≤ length c.args.octets.now = subst (λ (k : ℕ). k ≤ length c.args.octets.now) (passed).1 (there) in
    starts

pub returns-in_err-run : goal.returns-in_err-run
returns-in_err-run c = let passed : let a = c.args in Passed (field_header_checks a.version a.octets.now) × (field_header_size a.version ≡ c.in_ok-header.header.0) = stage-passed (field_header_checks c.args.version c.args.octets.now) (field_header_size c.args.version) _ (sym c.check_header.ensures ∙ c.in_ok-header.was) in
    let ran : let a = c.args in run_of rfc8331 (read_run rfc8331 0 (count_field a.version a.octets.now) (drop (field_header_size a.version) a.octets.now)) ≡ c.check_run.result = let s = c.args.octets.now in
    ap₂ (λ (x : ℕ) (y : List ℕ). run_of rfc8331 (read_run rfc8331 0 x y)) (sym c.count_at-count.ensures) (ap (λ (k : ℕ). drop k s) (passed).1 ∙ sym (part-all _ s)) ∙ sym c.check_run.ensures in
    let a = c.args in
    let p = err_from_is_err_and c.from_residual-in_err-run.result c.from_residual-in_err-run.ensures.1 in
    rw (p.1, p.2, refused-run a.version a.octets.now (passed).0 _ (ran ∙ c.in_err-run.was)) refl

pub returns-then-not-within_limits : goal.returns-then-not-within_limits
returns-then-not-within_limits c = let passed : let a = c.args in Passed (field_header_checks a.version a.octets.now) × (field_header_size a.version ≡ c.in_ok-header.header.0) = stage-passed (field_header_checks c.args.version c.args.octets.now) (field_header_size c.args.version) _ (sym c.check_header.ensures ∙ c.in_ok-header.was) in
    let ran : let a = c.args in run_of rfc8331 (read_run rfc8331 0 (count_field a.version a.octets.now) (drop (field_header_size a.version) a.octets.now)) ≡ c.check_run.result = let s = c.args.octets.now in
    ap₂ (λ (x : ℕ) (y : List ℕ). run_of rfc8331 (read_run rfc8331 0 x y)) (sym c.count_at-count.ensures) (ap (λ (k : ℕ). drop k s) (passed).1 ∙ sym (part-all _ s)) ∙ sym c.check_run.ensures in
    let tested : (t : Bool) → c.within_limits.result ≡ t → within_limits (count_field c.args.version c.args.octets.now) c.in_ok-run.run'.cells ≡ t = λ t e. ap (λ (n : ℕ). within_limits n c.in_ok-run.run'.cells) (sym c.count_at-count.ensures) ∙ sym c.within_limits.ensures ∙ e in
    let s = c.args.octets.now in
    c.refuse.ensures ∙ rw (over-limits c.args.version s (passed).0 (below_all s (λ j. (c.shared_slice_known-1.given j).fits)) _ _ (ran ∙ c.in_ok-run.was) (tested _ (c.if-not-within_limits.true)))

pub quad_at-requires : goal.quad_at-requires
quad_at-requires c = let passed : let a = c.args in Passed (field_header_checks a.version a.octets.now) × (field_header_size a.version ≡ c.in_ok-header.header.0) = stage-passed (field_header_checks c.args.version c.args.octets.now) (field_header_size c.args.version) _ (sym c.check_header.ensures ∙ c.in_ok-header.was) in
    let there : field_header_size c.args.version ≤ length c.args.octets.now = header-there c.args.version c.args.octets.now (passed).0 in
    let f-there : 4 < length c.args.octets.now = omega (arith, there, header-least c.args.version) in
    omega (arith, f-there)

pub bounds-octets-4 : goal.bounds-octets-4
bounds-octets-4 c = let passed : let a = c.args in Passed (field_header_checks a.version a.octets.now) × (field_header_size a.version ≡ c.in_ok-header.header.0) = stage-passed (field_header_checks c.args.version c.args.octets.now) (field_header_size c.args.version) _ (sym c.check_header.ensures ∙ c.in_ok-header.was) in
    let there : field_header_size c.args.version ≤ length c.args.octets.now = header-there c.args.version c.args.octets.now (passed).0 in
    let f-there : 4 < length c.args.octets.now = omega (arith, there, header-least c.args.version) in
    f-there

pub overflow_add-result : goal.overflow_add-result
overflow_add-result c = let passed : let a = c.args in Passed (field_header_checks a.version a.octets.now) × (field_header_size a.version ≡ c.in_ok-header.header.0) = stage-passed (field_header_checks c.args.version c.args.octets.now) (field_header_size c.args.version) _ (sym c.check_header.ensures ∙ c.in_ok-header.was) in
    let ran : let a = c.args in run_of rfc8331 (read_run rfc8331 0 (count_field a.version a.octets.now) (drop (field_header_size a.version) a.octets.now)) ≡ c.check_run.result = let s = c.args.octets.now in
    ap₂ (λ (x : ℕ) (y : List ℕ). run_of rfc8331 (read_run rfc8331 0 x y)) (sym c.count_at-count.ensures) (ap (λ (k : ℕ). drop k s) (passed).1 ∙ sym (part-all _ s)) ∙ sym c.check_run.ensures in
    let fits : field_header_size c.args.version + c.in_ok-run.run'.octets.0 ≤ length c.args.octets.now = let s = c.args.octets.now in
    run_fits c.args.version s (passed).0 (below_all s (λ j. (c.shared_slice_known-1.given j).fits)) _ _ (ran ∙ c.in_ok-run.was) in
    omega (arith, fits, (passed).1)

pub overflow_add-result-2 : goal.overflow_add-result-2
overflow_add-result-2 c = let passed : let a = c.args in Passed (field_header_checks a.version a.octets.now) × (field_header_size a.version ≡ c.in_ok-header.header.0) = stage-passed (field_header_checks c.args.version c.args.octets.now) (field_header_size c.args.version) _ (sym c.check_header.ensures ∙ c.in_ok-header.was) in
    let ran : let a = c.args in run_of rfc8331 (read_run rfc8331 0 (count_field a.version a.octets.now) (drop (field_header_size a.version) a.octets.now)) ≡ c.check_run.result = let s = c.args.octets.now in
    ap₂ (λ (x : ℕ) (y : List ℕ). run_of rfc8331 (read_run rfc8331 0 x y)) (sym c.count_at-count.ensures) (ap (λ (k : ℕ). drop k s) (passed).1 ∙ sym (part-all _ s)) ∙ sym c.check_run.ensures in
    let fits : field_header_size c.args.version + c.in_ok-run.run'.octets.0 ≤ length c.args.octets.now = let s = c.args.octets.now in
    run_fits c.args.version s (passed).0 (below_all s (λ j. (c.shared_slice_known-1.given j).fits)) _ _ (ran ∙ c.in_ok-run.was) in
    omega (arith, fits, (passed).1, c.requires)

pub returns : goal.returns
returns c = let passed : let a = c.args in Passed (field_header_checks a.version a.octets.now) × (field_header_size a.version ≡ c.in_ok-header.header.0) = stage-passed (field_header_checks c.args.version c.args.octets.now) (field_header_size c.args.version) _ (sym c.check_header.ensures ∙ c.in_ok-header.was) in
    let there : field_header_size c.args.version ≤ length c.args.octets.now = header-there c.args.version c.args.octets.now (passed).0 in
    let f-there : 4 < length c.args.octets.now = omega (arith, there, header-least c.args.version) in
    let ran : let a = c.args in run_of rfc8331 (read_run rfc8331 0 (count_field a.version a.octets.now) (drop (field_header_size a.version) a.octets.now)) ≡ c.check_run.result = let s = c.args.octets.now in
    ap₂ (λ (x : ℕ) (y : List ℕ). run_of rfc8331 (read_run rfc8331 0 x y)) (sym c.count_at-count.ensures) (ap (λ (k : ℕ). drop k s) (passed).1 ∙ sym (part-all _ s)) ∙ sym c.check_run.ensures in
    let tested : (t : Bool) → c.within_limits.result ≡ t → within_limits (count_field c.args.version c.args.octets.now) c.in_ok-run.run'.cells ≡ t = λ t e. ap (λ (n : ℕ). within_limits n c.in_ok-run.run'.cells) (sym c.count_at-count.ensures) ∙ sym c.within_limits.ensures ∙ e in
    let a = c.args in
    let s = a.octets.now in
    let o : (j : ℕ) → get_or s j 0 < 256 = λ j. (c.shared_slice_known-1.given j).fits in
    let p = passed in
    let f = f-there in
    sym
    (found-field a.version s p.0 (below_all s o) _ _ (ran ∙ c.in_ok-run.was) (tested _ (c.if-not-within_limits.false)) a.at.0
    ∙ λ i. Ok (record { timestamp = record { 0 = sym c.quad_at.ensures i }; f = sym (f-at s o f) i; records = sym c.count_at-count.ensures i; cells = c.in_ok-run.run'.cells; next = record { 0 = a.at.0 + (p.1 i + c.in_ok-run.run'.octets.0) } }))
