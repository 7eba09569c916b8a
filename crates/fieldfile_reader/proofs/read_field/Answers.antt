-- `read_field` reads the field at an offset into the lent cells, or gives the refusal and leaves them.
-- By what the check told, and 14 last.
use mathlib.Core.Path.{◌≡◌, ap, sym, ◌∙◌}
use Prim.Native.Nat.{ℕ}
use native.Mathlib.Omega.{arith}
use lib.ListN.{length}
use Rattle.wire_spec.specs.Result.{Result}
use Rattle.wire_spec.proofs.Window.{below_all}
use Rattle.fieldfile_spec.specs.File.{FieldContent, field_header_size, version_of}
use Rattle.fieldfile_reader.specs.Answers.{read_of, cells_after}
use Rattle.fieldfile_reader.proofs.ReadLaws.{into-refused, into-short, into-fits, head-there, RunTold, run-told}
use Rattle.std.proofs.lemmas.Result.{err_from_is_err_and}
use Rattle.fieldfile_reader.proofs.read_field.Goals as goal

pub returns-in_err-summary : goal.returns-in_err-summary
returns-in_err-summary c = let a = c.args in
    let e = into-refused a.file.now a.at.0 (length a.cells.now) _ (sym c.check.ensures ∙ c.in_err-summary.was) in
    let p = err_from_is_err_and c.from_residual.result c.from_residual.ensures.1 in
    record { value = rw (p.1, p.2) (ap read_of (sym e)); cells_after = ap (λ (r : Result (FieldContent × ℕ)). cells_after r a.cells.now) (sym e) }

pub returns-then-cells-summary : goal.returns-then-cells-summary
returns-then-cells-summary c = let a = c.args in
    let h = sym c.check.ensures ∙ c.in_ok-summary.was in
    let e = into-short a.file.now a.at.0 _ h (length a.cells.now) c.if-cells-summary.true in
    record { value = c.refuse.ensures ∙ ap read_of (sym e); cells_after = ap (λ (r : Result (FieldContent × ℕ)). cells_after r a.cells.now) (sym e) }

pub version_at-requires : goal.version_at-requires
version_at-requires c = head-there c.args.file.now c.args.at.0 _ (sym c.check.ensures ∙ c.in_ok-summary.was)

pub overflow_add-from : goal.overflow_add-from
overflow_add-from c = let header : c.header_size.result ≡ field_header_size (version_of c.args.file.now) = c.header_size.ensures ∙ ap field_header_size c.version_at.ensures in
    let found : RunTold c.args.file.now c.args.at.0 _ (sym c.check.ensures ∙ c.in_ok-summary.was) c.header_size.result = let a = c.args in
    let below = below_all a.file.now (λ j. (c.shared_slice_known-1.given j).fits) in
    run-told a.file.now a.at.0 _ (sym c.check.ensures ∙ c.in_ok-summary.was) below _ (header) in
    omega (arith, (found).inside)

pub slice_bounds-read_run-count : goal.slice_bounds-read_run-count
slice_bounds-read_run-count c = let header : c.header_size.result ≡ field_header_size (version_of c.args.file.now) = c.header_size.ensures ∙ ap field_header_size c.version_at.ensures in
    let found : RunTold c.args.file.now c.args.at.0 _ (sym c.check.ensures ∙ c.in_ok-summary.was) c.header_size.result = let a = c.args in
    let below = below_all a.file.now (λ j. (c.shared_slice_known-1.given j).fits) in
    run-told a.file.now a.at.0 _ (sym c.check.ensures ∙ c.in_ok-summary.was) below _ (header) in
    (found).inside

pub slice_bounds-read_run-start : goal.slice_bounds-read_run-start
slice_bounds-read_run-start c = let header : c.header_size.result ≡ field_header_size (version_of c.args.file.now) = c.header_size.ensures ∙ ap field_header_size c.version_at.ensures in
    let found : RunTold c.args.file.now c.args.at.0 _ (sym c.check.ensures ∙ c.in_ok-summary.was) c.header_size.result = let a = c.args in
    let below = below_all a.file.now (λ j. (c.shared_slice_known-1.given j).fits) in
    run-told a.file.now a.at.0 _ (sym c.check.ensures ∙ c.in_ok-summary.was) below _ (header) in
    (found).inside

pub read_run-requires : goal.read_run-requires
read_run-requires c = let header : c.header_size.result ≡ field_header_size (version_of c.args.file.now) = c.header_size.ensures ∙ ap field_header_size c.version_at.ensures in
    let found : RunTold c.args.file.now c.args.at.0 _ (sym c.check.ensures ∙ c.in_ok-summary.was) c.header_size.result = let a = c.args in
    let below = below_all a.file.now (λ j. (c.shared_slice_known-1.given j).fits) in
    run-told a.file.now a.at.0 _ (sym c.check.ensures ∙ c.in_ok-summary.was) below _ (header) in
    let t = found in record { accepted = t.accepts; octets_in_bounds = omega (arith, t.size, c.if-cells-summary.false) }

pub returns : goal.returns
returns c = let header : c.header_size.result ≡ field_header_size (version_of c.args.file.now) = c.header_size.ensures ∙ ap field_header_size c.version_at.ensures in
    let found : RunTold c.args.file.now c.args.at.0 _ (sym c.check.ensures ∙ c.in_ok-summary.was) c.header_size.result = let a = c.args in
    let below = below_all a.file.now (λ j. (c.shared_slice_known-1.given j).fits) in
    run-told a.file.now a.at.0 _ (sym c.check.ensures ∙ c.in_ok-summary.was) below _ (header) in
    let a = c.args in
    let h = sym c.check.ensures ∙ c.in_ok-summary.was in
    let e = into-fits a.file.now a.at.0 _ h (length a.cells.now) c.if-cells-summary.false in
    let cells = c.read_run.ensures ∙ (found).after _ in
    record { value = sym (ap read_of e ∙ h); cells_after = cells ∙ ap (λ (r : Result (FieldContent × ℕ)). cells_after r a.cells.now) (sym e) }
