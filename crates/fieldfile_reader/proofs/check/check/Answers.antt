-- `check` tells what the field at an offset says, and the offset after it, or gives the refusal.
-- Stage by stage; the octets from the offset on are what is left of the file.
use mathlib.Core.Path.{refl, ◌≡◌, ap, sym, subst, ◌∙◌}
use mathlib.Core.List.{List}
use Prim.Native.Nat.{ℕ, ◌+◌, ◌≤◌}
use lib.ListN.{length}
use Rattle.wire_spec.specs.Result.{◌then◌, Ok}
use Rattle.wire_spec.proofs.ListLaws.{part-all}
use Rattle.wire_spec.proofs.ResultLaws.{Passed}
use Rattle.fieldfile_spec.specs.declared.format.Version.{Version}
use Rattle.fieldfile_spec.specs.File.{file_head_size, field_size, read_front, file_checks, offset_checks, field_at, version_of}
use Rattle.wire_offsets.proofs.StageLaws.{stage-passed}
use Rattle.fieldfile_reader.specs.Answers.{read_of}
use Rattle.fieldfile_reader.proofs.ReadLaws.{file-there, refused-file, refused-offset, offset-there, passed-both}
use Rattle.std.proofs.lemmas.Result.{err_from_is_err_and}
use Rattle.fieldfile_reader.proofs.check.check.Goals as goal

pub returns-in_err-check_file : goal.returns-in_err-check_file
returns-in_err-check_file c = let a = c.args in
    let p = err_from_is_err_and c.from_residual.result c.from_residual.ensures.1 in
    rw (p.1, p.2, refused-file a.file.now a.at.0 _ (sym c.check_file.ensures ∙ c.in_err-check_file.was)) refl

pub returns-in_err-from : goal.returns-in_err-from
returns-in_err-from c = let file-passed : Passed (file_checks c.args.file.now) = (stage-passed (file_checks c.args.file.now) file_head_size _ (sym c.check_file.ensures ∙ c.in_ok-check_file.was)).0 in
    let a = c.args in
    let p = err_from_is_err_and c.from_residual-in_err-from.result c.from_residual-in_err-from.ensures.1 in
    rw (p.1, p.2, refused-offset a.file.now a.at.0 _ (file-passed) (sym c.check_offset.ensures ∙ c.in_err-from.was)) refl

pub slice_bounds-check_front-count : goal.slice_bounds-check_front-count
slice_bounds-check_front-count c = let offset-passed : Passed (offset_checks c.args.file.now c.args.at.0) × (c.args.at.0 ≡ c.in_ok-from.from.0) = stage-passed (offset_checks c.args.file.now c.args.at.0) c.args.at.0 _ (sym c.check_offset.ensures ∙ c.in_ok-from.was) in
    let inside : c.in_ok-from.from.0 ≤ length c.args.file.now = let s = c.args.file.now in
    subst (λ (x : ℕ). x ≤ length s) (offset-passed).1 (offset-there s c.args.at.0 (offset-passed).0) in
    inside

pub slice_bounds-check_front-start : goal.slice_bounds-check_front-start
slice_bounds-check_front-start c = let offset-passed : Passed (offset_checks c.args.file.now c.args.at.0) × (c.args.at.0 ≡ c.in_ok-from.from.0) = stage-passed (offset_checks c.args.file.now c.args.at.0) c.args.at.0 _ (sym c.check_offset.ensures ∙ c.in_ok-from.was) in
    let inside : c.in_ok-from.from.0 ≤ length c.args.file.now = let s = c.args.file.now in
    subst (λ (x : ℕ). x ≤ length s) (offset-passed).1 (offset-there s c.args.at.0 (offset-passed).0) in
    inside

pub version_at-requires : goal.version_at-requires
version_at-requires c = let file-passed : Passed (file_checks c.args.file.now) = (stage-passed (file_checks c.args.file.now) file_head_size _ (sym c.check_file.ensures ∙ c.in_ok-check_file.was)).0 in
    file-there c.args.file.now c.args.at.0 (file-passed)

pub returns : goal.returns
returns c = let file-passed : Passed (file_checks c.args.file.now) = (stage-passed (file_checks c.args.file.now) file_head_size _ (sym c.check_file.ensures ∙ c.in_ok-check_file.was)).0 in
    let offset-passed : Passed (offset_checks c.args.file.now c.args.at.0) × (c.args.at.0 ≡ c.in_ok-from.from.0) = stage-passed (offset_checks c.args.file.now c.args.at.0) c.args.at.0 _ (sym c.check_offset.ensures ∙ c.in_ok-from.was) in
    let s = c.args.file.now in
    let at = c.in_ok-from.from.0 in
    let v = c.version_at.result in
    c.check_front.ensures
    ∙ ap (λ (x : List ℕ). read_of (read_front v x then λ k. Ok (k, at + field_size v k.records))) (part-all at s)
    ∙ ap (λ (v : Version). read_of (field_at v s at)) c.version_at.ensures
    ∙ ap (λ (x : ℕ). read_of (field_at (version_of s) s x)) (sym (offset-passed).1)
    ∙ ap read_of (sym (passed-both s c.args.at.0 (file-passed) (offset-passed).0))
