-- `scan_head` gives 50 or 51, or what stands behind the head.
-- By what the stage told.
use Rattle.wire_spec.specs.Result.{Ok}
use mathlib.Core.Path.{ap, sym, ◌∙◌}
use Rattle.wire_offsets.proofs.StageLaws.{stage-passed}
use Rattle.fieldfile_spec.specs.declared.format.Version.{Version}
use Rattle.fieldfile_spec.specs.File.{file_checks, file_head_size, version_of}
use Rattle.fieldfile_reader.proofs.ReadLaws.{file-there}
use Rattle.fieldfile_scan.specs.declared.state.State.TheVariants as state
use Rattle.fieldfile_scan.specs.declared.state.Scanned.TheVariants as scanned
use Rattle.fieldfile_scan.proofs.PacketLaws.{stage-goes, stage-stops}
use Rattle.std.proofs.lemmas.Result.{err_from_is_err_and}
use Rattle.fieldfile_scan.proofs.scan_head.Goals as goal

pub returns-in_err-size : goal.returns-in_err-size
returns-in_err-size c = let s = c.args.window.now in
    let p = err_from_is_err_and c.from_residual.result c.from_residual.ensures.1 in
    rw (p.1, p.2) (stage-stops (state.Between (version_of s)) (file_checks s) file_head_size _ (sym c.check_file.ensures ∙ c.in_err-size.was))

pub version_at-requires : goal.version_at-requires
version_at-requires c = let s = c.args.window.now in
    file-there s 0 (stage-passed (file_checks s) file_head_size _ (sym c.check_file.ensures ∙ c.in_ok-size.was)).0

pub returns : goal.returns
returns c = let s = c.args.window.now in
    let n = c.in_ok-size.size in
    ap (λ (v : Version). (Ok (scanned.On (state.Between v) n))) c.version_at.ensures
    ∙ stage-goes (state.Between (version_of s)) (file_checks s) file_head_size n (sym c.check_file.ensures ∙ c.in_ok-size.was)
