-- `scan_header` gives 54, 52 or 53, or the field that is begun.
-- By what the stage told.
use Rattle.wire_spec.specs.Result.{Ok}
use mathlib.Core.Path.{sym, ◌∙◌}
use Prim.Native.Nat.{ℕ, ◌<◌, ◌≤◌}
use native.Mathlib.Omega.{arith}
use lib.ListN.{length, get_or}
use Rattle.wire_offsets.proofs.StageLaws.{stage-passed}
use Rattle.fieldfile_spec.specs.File.{field_header_checks, field_header_size}
use Rattle.fieldfile_spec.proofs.FrontLaws.{header-least, header-there}
use Rattle.fieldfile_reader.proofs.HeadFields.{f-at}
use Rattle.fieldfile_scan.specs.Scan.{field_begun}
use Rattle.fieldfile_scan.specs.declared.state.State.TheVariants as state
use Rattle.fieldfile_scan.specs.declared.state.Scanned.TheVariants as scanned
use Rattle.fieldfile_scan.proofs.PacketLaws.{header-end, header-some, stage-goes, stage-stops}
use Rattle.std.proofs.lemmas.Result.{err_from_is_err_and}
use Rattle.fieldfile_scan.proofs.scan_header.Goals as goal

pub returns-then-window-eq0 : goal.returns-then-window-eq0
returns-then-window-eq0 c = c.refuse.ensures ∙ header-end c.args.version c.args.window.now c.if-window-eq0.true

pub returns-in_err-size : goal.returns-in_err-size
returns-in_err-size c = let a = c.args in
    let s = a.window.now in
    let p = err_from_is_err_and c.from_residual.result c.from_residual.ensures.1 in
    rw (p.1, p.2)
    (stage-stops (state.Within (field_begun a.version s)) (field_header_checks a.version s) (field_header_size a.version) _ (sym c.check_header.ensures ∙ c.in_err-size.was)
    ∙ sym (header-some a.version s c.if-window-eq0.false))

pub quad_at-requires : goal.quad_at-requires
quad_at-requires c = let there : field_header_size c.args.version ≤ length c.args.window.now = let a = c.args in
    header-there a.version a.window.now (stage-passed (field_header_checks a.version a.window.now) (field_header_size a.version) _ (sym c.check_header.ensures ∙ c.in_ok-size.was)).0 in
    let f-there : 4 < length c.args.window.now = omega (arith, there, header-least c.args.version) in
    omega (arith, f-there)

pub bounds-window-4 : goal.bounds-window-4
bounds-window-4 c = let there : field_header_size c.args.version ≤ length c.args.window.now = let a = c.args in
    header-there a.version a.window.now (stage-passed (field_header_checks a.version a.window.now) (field_header_size a.version) _ (sym c.check_header.ensures ∙ c.in_ok-size.was)).0 in
    let f-there : 4 < length c.args.window.now = omega (arith, there, header-least c.args.version) in
    f-there

pub count_at-requires : goal.count_at-requires
count_at-requires c = let there : field_header_size c.args.version ≤ length c.args.window.now = let a = c.args in
    header-there a.version a.window.now (stage-passed (field_header_checks a.version a.window.now) (field_header_size a.version) _ (sym c.check_header.ensures ∙ c.in_ok-size.was)).0 in
    there

pub returns : goal.returns
returns c = let there : field_header_size c.args.version ≤ length c.args.window.now = let a = c.args in
    header-there a.version a.window.now (stage-passed (field_header_checks a.version a.window.now) (field_header_size a.version) _ (sym c.check_header.ensures ∙ c.in_ok-size.was)).0 in
    let f-there : 4 < length c.args.window.now = omega (arith, there, header-least c.args.version) in
    let a = c.args in
    let s = a.window.now in
    let n = c.in_ok-size.size in
    let o : (j : ℕ) → get_or s j 0 < 256 = λ j. (c.shared_slice_known-1.given j).fits in
    (λ i. (Ok (scanned.On (state.Within (record { version = a.version; timestamp = record { 0 = c.quad_at.ensures i }; f = f-at s o (f-there) i; left = c.count_at.ensures i; records = 0; cells = 0 })) n)))
    ∙ stage-goes (state.Within (field_begun a.version s)) (field_header_checks a.version s) (field_header_size a.version) n (sym c.check_header.ensures ∙ c.in_ok-size.was)
    ∙ sym (header-some a.version s c.if-window-eq0.false)
