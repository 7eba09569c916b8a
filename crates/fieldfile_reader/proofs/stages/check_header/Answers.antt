-- `check_header` gives 52 or 53, or passes.
-- Each return knows the tests before it, in the order of the definition.
use Rattle.wire_spec.specs.Result.{Ok}
use mathlib.Core.Path.{ap, sym, subst, ◌∙◌}
use mathlib.Core.Bool.{true}
use Prim.Native.Nat.{ℕ, ◌<◌, ◌≤◌}
use native.Mathlib.Omega.{arith}
use borrow.Author.Tests.{le-leb, lt-leb}
use lib.ListN.{length}
use Rattle.fieldfile_spec.specs.File.{field_header_size, file_f_ok, field_header_checks}
use Rattle.fieldfile_spec.proofs.FrontLaws.{header-least}
use Rattle.fieldfile_reader.proofs.HeadFields.{f-at}
use Rattle.fieldfile_reader.proofs.stages.check_header.Goals as goal

pub returns-then-octets-header : goal.returns-then-octets-header
unfolding field_header_checks
returns-then-octets-header c = let s = c.args.octets.now in
    let h1 = lt-leb (field_header_size c.args.version) (length s) (subst (λ (k : ℕ). length s < k) c.header_size-header.ensures c.if-octets-header.true) in
    rw (c.refuse.ensures, h1)

pub bounds-octets-4 : goal.bounds-octets-4
bounds-octets-4 c = let there : field_header_size c.args.version ≤ length c.args.octets.now = subst (λ (k : ℕ). k ≤ length c.args.octets.now) c.header_size-header.ensures c.if-octets-header.false in
    omega (arith, there, header-least c.args.version)

pub returns-then-not-f_ok : goal.returns-then-not-f_ok
unfolding field_header_checks
returns-then-not-f_ok c = let there : field_header_size c.args.version ≤ length c.args.octets.now = subst (λ (k : ℕ). k ≤ length c.args.octets.now) c.header_size-header.ensures c.if-octets-header.false in
    let s = c.args.octets.now in
    let l = there in
    let h1 = le-leb (field_header_size c.args.version) (length s) l in
    let f = f-at s (λ j. (c.shared_slice_known-1.given j).fits) (omega (arith, l, header-least c.args.version)) in
    let h2 = ap file_f_ok (sym f) ∙ sym c.f_ok.ensures ∙ c.if-not-f_ok.true in
    rw (c.refuse-then-not-f_ok.ensures, h1, h2)

pub returns : goal.returns
unfolding field_header_checks
returns c = let there : field_header_size c.args.version ≤ length c.args.octets.now = subst (λ (k : ℕ). k ≤ length c.args.octets.now) c.header_size-header.ensures c.if-octets-header.false in
    let s = c.args.octets.now in
    let l = there in
    let h1 = le-leb (field_header_size c.args.version) (length s) l in
    let f = f-at s (λ j. (c.shared_slice_known-1.given j).fits) (omega (arith, l, header-least c.args.version)) in
    let h2 = ap file_f_ok (sym f) ∙ sym c.f_ok.ensures ∙ c.if-not-f_ok.false in
    rw (h1, h2) (ap (λ (k : ℕ). Ok (record { 0 = k })) c.header_size-header.ensures)
