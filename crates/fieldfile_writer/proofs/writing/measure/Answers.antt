-- `measure` gives 53, 20, 16, 21 or 23, or the records and octets of a field that fits.
-- Each return knows the checks before it, in the order of the definition.
use Rattle.wire_spec.specs.Result.{Ok}
use mathlib.Core.Path.{◌≡◌, ap, sym, ◌∙◌}
use mathlib.Core.Bool.{true}
use Rattle.wire_spec.specs.Cells.{read_list}
use Rattle.fieldfile_spec.specs.File.{file_f_ok}
use Rattle.wire_spec.specs.Layout.{rfc8331}
use Rattle.anc_writer.specs.Answers.{listed_of}
use Rattle.anc_writer.proofs.ListedLaws.{measured-is, unmeasured}
use Rattle.fieldfile_writer.proofs.WriteLaws.{refused-f, refused-list, over-limit, no_room, all_fit}
use Rattle.fieldfile_writer.proofs.writing.measure.Goals as goal

pub returns-then-not-f_ok : goal.returns-then-not-f_ok
returns-then-not-f_ok c = c.refuse.ensures ∙ sym (ap (listed_of rfc8331) (refused-f c.args.f c.args.cells.now c.args.room (sym c.f_ok.ensures ∙ c.if-not-f_ok.true)))

pub returns-in_default : goal.returns-in_default
returns-in_default c = let f-passed : file_f_ok c.args.f ≡ true = sym c.f_ok.ensures ∙ c.if-not-f_ok.false in
    let a = c.args in
    let u = unmeasured _ (sym c.measure_list.ensures ∙ c.in_default.is) in
    c.check_list.ensures ∙ u.is ∙ sym (ap (listed_of rfc8331) (refused-list a.f a.cells.now a.room (f-passed) _ u.is))

pub returns-then-not-within : goal.returns-then-not-within
returns-then-not-within c = let f-passed : file_f_ok c.args.f ≡ true = sym c.f_ok.ensures ∙ c.if-not-f_ok.false in
    let list-passed : listed_of rfc8331 (read_list c.args.cells.now) ≡ Ok c.in-Some.listed = measured-is _ _ _ (sym c.measure_list.ensures ∙ c.in-Some.is) in
    let a = sym c.within_limits-within.ensures ∙ c.if-not-within.true in
    c.refuse-then-not-within.ensures ∙ sym (ap (listed_of rfc8331) (over-limit c.args.f c.args.cells.now c.args.room (f-passed) _ _ (list-passed) a))

pub returns-then-not-enough : goal.returns-then-not-enough
returns-then-not-enough c = let f-passed : file_f_ok c.args.f ≡ true = sym c.f_ok.ensures ∙ c.if-not-f_ok.false in
    let list-passed : listed_of rfc8331 (read_list c.args.cells.now) ≡ Ok c.in-Some.listed = measured-is _ _ _ (sym c.measure_list.ensures ∙ c.in-Some.is) in
    let a = sym c.within_limits-within.ensures ∙ c.if-not-within.false in
    let b = sym c.fits_behind-enough.ensures ∙ c.if-not-enough.true in
    c.refuse-then-not-enough.ensures ∙ sym (ap (listed_of rfc8331) (no_room c.args.f c.args.cells.now c.args.room (f-passed) _ _ (list-passed) a b))

pub returns : goal.returns
returns c = let f-passed : file_f_ok c.args.f ≡ true = sym c.f_ok.ensures ∙ c.if-not-f_ok.false in
    let list-passed : listed_of rfc8331 (read_list c.args.cells.now) ≡ Ok c.in-Some.listed = measured-is _ _ _ (sym c.measure_list.ensures ∙ c.in-Some.is) in
    let a = sym c.within_limits-within.ensures ∙ c.if-not-within.false in
    let b = sym c.fits_behind-enough.ensures ∙ c.if-not-enough.false in
    sym (all_fit c.args.f c.args.cells.now c.args.room (f-passed) _ _ (list-passed) a b)
