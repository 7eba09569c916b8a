-- By the place of the right file.
use Rattle.std.proofs.Common.{ap, sym, ◌∙◌}
use Rattle.text.specs.Text.{ascii}
use Rattle.fielddiff_spec.specs.Diff.{only_line, right}
use Rattle.fielddiff_spec.specs.Text.{line_text, diff_text}
use Rattle.text.proofs.PutLaws.{same}
use Rattle.fieldfile_scan_spec.specs.declared.found.Place.{Place}
use Rattle.fielddiff_lines.specs.Places.{beside_end}
use Rattle.fielddiff_lines.proofs.DifferText.{line-text}
use Rattle.fielddiff_lines.proofs.put_beside_end.Goals as goal

pub returns-in-Field-clause-put : goal.returns-in-Field-clause-put
unfolding line_text ascii
returns-in-Field-clause-put c =
    let a = c.args in
    same (line-text (only_line a.i right) ∙ sym (ap (λ (x : Place). diff_text (beside_end a.i x)) c.in-Field.is)) c.put_numbered.ensures.put
