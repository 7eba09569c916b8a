-- By the test.
use Rattle.text.specs.Text.{ascii}
use Rattle.fielddiff_spec.specs.Diff.{cell_line}
use Rattle.fielddiff_spec.specs.Text.{line_text}
use Rattle.text.proofs.PutLaws.{both, same}
use Rattle.fielddiff_lines.proofs.DifferText.{one-differs}
use Rattle.fielddiff_lines.proofs.put_cell.Goals as goal

pub returns-clause-put : goal.returns-clause-put
unfolding line_text ascii
returns-clause-put c =
    let a = c.args in
    same (one-differs (cell_line a.i a.j a.k) a.l a.r c.if-l-r.false)
    (both c.put_decimal-next.ensures.put (both c.put_labelled-next.ensures.put (both c.put_labelled-next-2.ensures.put c.put_sides.ensures.put)))
