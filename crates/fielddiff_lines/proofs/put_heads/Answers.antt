-- Pieces one behind the other are one piece.
use Rattle.std.proofs.Common.{refl}
use Rattle.text.specs.Text.{ascii}
use Rattle.fielddiff_spec.specs.Diff.{ts_line, f_line, records_line, differ}
use Rattle.fielddiff_spec.specs.Text.{line_text}
use Rattle.text.proofs.PutLaws.{both, same}
use Rattle.fielddiff_lines.proofs.DifferText.{labelled, three-texts}
use Rattle.fielddiff_lines.proofs.put_heads.Goals as goal

pub returns-clause-put : goal.returns-clause-put
unfolding line_text ascii
returns-clause-put c =
    let a = c.args in
    let lt = a.l.timestamp.0 in
    let rt = a.r.timestamp.0 in
    same (three-texts (differ (ts_line a.i) lt rt) (differ (f_line a.i) a.l.f a.r.f) (differ (records_line a.i) a.l.records a.r.records))
    (both (same (labelled (ts_line a.i) a.i (ascii " ts ") lt rt refl) c.put_differing-next.ensures.put)
    (both (same (labelled (f_line a.i) a.i (ascii " f ") a.l.f a.r.f refl) c.put_differing-next-2.ensures.put)
    (same (labelled (records_line a.i) a.i (ascii " records ") a.l.records a.r.records refl) c.put_differing.ensures.put)))
