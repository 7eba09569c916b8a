-- Pieces one behind the other are one piece.
use Rattle.text.specs.Text.{ascii}
use Rattle.fielddiff_spec.specs.Diff.{refused_line, number}
use Rattle.fielddiff_spec.specs.Text.{line_text}
use Rattle.text.proofs.PutLaws.{both, same}
use Rattle.fielddiff_lines.proofs.DifferText.{line-text}
use Rattle.fielddiff_lines.proofs.put_refused.Goals as goal

pub returns-clause-put : goal.returns-clause-put
unfolding line_text ascii
returns-clause-put c = same (line-text (refused_line c.args.i (number c.args.number) (number c.args.other))) (both c.put_decimal-next.ensures.put c.put_sides.ensures.put)
