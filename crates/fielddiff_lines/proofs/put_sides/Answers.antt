-- Pieces one behind the other are one piece.
use Rattle.std.proofs.Common.{append_assoc}
use Rattle.text.specs.Text.{ascii, decimal}
use Rattle.text.proofs.PutLaws.{both, same}
use Rattle.fielddiff_lines.proofs.put_sides.Goals as goal

pub returns-clause-put : goal.returns-clause-put
unfolding ascii
returns-clause-put c =
    let a = c.args in
    same (append_assoc a.label.now (decimal a.l) _) (both c.put_labelled-next.ensures.put (both c.put_labelled-next-2.ensures.put c.put.ensures.put))
