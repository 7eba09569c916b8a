-- Pieces one behind the other are one piece.
use Rattle.text.specs.Text.{ascii}
use Rattle.text.proofs.PutLaws.{both}
use Rattle.fieldlist_lines.specs.Lines.{whole_text}
use Rattle.fieldlist_lines.proofs.put_whole.Goals as goal

pub returns-clause-put : goal.returns-clause-put
unfolding whole_text ascii
returns-clause-put c =
    both (both (both (both c.put_decimal-next.ensures.put c.put_labelled-next.ensures.put) c.put_labelled-next-2.ensures.put) c.put_labelled-next-3.ensures.put) c.put.ensures.put
