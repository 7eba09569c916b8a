-- Pieces one behind the other are one piece.
use Rattle.text.specs.Text.{ascii}
use Rattle.text.proofs.PutLaws.{both}
use Rattle.fieldlist_lines.specs.Lines.{counts_text}
use Rattle.fieldlist_lines.proofs.put_counts.Goals as goal

pub returns : goal.returns
unfolding counts_text ascii
returns c = both (both (both c.put_labelled-next.ensures.put c.put_labelled-next-2.ensures.put) c.put_labelled-next-3.ensures.put) c.put.ensures.put
