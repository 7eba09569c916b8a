-- Pieces one behind the other are one piece.
use Rattle.text.specs.Text.{ascii}
use Rattle.text.proofs.PutLaws.{both}
use Rattle.fieldlist_lines.specs.Lines.{refused_text}
use Rattle.fieldlist_lines.proofs.put_refused.Goals as goal

pub returns : goal.returns
unfolding refused_text ascii
returns c = both (both c.put_labelled-next.ensures.put c.put_labelled-next-2.ensures.put) c.put.ensures.put
