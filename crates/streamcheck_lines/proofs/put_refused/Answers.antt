-- `put_refused` puts the line of a refused packet.
-- Pieces one behind the other are one piece.
use Rattle.text.specs.Text.{ascii}
use Rattle.text.proofs.PutLaws.{both}
use Rattle.streamcheck_spec.specs.Text.{line_text}
use Rattle.streamcheck_lines.proofs.put_refused.Goals as goal

pub returns : goal.returns
unfolding line_text ascii
returns c = both (both (both c.put_decimal-next.ensures.put c.put_labelled-next.ensures.put) c.put_labelled-next-2.ensures.put) c.put.ensures.put
