-- `put_findings` puts the lines of a packet that is not refused.
-- Pieces one behind the other are one piece.
use Rattle.text.specs.Text.{ascii}
use Rattle.text.proofs.PutLaws.{both}
use Rattle.streamcheck_spec.specs.Text.{line_text}
use Rattle.streamcheck_lines.specs.Lines.{line_if}
use Rattle.streamcheck_lines.proofs.put_findings.Goals as goal

pub returns : goal.returns
unfolding line_if line_text ascii
returns c = both c.put_if-next.ensures.put (both c.put_if-next-2.ensures.put (both c.put_if-next-3.ensures.put c.put_if.ensures.put))
