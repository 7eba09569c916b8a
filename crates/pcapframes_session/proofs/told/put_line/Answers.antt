-- `put_line` puts two numbers with their labels.
-- Pieces one behind the other are one piece.
use native.Mathlib.Omega.{arith}
use Rattle.text.specs.Text.{ascii}
use Rattle.text.proofs.PutLaws.{both}
use Rattle.pcapframes_session.proofs.told.put_line.Goals as goal

pub returns : goal.returns
unfolding ascii
returns c = record { put = both (both c.put_labelled-next.ensures.put c.put_labelled-last.ensures.put) c.put.ensures.put; upper_bound = omega (arith, c.put_labelled-next.ensures.upper_bound, c.put_labelled-last.ensures.upper_bound, c.put.ensures.value, c.requires.0) }
