-- `read` reads a packet in the tolerant way, or gives the refusal and leaves the cells.
-- By what the strict way's check told.
use mathlib.Core.Path.{sym, ◌∙◌}
use Rattle.rtp_reader.proofs.read.Goals as goal

pub read_outlined-requires : goal.read_outlined-requires
read_outlined-requires c = sym c.check.ensures ∙ c.in-Ok.is

pub read_refused-requires : goal.read_refused-requires
read_refused-requires c = sym c.check.ensures ∙ c.in-Err.is
