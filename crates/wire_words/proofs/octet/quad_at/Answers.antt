-- `quad_at` is the thirty-two bits at an octet.
-- By its two steps: the octets in reverse order, reversed.
use mathlib.Core.Path.{◌∙◌}
use Rattle.wire_words.proofs.octet.quad_at.Goals as goal

pub returns : goal.returns
returns c = c.reversed.ensures ∙ c.back_at.ensures
