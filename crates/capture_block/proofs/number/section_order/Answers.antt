-- `section_order` is the order of a section's magic number.
-- By the number in both.
use mathlib.Core.Path.{◌∙◌}
use lib.Dec.{eqb}
use Rattle.capture_spec.specs.Numbers.{order_magic, ordering}
use Rattle.capture_block.proofs.number.section_order.Goals as goal

pub returns : goal.returns
returns c = c.order_by.ensures ∙ (λ i. ordering (eqb (c.word_at-big.ensures.0 i) order_magic) (eqb (c.word_at-little.ensures.0 i) order_magic))
