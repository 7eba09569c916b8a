-- `head_order` is the order of pcap's magic number.
-- By the number in both.
use mathlib.Core.Path.{ap, ◌∙◌}
use Rattle.capture_spec.specs.Numbers.{is_magic, ordering}
use Rattle.capture_block.proofs.number.head_order.Goals as goal

pub returns : goal.returns
returns c = c.order_by.ensures ∙ (λ i. ordering ((c.is_magic-big.ensures ∙ ap is_magic c.word_at.ensures.0) i) ((c.is_magic-little.ensures ∙ ap is_magic c.word_at-2.ensures.0) i))
