-- `start_item` is the front of a capture.
-- By its magic number.
use Rattle.std.specs.Prelude.{Option}
use Rattle.capture_spec.specs.declared.state.Order.{Order}
use mathlib.Core.Path.{ap, ◌∙◌}
use borrow.Author.Tests.{eq-eqb, ne_eqb, le-ltb, lt-ltb}
use Rattle.capture_spec.specs.declared.state.Order.TheVariants as order
use Rattle.capture_spec.specs.Numbers.{word_at}
use Rattle.capture_spec.specs.Step.{head_by, section_by}
use Rattle.capture_step.proofs.start_item.Goals as goal

pub returns-then-octets-lt-WORD_SIZE : goal.returns-then-octets-lt-WORD_SIZE
returns-then-octets-lt-WORD_SIZE c = rw (lt-ltb _ 4 c.if-octets-lt-WORD_SIZE.true)

pub returns-then-word_at-ne-SECTION_TYPE : goal.returns-then-word_at-ne-SECTION_TYPE
returns-then-word_at-ne-SECTION_TYPE c = let s = c.args.octets.now in
    rw (le-ltb _ 4 c.if-octets-lt-WORD_SIZE.false, ne_eqb (word_at order.Big s 0) 0x0A0D0D0A (λ e. c.if-word_at-ne-SECTION_TYPE.true (c.word_at.ensures.0 ∙ e)))
    (c.head_item.ensures ∙ ap (λ (o : Option Order). head_by o s) c.head_order.ensures)

pub returns-then-octets-lt-BLOCK_HEAD : goal.returns-then-octets-lt-BLOCK_HEAD
returns-then-octets-lt-BLOCK_HEAD c = rw (le-ltb _ 4 c.if-octets-lt-WORD_SIZE.false, ← c.word_at.ensures.0, eq-eqb _ 0x0A0D0D0A c.if-word_at-ne-SECTION_TYPE.false, lt-ltb _ 12 c.if-octets-lt-BLOCK_HEAD.true)

pub returns : goal.returns
returns c = let s = c.args.octets.now in
    rw (le-ltb _ 4 c.if-octets-lt-WORD_SIZE.false, ← c.word_at.ensures.0, eq-eqb _ 0x0A0D0D0A c.if-word_at-ne-SECTION_TYPE.false, le-ltb _ 12 c.if-octets-lt-BLOCK_HEAD.false)
    (c.section_item.ensures ∙ ap (λ (o : Option Order). section_by o s) c.section_order.ensures)
