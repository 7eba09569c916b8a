-- `interface_item` is an interface, where there is room for one more.
-- By the test.
use Rattle.std.specs.Prelude.{Ok}
use borrow.Author.Tests.{le-ltb, lt-ltb}
use Rattle.capture_spec.specs.declared.state.Item.TheVariants as item
use Rattle.capture_block.proofs.block.interface_item.Goals as goal

pub returns-then-state-ge-MAX_INTERFACES : goal.returns-then-state-ge-MAX_INTERFACES
returns-then-state-ge-MAX_INTERFACES c = rw (le-ltb _ 64 c.if-state-ge-MAX_INTERFACES.true)

pub returns : goal.returns
returns c = rw (lt-ltb _ 64 c.if-state-ge-MAX_INTERFACES.false) (λ i. Ok (item.Interface (c.half_at.ensures i) (c.word_at.ensures.0 i) c.args.n))
