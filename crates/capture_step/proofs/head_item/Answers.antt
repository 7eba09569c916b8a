-- `head_item` is pcap's head.
-- By its order and its length.
use Rattle.std.specs.Prelude.{Ok}
use mathlib.Core.Path.{ap}
use Prim.Native.Nat.{ℕ, ◌%◌}
use borrow.Author.Tests.{le-ltb, lt-ltb}
use Rattle.capture_spec.specs.declared.state.Container.TheVariants as container
use Rattle.capture_spec.specs.declared.state.Item.TheVariants as item
use Rattle.capture_step.proofs.head_item.Goals as goal

pub returns-then-octets-lt-HEAD_SIZE : goal.returns-then-octets-lt-HEAD_SIZE
returns-then-octets-lt-HEAD_SIZE c = rw (c.in-Some.is, lt-ltb _ 24 c.if-octets-lt-HEAD_SIZE.true)

pub returns-in-None : goal.returns-in-None
returns-in-None c = rw c.in-None.is

pub returns-else-octets-lt-HEAD_SIZE : goal.returns-else-octets-lt-HEAD_SIZE
returns-else-octets-lt-HEAD_SIZE c = rw (c.in-Some.is, le-ltb _ 24 c.if-octets-lt-HEAD_SIZE.false) (ap (λ (w : ℕ). Ok (item.Head (container.Classic c.in-Some.order (w % 65536)) 24)) c.word_at.ensures.0)
