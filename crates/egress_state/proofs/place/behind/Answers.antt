-- `behind` is the next channel in the circle.
use native.Mathlib.Omega.{arith}
use borrow.Author.Tests.{lt-ltb, le-ltb}
use Rattle.egress_state.proofs.place.behind.Goals as goal

pub returns-then-channel : goal.returns-then-channel
returns-then-channel c = (rw (lt-ltb _ 7 c.if-channel.true) (omega arith), omega arith)

pub returns-else-channel : goal.returns-else-channel
returns-else-channel c = (rw (le-ltb _ 7 c.if-channel.false), omega arith)
