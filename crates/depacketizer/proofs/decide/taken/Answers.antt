-- `taken` decides that a field is whole or held.
-- By whether the packet is marked.
use Rattle.depacketizer.proofs.decide.taken.Goals as goal

pub returns-then-head : goal.returns-then-head
returns-then-head c = rw c.if-head.true

pub returns-else-head : goal.returns-else-head
returns-else-head c = rw c.if-head.false
