-- `dropped` decides that nothing is gathered.
-- By whether the packet is marked.
use Rattle.depacketizer.proofs.decide.dropped.Goals as goal

pub returns-then-marker : goal.returns-then-marker
returns-then-marker c = rw c.if-marker.true

pub returns-else-marker : goal.returns-else-marker
returns-else-marker c = rw c.if-marker.false
