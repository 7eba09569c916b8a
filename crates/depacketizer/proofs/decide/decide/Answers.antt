-- `decide` decides what a fresh packet does.
-- By whether it follows the last fresh one.
use Rattle.depacketizer.proofs.decide.decide.Goals as goal

pub returns-then-next : goal.returns-then-next
returns-then-next c = rw (c.follow.ensures, c.if-next.true)

pub returns : goal.returns
returns c = rw (c.dropped.ensures, c.if-next.false)
