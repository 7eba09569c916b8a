-- `follow` decides what a packet that follows the last fresh one does.
-- By what is gathered.
use Rattle.depacketizer.proofs.decide.follow.Goals as goal

pub returns-in-Lost : goal.returns-in-Lost
returns-in-Lost c = rw (c.dropped.ensures, c.in-Lost.is)

pub returns-in-Ready : goal.returns-in-Ready
returns-in-Ready c = rw (c.join.ensures, c.in-Ready.is)

pub returns-then-gathered-arrived : goal.returns-then-gathered-arrived
returns-then-gathered-arrived c = rw (c.join-then-gathered-arrived.ensures, c.in-Filling.is, c.if-gathered-arrived.true)

pub returns-else-gathered-arrived : goal.returns-else-gathered-arrived
returns-else-gathered-arrived c = rw (c.dropped-else-gathered-arrived.ensures, c.in-Filling.is, c.if-gathered-arrived.false)
