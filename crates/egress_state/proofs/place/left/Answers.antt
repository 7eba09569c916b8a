-- `left` takes the head off a channel's queue.
use Rattle.egress_state.proofs.place.left.Goals as goal

pub returns : goal.returns
returns c = rw (c.behind.ensures.0, c.behind-2.ensures.0)
