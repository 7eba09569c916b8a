-- `head` tells where a channel's head stands.
use mathlib.Core.Path.{refl}
use Rattle.egress_state.proofs.place.head.Goals as goal

pub returns : goal.returns
returns c = refl
