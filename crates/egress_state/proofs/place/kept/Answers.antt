-- `kept` puts a packet behind a channel's last.
use mathlib.Core.Path.{refl}
use Rattle.egress_state.proofs.place.kept.Goals as goal

pub returns : goal.returns
returns c = refl
