-- `is_value` tells octets of a value.
-- By the definition.
use mathlib.Core.Path.{refl}
use Rattle.sdp_spec.specs.Text.{is_value}
use Rattle.sdp_item.proofs.is_value.Goals as goal

pub returns : goal.returns
unfolding is_value
returns c = refl
