-- `is_tag` tells whether a type is a tag's.
-- By the definition.
use mathlib.Core.Path.{refl}
use Rattle.capture_datagram.specs.Link.{is_tag}
use Rattle.capture_datagram.proofs.ethernet.is_tag.Goals as goal

pub returns : goal.returns
unfolding is_tag
returns c = refl
