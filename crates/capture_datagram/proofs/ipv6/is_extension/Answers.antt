-- `is_extension` tells whether a header is an extension header.
-- By the definition.
use Rattle.capture_datagram.specs.Ip.{is_extension}
use mathlib.Core.Path.{refl}
use Rattle.capture_datagram.proofs.ipv6.is_extension.Goals as goal

pub returns : goal.returns
unfolding is_extension
returns c = refl
