-- `has_tag` tells whether a whole tag stands there.
-- By the definition.
use native.Mathlib.Omega.{arith}
use Rattle.capture_datagram.specs.Link.{has_tag}
use Rattle.capture_datagram.proofs.FieldLaws.{passed, failed, held}
use mathlib.Core.Bool.{not}
use mathlib.Core.Path.{ap}
use Rattle.capture_datagram.proofs.ethernet.has_tag.Goals as goal

pub returns-then-not-holds : goal.returns-then-not-holds
unfolding has_tag
returns-then-not-holds c = rw (failed c.holds.ensures (ap not c.if-not-holds.true))

pub number-requires : goal.number-requires
number-requires c = omega (arith, held c.args.packet.now c.args.at 4 c.requires (passed c.holds.ensures (ap not c.if-not-holds.false)))

pub returns : goal.returns
unfolding has_tag
returns c = rw (passed c.holds.ensures (ap not c.if-not-holds.false), ← c.number.ensures) c.is_tag.ensures
