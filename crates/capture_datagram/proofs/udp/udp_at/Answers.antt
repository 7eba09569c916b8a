-- `udp_at` tells what the datagram is.
-- Each return knows the tests before it, in the order of the definition.
use Prim.Native.Nat.{◌+◌, ◌≤◌}
use native.Mathlib.Omega.{arith}
use borrow.Author.Tests.{le-leb, lt-leb}
use lib.ListN.{length}
use Rattle.capture_datagram.specs.Udp.{udp_in}
use Rattle.capture_datagram.proofs.FieldLaws.{passed, failed, held}
use mathlib.Core.Bool.{not}
use mathlib.Core.Path.{ap}
use Rattle.capture_datagram.proofs.udp.udp_at.Goals as goal

pub returns-then-room-lt-HEADER : goal.returns-then-room-lt-HEADER
unfolding udp_in
returns-then-room-lt-HEADER c = rw (lt-leb _ _ c.if-room-lt-HEADER.true)

pub returns-then-not-holds : goal.returns-then-not-holds
unfolding udp_in
returns-then-not-holds c = rw (le-leb _ _ c.if-room-lt-HEADER.false, failed c.holds.ensures (ap not c.if-not-holds.true))

pub returns-then-not-is_for_port : goal.returns-then-not-is_for_port
unfolding udp_in
returns-then-not-is_for_port c = rw (le-leb _ _ c.if-room-lt-HEADER.false, passed c.holds.ensures (ap not c.if-not-holds.false), failed c.is_for_port.ensures (ap not c.if-not-is_for_port.true))

pub returns-then-not-holds-2 : goal.returns-then-not-holds-2
unfolding udp_in
returns-then-not-holds-2 c = rw (
  le-leb _ _ c.if-room-lt-HEADER.false,
  passed c.holds.ensures (ap not c.if-not-holds.false),
  passed c.is_for_port.ensures (ap not c.if-not-is_for_port.false),
  ← c.number-size.ensures,
  failed c.holds-2.ensures (ap not c.if-not-holds-2.true),
)

pub overflow_add-result-2 : goal.overflow_add-result-2
overflow_add-result-2 c = omega (arith, held c.args.packet.now c.args.at c.number-size.result c.requires (passed c.holds-2.ensures (ap not c.if-not-holds-2.false)), c.well_formed)

pub returns : goal.returns
unfolding udp_in
returns c = rw (
  le-leb _ _ c.if-room-lt-HEADER.false,
  passed c.holds.ensures (ap not c.if-not-holds.false),
  passed c.is_for_port.ensures (ap not c.if-not-is_for_port.false),
  ← c.number-size.ensures,
  passed c.holds-2.ensures (ap not c.if-not-holds-2.false),
)

pub is_for_port-requires : goal.is_for_port-requires
is_for_port-requires c = let whole : let a = c.args in a.at + 8 ≤ length a.packet.now = held c.args.packet.now c.args.at 8 c.requires (passed c.holds.ensures (ap not c.if-not-holds.false)) in
    whole

pub number-size-requires : goal.number-size-requires
number-size-requires c = let whole : let a = c.args in a.at + 8 ≤ length a.packet.now = held c.args.packet.now c.args.at 8 c.requires (passed c.holds.ensures (ap not c.if-not-holds.false)) in
    omega (arith, whole)
