-- `ipv6_at` tells what the packet is.
-- Each return knows the tests before it, in the order of the definition.
use mathlib.Core.Path.{◌≡◌, ◌∙◌, ap}
use mathlib.Core.Bool.{true, not}
use mathlib.Core.List.{List}
use Prim.Native.Nat.{ℕ, ◌+◌, ◌≤◌}
use native.Mathlib.Omega.{arith}
use lib.Dec.{leb}
use lib.ListN.{length, drop}
use Rattle.capture_datagram.specs.Ip.{ipv6_in, headers}
use Rattle.capture_datagram.proofs.FieldLaws.{passed, failed, held, beyond-at}
use Rattle.capture_datagram.proofs.ipv6.ipv6_at.Goals as goal

pub returns-then-not-holds : goal.returns-then-not-holds
unfolding ipv6_in
returns-then-not-holds c = rw (failed c.holds.ensures (ap not c.if-not-holds.true))

pub returns-then-not-is_udp : goal.returns-then-not-is_udp
unfolding ipv6_in
returns-then-not-is_udp c = let header : List ℕ = let a = c.args in drop a.at a.packet.now in
    let long : leb 40 (length (header)) ≡ true = passed c.holds.ensures (ap not c.if-not-holds.false) in
    rw (long, failed c.is_udp.ensures (ap not c.if-not-is_udp.true))

pub returns : goal.returns
unfolding ipv6_in
returns c = let header : List ℕ = let a = c.args in drop a.at a.packet.now in
    let long : leb 40 (length (header)) ≡ true = passed c.holds.ensures (ap not c.if-not-holds.false) in
    let a = c.args in
    rw (long, passed c.is_udp.ensures (ap not c.if-not-is_udp.false), ← c.number-room.ensures, ← c.octet-next.ensures)
    (c.headers_at.ensures ∙ beyond-at (headers a.port c.octet-next.result c.number-room.result) a.packet.now a.at 40)

pub is_udp-requires : goal.is_udp-requires
is_udp-requires c = let header : List ℕ = let a = c.args in drop a.at a.packet.now in
    let long : leb 40 (length (header)) ≡ true = passed c.holds.ensures (ap not c.if-not-holds.false) in
    let captured : let a = c.args in a.at + 40 ≤ length a.packet.now = held c.args.packet.now c.args.at 40 c.requires (long) in
    captured

pub octet-next-requires : goal.octet-next-requires
octet-next-requires c = let header : List ℕ = let a = c.args in drop a.at a.packet.now in
    let long : leb 40 (length (header)) ≡ true = passed c.holds.ensures (ap not c.if-not-holds.false) in
    let captured : let a = c.args in a.at + 40 ≤ length a.packet.now = held c.args.packet.now c.args.at 40 c.requires (long) in
    omega (arith, captured)

pub number-room-requires : goal.number-room-requires
number-room-requires c = let header : List ℕ = let a = c.args in drop a.at a.packet.now in
    let long : leb 40 (length (header)) ≡ true = passed c.holds.ensures (ap not c.if-not-holds.false) in
    let captured : let a = c.args in a.at + 40 ≤ length a.packet.now = held c.args.packet.now c.args.at 40 c.requires (long) in
    omega (arith, captured)

pub headers_at-requires : goal.headers_at-requires
headers_at-requires c = let header : List ℕ = let a = c.args in drop a.at a.packet.now in
    let long : leb 40 (length (header)) ≡ true = passed c.holds.ensures (ap not c.if-not-holds.false) in
    let captured : let a = c.args in a.at + 40 ≤ length a.packet.now = held c.args.packet.now c.args.at 40 c.requires (long) in
    captured
