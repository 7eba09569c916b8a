-- `ipv4_at` tells what the packet is.
-- Each return knows the tests before it, in the order of the definition.
use mathlib.Core.Path.{◌≡◌, ◌∙◌, ap}
use mathlib.Core.Bool.{true, not}
use mathlib.Core.List.{List}
use Prim.Native.Nat.{ℕ, ◌+◌, ◌-◌, ◌≤◌}
use native.Mathlib.Omega.{arith}
use lib.Dec.{leb}
use lib.ListN.{length, drop}
use Rattle.capture_datagram.specs.Ip.{ipv4_in, is_ipv4_udp, is_ipv4_whole}
use Rattle.capture_datagram.specs.Udp.{udp_in}
use Rattle.capture_datagram.proofs.FieldLaws.{passed, failed, held, beyond-at}
use Rattle.capture_datagram.proofs.IpLaws.{ipv4-room}
use Rattle.capture_datagram.proofs.ipv4.ipv4_at.Goals as goal

pub returns-then-not-holds : goal.returns-then-not-holds
unfolding ipv4_in
returns-then-not-holds c = rw (failed c.holds.ensures (ap not c.if-not-holds.true))

pub returns-then-not-is_udp : goal.returns-then-not-is_udp
unfolding ipv4_in
returns-then-not-is_udp c = let header : List ℕ = let a = c.args in drop a.at a.packet.now in
    let long : leb 20 (length (header)) ≡ true = passed c.holds.ensures (ap not c.if-not-holds.false) in
    rw (long, failed c.is_udp.ensures (ap not c.if-not-is_udp.true))

pub returns-then-not-is_whole : goal.returns-then-not-is_whole
unfolding ipv4_in
returns-then-not-is_whole c = let header : List ℕ = let a = c.args in drop a.at a.packet.now in
    let long : leb 20 (length (header)) ≡ true = passed c.holds.ensures (ap not c.if-not-holds.false) in
    let of-udp : is_ipv4_udp (header) ≡ true = passed c.is_udp.ensures (ap not c.if-not-is_udp.false) in
    rw (long, of-udp, failed c.is_whole.ensures (ap not c.if-not-is_whole.true))

pub returns-then-not-holds-2 : goal.returns-then-not-holds-2
unfolding ipv4_in
returns-then-not-holds-2 c = let header : List ℕ = let a = c.args in drop a.at a.packet.now in
    let long : leb 20 (length (header)) ≡ true = passed c.holds.ensures (ap not c.if-not-holds.false) in
    let of-udp : is_ipv4_udp (header) ≡ true = passed c.is_udp.ensures (ap not c.if-not-is_udp.false) in
    let whole : is_ipv4_whole (header) ≡ true = passed c.is_whole.ensures (ap not c.if-not-is_whole.false) in
    rw (long, of-udp, whole, ← c.header_size-size.ensures, failed c.holds-2.ensures (ap not c.if-not-holds-2.true))

pub overflow_sub-total : goal.overflow_sub-total
overflow_sub-total c = let header : List ℕ = let a = c.args in drop a.at a.packet.now in
    let of-udp : is_ipv4_udp (header) ≡ true = passed c.is_udp.ensures (ap not c.if-not-is_udp.false) in
    omega (arith, ipv4-room (header) (of-udp), c.number-total.ensures, c.header_size-size.ensures)

pub udp_at-requires : goal.udp_at-requires
udp_at-requires c = let header : List ℕ = let a = c.args in drop a.at a.packet.now in
    let options : leb c.header_size-size.result (length (header)) ≡ true = passed c.holds-2.ensures (ap not c.if-not-holds-2.false) in
    held c.args.packet.now c.args.at c.header_size-size.result c.requires (options)

pub returns : goal.returns
unfolding ipv4_in
returns c = let header : List ℕ = let a = c.args in drop a.at a.packet.now in
    let long : leb 20 (length (header)) ≡ true = passed c.holds.ensures (ap not c.if-not-holds.false) in
    let of-udp : is_ipv4_udp (header) ≡ true = passed c.is_udp.ensures (ap not c.if-not-is_udp.false) in
    let whole : is_ipv4_whole (header) ≡ true = passed c.is_whole.ensures (ap not c.if-not-is_whole.false) in
    let options : leb c.header_size-size.result (length (header)) ≡ true = passed c.holds-2.ensures (ap not c.if-not-holds-2.false) in
    let a = c.args in
    rw (long, of-udp, whole, ← c.header_size-size.ensures, ← c.number-total.ensures, options)
    (c.udp_at.ensures ∙ beyond-at (udp_in a.port (c.number-total.result - c.header_size-size.result)) a.packet.now a.at c.header_size-size.result)

pub is_udp-requires : goal.is_udp-requires
is_udp-requires c = let header : List ℕ = let a = c.args in drop a.at a.packet.now in
    let long : leb 20 (length (header)) ≡ true = passed c.holds.ensures (ap not c.if-not-holds.false) in
    let captured : let a = c.args in a.at + 20 ≤ length a.packet.now = held c.args.packet.now c.args.at 20 c.requires (long) in
    captured

pub is_whole-requires : goal.is_whole-requires
is_whole-requires c = let header : List ℕ = let a = c.args in drop a.at a.packet.now in
    let long : leb 20 (length (header)) ≡ true = passed c.holds.ensures (ap not c.if-not-holds.false) in
    let captured : let a = c.args in a.at + 20 ≤ length a.packet.now = held c.args.packet.now c.args.at 20 c.requires (long) in
    captured

pub header_size-size-requires : goal.header_size-size-requires
header_size-size-requires c = let header : List ℕ = let a = c.args in drop a.at a.packet.now in
    let long : leb 20 (length (header)) ≡ true = passed c.holds.ensures (ap not c.if-not-holds.false) in
    let captured : let a = c.args in a.at + 20 ≤ length a.packet.now = held c.args.packet.now c.args.at 20 c.requires (long) in
    captured

pub number-total-requires : goal.number-total-requires
number-total-requires c = let header : List ℕ = let a = c.args in drop a.at a.packet.now in
    let long : leb 20 (length (header)) ≡ true = passed c.holds.ensures (ap not c.if-not-holds.false) in
    let captured : let a = c.args in a.at + 20 ≤ length a.packet.now = held c.args.packet.now c.args.at 20 c.requires (long) in
    omega (arith, captured)
