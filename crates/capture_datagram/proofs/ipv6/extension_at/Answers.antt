-- `extension_at` tells what an extension header is.
-- Each return knows the tests before it, in the order of the definition.
use mathlib.Core.Path.{◌≡◌, ap}
use mathlib.Core.Bool.{true, ◌&&◌, not}
use mathlib.Core.List.{List}
use Prim.Native.Nat.{ℕ, ◌+◌, ◌≤◌}
use native.Mathlib.Omega.{arith}
use borrow.Author.Tests.{le-leb, lt-leb}
use lib.Dec.{leb}
use lib.ListN.{length, drop, get_or}
use Rattle.capture_datagram.specs.Ip.{extension_in, extension_size, leads_to_udp}
use Rattle.capture_datagram.proofs.FieldLaws.{passed, failed, held}
use Rattle.capture_datagram.proofs.ipv6.extension_at.Goals as goal

pub returns-then-room-lt-UNIT : goal.returns-then-room-lt-UNIT
unfolding extension_in
returns-then-room-lt-UNIT c = rw (lt-leb _ _ c.if-room-lt-UNIT.true)

pub returns-then-not-holds : goal.returns-then-not-holds
unfolding extension_in
returns-then-not-holds c = rw (le-leb _ _ c.if-room-lt-UNIT.false, failed c.holds.ensures (ap not c.if-not-holds.true))

pub returns-then-not-leads_to_udp-size : goal.returns-then-not-leads_to_udp-size
unfolding extension_in
returns-then-not-leads_to_udp-size c = let header : List ℕ = let a = c.args in drop a.at a.packet.now in
    let roomy : leb 8 c.args.room ≡ true = le-leb _ _ c.if-room-lt-UNIT.false in
    let long : leb 8 (length (header)) ≡ true = passed c.holds.ensures (ap not c.if-not-holds.false) in
    let third : let size = c.extension_size-size.result in let a = c.args in c.leads_to_udp.result && leb size a.room ≡ leads_to_udp (get_or (header) 0 0) && leb (extension_size a.next (header)) a.room = rw (c.leads_to_udp.ensures, c.octet-behind.ensures, c.extension_size-size.ensures) in
    rw (roomy, long, failed (third) (ap not c.if-not-leads_to_udp-size.true))

pub returns-then-not-is_whole : goal.returns-then-not-is_whole
unfolding extension_in
returns-then-not-is_whole c = let header : List ℕ = let a = c.args in drop a.at a.packet.now in
    let roomy : leb 8 c.args.room ≡ true = le-leb _ _ c.if-room-lt-UNIT.false in
    let long : leb 8 (length (header)) ≡ true = passed c.holds.ensures (ap not c.if-not-holds.false) in
    let third : let size = c.extension_size-size.result in let a = c.args in c.leads_to_udp.result && leb size a.room ≡ leads_to_udp (get_or (header) 0 0) && leb (extension_size a.next (header)) a.room = rw (c.leads_to_udp.ensures, c.octet-behind.ensures, c.extension_size-size.ensures) in
    let leading : let a = c.args in leads_to_udp (get_or (header) 0 0) && leb (extension_size a.next (header)) a.room ≡ true = passed (third) (ap not c.if-not-leads_to_udp-size.false) in
    rw (roomy, long, leading, failed c.is_whole.ensures (ap not c.if-not-is_whole.true))

pub returns-then-not-holds-2 : goal.returns-then-not-holds-2
unfolding extension_in
returns-then-not-holds-2 c = let header : List ℕ = let a = c.args in drop a.at a.packet.now in
    let roomy : leb 8 c.args.room ≡ true = le-leb _ _ c.if-room-lt-UNIT.false in
    let long : leb 8 (length (header)) ≡ true = passed c.holds.ensures (ap not c.if-not-holds.false) in
    let third : let size = c.extension_size-size.result in let a = c.args in c.leads_to_udp.result && leb size a.room ≡ leads_to_udp (get_or (header) 0 0) && leb (extension_size a.next (header)) a.room = rw (c.leads_to_udp.ensures, c.octet-behind.ensures, c.extension_size-size.ensures) in
    let leading : let a = c.args in leads_to_udp (get_or (header) 0 0) && leb (extension_size a.next (header)) a.room ≡ true = passed (third) (ap not c.if-not-leads_to_udp-size.false) in
    rw (
      roomy,
      long,
      leading,
      passed c.is_whole.ensures (ap not c.if-not-is_whole.false),
      ← c.extension_size-size.ensures,
      failed c.holds-2.ensures (ap not c.if-not-holds-2.true),
    )

pub returns : goal.returns
unfolding extension_in
returns c = let header : List ℕ = let a = c.args in drop a.at a.packet.now in
    let roomy : leb 8 c.args.room ≡ true = le-leb _ _ c.if-room-lt-UNIT.false in
    let long : leb 8 (length (header)) ≡ true = passed c.holds.ensures (ap not c.if-not-holds.false) in
    let third : let size = c.extension_size-size.result in let a = c.args in c.leads_to_udp.result && leb size a.room ≡ leads_to_udp (get_or (header) 0 0) && leb (extension_size a.next (header)) a.room = rw (c.leads_to_udp.ensures, c.octet-behind.ensures, c.extension_size-size.ensures) in
    let leading : let a = c.args in leads_to_udp (get_or (header) 0 0) && leb (extension_size a.next (header)) a.room ≡ true = passed (third) (ap not c.if-not-leads_to_udp-size.false) in
    rw (
      roomy,
      long,
      leading,
      passed c.is_whole.ensures (ap not c.if-not-is_whole.false),
      ← c.extension_size-size.ensures,
      passed c.holds-2.ensures (ap not c.if-not-holds-2.false),
    )

pub extension_size-size-requires : goal.extension_size-size-requires
extension_size-size-requires c = let header : List ℕ = let a = c.args in drop a.at a.packet.now in
    let long : leb 8 (length (header)) ≡ true = passed c.holds.ensures (ap not c.if-not-holds.false) in
    let captured : let a = c.args in a.at + 8 ≤ length a.packet.now = held c.args.packet.now c.args.at 8 c.requires (long) in
    captured

pub octet-behind-requires : goal.octet-behind-requires
octet-behind-requires c = let header : List ℕ = let a = c.args in drop a.at a.packet.now in
    let long : leb 8 (length (header)) ≡ true = passed c.holds.ensures (ap not c.if-not-holds.false) in
    let captured : let a = c.args in a.at + 8 ≤ length a.packet.now = held c.args.packet.now c.args.at 8 c.requires (long) in
    omega (arith, captured)

pub is_whole-requires : goal.is_whole-requires
is_whole-requires c = let header : List ℕ = let a = c.args in drop a.at a.packet.now in
    let long : leb 8 (length (header)) ≡ true = passed c.holds.ensures (ap not c.if-not-holds.false) in
    let captured : let a = c.args in a.at + 8 ≤ length a.packet.now = held c.args.packet.now c.args.at 8 c.requires (long) in
    captured
