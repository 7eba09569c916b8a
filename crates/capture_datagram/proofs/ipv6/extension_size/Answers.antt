-- `extension_size` is the octets of an extension header.
-- By the definition; its second octet is below 256.
use Prim.Native.Nat.{◌+◌, ◌<◌}
use native.Mathlib.Omega.{arith}
use borrow.Author.Tests.{eq-eqb, ne_eqb}
use lib.Seq.{get_or-drop}
use Rattle.capture_datagram.specs.Ip.{extension_size}
use Rattle.capture_datagram.proofs.ipv6.extension_size.Goals as goal

pub returns-then-next-eq-FRAGMENT : goal.returns-then-next-eq-FRAGMENT
unfolding extension_size
returns-then-next-eq-FRAGMENT c = rw (eq-eqb _ _ c.if-next-eq-FRAGMENT.true)

pub returns : goal.returns
unfolding extension_size
returns c = rw (ne_eqb _ _ c.if-next-eq-FRAGMENT.false, c.octet.ensures)

pub overflow_add-result : goal.overflow_add-result
overflow_add-result c = let small : c.octet.result < 256 = let a = c.args in
    omega (arith, c.octet.ensures, get_or-drop a.at a.packet.now 1 0, (c.type_inv.packet (a.at + 1)).fits) in
    omega (arith, small)

pub overflow_mul-result : goal.overflow_mul-result
overflow_mul-result c = let small : c.octet.result < 256 = let a = c.args in
    omega (arith, c.octet.ensures, get_or-drop a.at a.packet.now 1 0, (c.type_inv.packet (a.at + 1)).fits) in
    omega (arith, small)
