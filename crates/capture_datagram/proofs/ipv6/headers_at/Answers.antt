use Rattle.std.specs.Prelude.{Ok}
use mathlib.Core.Path.{◌≡◌, refl, ap, sym, ◌∙◌}
use mathlib.Core.Bool.{true}
use Prim.Native.Nat.{ℕ, ◌+◌, ◌-◌, ◌≤◌}
use native.Mathlib.Omega.{arith}
use lib.ListN.{length, drop, length-drop}
use Rattle.capture_datagram.specs.Answer.{beyond}
use Rattle.capture_datagram.specs.Ip.{is_extension, extension_in, headers}
use Rattle.capture_datagram.proofs.FieldLaws.{beyond-at}
use Rattle.capture_datagram.proofs.IpLaws.{Whole, whole-extension, ends_nowhere, headers-udp, headers-end, headers-next}
use Rattle.capture_datagram.proofs.ipv6.headers_at.Goals as goal

pub loop-header-init : goal.loop-header-init
loop-header-init c = (c.requires, refl)

pub returns-in-Err : goal.returns-in-Err
returns-in-Err c = let extends : is_extension c.loop-header.next ≡ true = sym c.is_extension.ensures ∙ c.loop-header-test.true in
    let l = c.loop-header in
    let a = c.args in
    let f = c.in-Err.found in
    let e = sym c.extension_at-header.ensures ∙ c.in-Err.is in
    let t = drop l.at a.packet.now in
    sym (ends_nowhere l.next l.room t f e l.at)
    ∙ ap (beyond l.at) (sym (headers-end a.port l.next l.room t f (extends) e)) ∙ l.invariant.1

pub octet-next-requires : goal.octet-next-requires
octet-next-requires c = let here : let l = c.loop-header in extension_in l.next l.room (drop l.at c.args.packet.now) ≡ Ok c.in-Ok.size = sym c.extension_at-header.ensures ∙ c.in-Ok.is in
    let whole : let l = c.loop-header in Whole l.next l.room (drop l.at c.args.packet.now) c.in-Ok.size = whole-extension _ _ _ _ (here) in
    let inside : c.loop-header.at + c.in-Ok.size ≤ length c.args.packet.now = omega (arith, (whole).inside, length-drop c.loop-header.at c.args.packet.now, c.loop-header.invariant.0) in
    omega (arith, inside, (whole).some)

pub overflow_add-at : goal.overflow_add-at
overflow_add-at c = let here : let l = c.loop-header in extension_in l.next l.room (drop l.at c.args.packet.now) ≡ Ok c.in-Ok.size = sym c.extension_at-header.ensures ∙ c.in-Ok.is in
    let whole : let l = c.loop-header in Whole l.next l.room (drop l.at c.args.packet.now) c.in-Ok.size = whole-extension _ _ _ _ (here) in
    let inside : c.loop-header.at + c.in-Ok.size ≤ length c.args.packet.now = omega (arith, (whole).inside, length-drop c.loop-header.at c.args.packet.now, c.loop-header.invariant.0) in
    omega (arith, inside, c.well_formed)

pub overflow_sub-room : goal.overflow_sub-room
overflow_sub-room c = let here : let l = c.loop-header in extension_in l.next l.room (drop l.at c.args.packet.now) ≡ Ok c.in-Ok.size = sym c.extension_at-header.ensures ∙ c.in-Ok.is in
    let whole : let l = c.loop-header in Whole l.next l.room (drop l.at c.args.packet.now) c.in-Ok.size = whole-extension _ _ _ _ (here) in
    (whole).within

pub loop-header-smaller : goal.loop-header-smaller
loop-header-smaller c = let here : let l = c.loop-header in extension_in l.next l.room (drop l.at c.args.packet.now) ≡ Ok c.in-Ok.size = sym c.extension_at-header.ensures ∙ c.in-Ok.is in
    let whole : let l = c.loop-header in Whole l.next l.room (drop l.at c.args.packet.now) c.in-Ok.size = whole-extension _ _ _ _ (here) in
    let inside : c.loop-header.at + c.in-Ok.size ≤ length c.args.packet.now = omega (arith, (whole).inside, length-drop c.loop-header.at c.args.packet.now, c.loop-header.invariant.0) in
    omega (arith, inside, (whole).some)

pub loop-header-preserved : goal.loop-header-preserved
loop-header-preserved c = let extends : is_extension c.loop-header.next ≡ true = sym c.is_extension.ensures ∙ c.loop-header-test.true in
    let here : let l = c.loop-header in extension_in l.next l.room (drop l.at c.args.packet.now) ≡ Ok c.in-Ok.size = sym c.extension_at-header.ensures ∙ c.in-Ok.is in
    let whole : let l = c.loop-header in Whole l.next l.room (drop l.at c.args.packet.now) c.in-Ok.size = whole-extension _ _ _ _ (here) in
    let inside : c.loop-header.at + c.in-Ok.size ≤ length c.args.packet.now = omega (arith, (whole).inside, length-drop c.loop-header.at c.args.packet.now, c.loop-header.invariant.0) in
    let l = c.loop-header in
    let a = c.args in
    let n = c.in-Ok.size in
    let t = drop l.at a.packet.now in (
      inside,
      beyond-at (headers a.port c.octet-next.result (l.room - n)) a.packet.now l.at n
          ∙ ap (λ (x : ℕ). beyond l.at (beyond n (headers a.port x (l.room - n) (drop n t)))) c.octet-next.ensures
          ∙ ap (beyond l.at) (sym (headers-next a.port l.next l.room t n (extends) (here)))
          ∙ l.invariant.1,
    )

pub returns : goal.returns
returns c = let l = c.loop-header in
    let a = c.args in
    let t = drop l.at a.packet.now in
    let last = sym c.is_extension.ensures ∙ c.loop-header-test.false in
    c.udp_at.ensures ∙ ap (beyond l.at) (sym (headers-udp a.port l.next l.room t last)) ∙ l.invariant.1
