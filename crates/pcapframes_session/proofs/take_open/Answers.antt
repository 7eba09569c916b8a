-- `take_open` takes the item at the front.
-- By the item.
-- what was told of an item is told of the same item
use Rattle.std.specs.Prelude.{Ok, Err}
use mathlib.Core.Path.{◌≡◌, refl, ap, sym, subst, ◌∙◌}
use mathlib.Core.List.{List}
use Prim.Native.Nat.{ℕ, ◌+◌, ◌-◌}
use native.Mathlib.Omega.{arith}
use lib.ListN.{length, take, drop}
use Rattle.capture_spec.specs.declared.state.Item.{Item}
use Rattle.capture_spec.specs.Items.{Read}
use Rattle.capture_spec.specs.declared.state.Item.TheVariants as item
use Rattle.capture_spec.specs.Step.{Fits, behind}
use Rattle.program_spec.specs.Walk.{Front}
use Rattle.pcapframes_spec.specs.declared.session.Reply.{Reply}
use Rattle.pcapframes_spec.specs.declared.session.Session.{Session}
use Rattle.program_spec.specs.declared.buffers.Step.TheVariants as step
use Rattle.pcapframes_spec.specs.Session.{item_front, moved, out_after, packet_front, reply_of}
use Rattle.pcapframes_session.proofs.take_open.Goals as goal
use Rattle.capture_spec.specs.declared.state.Unread.TheVariants as unread

told : (port : ℕ) (s : Session) (o out out' : List ℕ) (r : Reply) (i j k : Read) → r ≡ reply_of s (item_front port s o j) → out' ≡ out_after (item_front port s o j) out → i ≡ j → i ≡ k
    → (r ≡ reply_of s (item_front port s o k)) × (out' ≡ out_after (item_front port s o k) out)
told port s o out out' r i j k f g e h =
    let q = ap (item_front port s o) (sym e ∙ h) in
    (f ∙ ap (reply_of s) q, g ∙ ap (λ (z : Front Session). out_after z out) q)

-- an item that is passed over
abbrev passed : Session → ℕ → Item → Reply
passed s n i = record { session = moved s (behind s.state (Ok i)); step = step.Taken n 0 }

same-passed : (s : Session) (n : ℕ) (i j : Item) (r : Reply) → r ≡ passed s n i → i ≡ j → r ≡ passed s n j
same-passed s n i j r f e = f ∙ ap (passed s n) e

pub overflow_add-end : goal.overflow_add-end
overflow_add-end c = let fits : Fits (Ok (item.Packet c.in-Packet.place c.in-Packet.used)) (length c.args.octets.now) = subst (λ (i : Read). Fits i (length c.args.octets.now)) (c.in-Ok.is ∙ ap Ok c.in-Packet.is) c.item_at-item.ensures.fits in
    omega (arith, (fits).1, (fits).2, c.well_formed)

pub slice_bounds-take_packet-end : goal.slice_bounds-take_packet-end
slice_bounds-take_packet-end c = let fits : Fits (Ok (item.Packet c.in-Packet.place c.in-Packet.used)) (length c.args.octets.now) = subst (λ (i : Read). Fits i (length c.args.octets.now)) (c.in-Ok.is ∙ ap Ok c.in-Packet.is) c.item_at-item.ensures.fits in
    omega (arith, (fits).1, (fits).2)

pub returns-in-Short : goal.returns-in-Short
returns-in-Short c = let a = c.args in let both = told a.port a.session a.octets.now a.out.now _ _ _ (Err unread.Short) _ refl refl (c.in-Err.is ∙ ap Err c.in-Short.is) c.item_at-item.ensures.value in record { value = both.0; out_after = both.1 }

pub returns-in-Refused : goal.returns-in-Refused
returns-in-Refused c = let a = c.args in let both = told a.port a.session a.octets.now a.out.now _ _ _ (Err (unread.Refused c.in-Refused.number)) _ (λ i. record { session = c.refuse.ensures i; step = step.Over }) refl (c.in-Err.is ∙ ap Err c.in-Refused.is) c.item_at-item.ensures.value in record { value = both.0; out_after = both.1 }

pub returns-in-Head : goal.returns-in-Head
returns-in-Head c = let a = c.args in let both = told a.port a.session a.octets.now a.out.now _ _ _ (Ok (item.Head c.in-Head.container c.in-Head.used)) _ (same-passed a.session _ _ _ _ c.pass.ensures c.in-Head.is) refl (c.in-Ok.is ∙ ap Ok c.in-Head.is) c.item_at-item.ensures.value in record { value = both.0; out_after = both.1 }

pub returns-in-Interface : goal.returns-in-Interface
returns-in-Interface c = let a = c.args in let both = told a.port a.session a.octets.now a.out.now _ _ _ (Ok (item.Interface c.in-Interface.link c.in-Interface.snap c.in-Interface.used)) _ (same-passed a.session _ _ _ _ c.pass-in-Interface.ensures c.in-Interface.is) refl (c.in-Ok.is ∙ ap Ok c.in-Interface.is) c.item_at-item.ensures.value in record { value = both.0; out_after = both.1 }

pub returns-in-Packet : goal.returns-in-Packet
returns-in-Packet c = let a = c.args in
    let s = a.session in
    let e : c.in-Packet.place.at + c.in-Packet.place.size - c.in-Packet.place.at ≡ c.in-Packet.place.size = omega arith in
    let q : packet_front a.port s c.in-Packet.used c.in-Packet.place.link (take (c.in-Packet.place.at + c.in-Packet.place.size - c.in-Packet.place.at) (drop c.in-Packet.place.at a.octets.now)) ≡ packet_front a.port s c.in-Packet.used c.in-Packet.place.link (take c.in-Packet.place.size (drop c.in-Packet.place.at a.octets.now)) =
    ap (λ (k : ℕ). packet_front a.port s c.in-Packet.used c.in-Packet.place.link (take k (drop c.in-Packet.place.at a.octets.now))) e in let both = told a.port s a.octets.now a.out.now _ _ _ (Ok (item.Packet c.in-Packet.place c.in-Packet.used)) _ (c.take_packet.ensures.value ∙ ap (reply_of s) q) (c.take_packet.ensures.out_after ∙ ap (λ (z : Front Session). out_after z a.out.now) q) (c.in-Ok.is ∙ ap Ok c.in-Packet.is) c.item_at-item.ensures.value in record { value = both.0; out_after = both.1 }

pub returns-in-Other : goal.returns-in-Other
returns-in-Other c = let a = c.args in let both = told a.port a.session a.octets.now a.out.now _ _ _ (Ok (item.Other c.in-Other.used)) _ (same-passed a.session _ _ _ _ c.pass-in-Other.ensures c.in-Other.is) refl (c.in-Ok.is ∙ ap Ok c.in-Other.is) c.item_at-item.ensures.value in record { value = both.0; out_after = both.1 }
