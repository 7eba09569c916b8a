-- `take_found` puts the frame of a payload that was found.
-- By what was found.
use mathlib.Core.Path.{◌≡◌, ap, sym, subst, ◌∙◌}
use mathlib.Core.List.{List}
use Prim.Native.Nat.{ℕ, ◌+◌, ◌-◌, ◌≤◌}
use native.Mathlib.Omega.{arith}
use lib.ListN.{length, take, drop, length-drop}
use lib.Seq.{length-take-le}
use Rattle.capture_datagram.specs.declared.answer.Found.{Found}
use Rattle.capture_datagram.specs.declared.answer.Found.TheVariants as found
use Rattle.program_spec.specs.declared.buffers.Step.TheVariants as step
use Rattle.pcapframes_spec.specs.Session.{FoundFits, found_front, out_after, reply_of}
use Rattle.pcapframes_session.proofs.take_found.Goals as goal

part-size : (packet : List ℕ) (a b : ℕ) → a ≤ b → b ≤ length packet → length (take (b - a) (drop a packet)) ≡ b - a
part-size packet a b h k = length-take-le (b - a) (drop a packet) (rw (length-drop a packet) (omega arith))

pub slice_bounds-put_frame-count : goal.slice_bounds-put_frame-count
slice_bounds-put_frame-count c = let fits : FoundFits (found.Frame c.in-Frame.start c.in-Frame.end) (length c.args.packet.now) (length c.args.out.now) = subst (λ (f : Found). FoundFits f (length c.args.packet.now) (length c.args.out.now)) c.in-Frame.is c.requires.1 in
    (fits).0

pub slice_bounds-put_frame-start : goal.slice_bounds-put_frame-start
slice_bounds-put_frame-start c = let fits : FoundFits (found.Frame c.in-Frame.start c.in-Frame.end) (length c.args.packet.now) (length c.args.out.now) = subst (λ (f : Found). FoundFits f (length c.args.packet.now) (length c.args.out.now)) c.in-Frame.is c.requires.1 in
    (fits).0

pub slice_bounds-put_frame-end : goal.slice_bounds-put_frame-end
slice_bounds-put_frame-end c = let fits : FoundFits (found.Frame c.in-Frame.start c.in-Frame.end) (length c.args.packet.now) (length c.args.out.now) = subst (λ (f : Found). FoundFits f (length c.args.packet.now) (length c.args.out.now)) c.in-Frame.is c.requires.1 in
    (fits).1

pub put_frame-length-requires : goal.put_frame-length-requires
put_frame-length-requires c = let fits : FoundFits (found.Frame c.in-Frame.start c.in-Frame.end) (length c.args.packet.now) (length c.args.out.now) = subst (λ (f : Found). FoundFits f (length c.args.packet.now) (length c.args.out.now)) c.in-Frame.is c.requires.1 in
    let f = fits in
    let l = part-size c.args.packet.now c.in-Frame.start c.in-Frame.end f.0 f.1 in
    (omega (arith, l, f.0, f.2), omega (arith, l, f.0, f.3))

size : {n m : ℕ} → n ≡ 0 + m → n ≡ m
size e = omega arith

pub returns-in-Frame : goal.returns-in-Frame
returns-in-Frame c = let a = c.args in
    record {
      value = (λ i. record { session = c.count.ensures i; step = step.Taken a.used (size c.put_frame-length.ensures.behind i) })
          ∙ ap (λ (f : Found). reply_of a.session (found_front a.session a.used a.packet.now f)) (sym c.in-Frame.is);
      out_after = c.put_frame-length.ensures.octets ∙ ap (λ (f : Found). out_after (found_front a.session a.used a.packet.now f) a.out.now) (sym c.in-Frame.is);
    }

pub returns-in-Passed : goal.returns-in-Passed
returns-in-Passed c = let a = c.args in
    record { value = (λ i. record { session = c.count-in-Passed.ensures i; step = step.Taken a.used 0 }) ∙ ap (λ (f : Found). reply_of a.session (found_front a.session a.used a.packet.now f)) (sym c.in-Passed.is); out_after = ap (λ (f : Found). out_after (found_front a.session a.used a.packet.now f) a.out.now) (sym c.in-Passed.is) }

pub returns-in-Fragment : goal.returns-in-Fragment
returns-in-Fragment c = let a = c.args in
    record { value = (λ i. record { session = c.count-in-Fragment.ensures i; step = step.Taken a.used 0 }) ∙ ap (λ (f : Found). reply_of a.session (found_front a.session a.used a.packet.now f)) (sym c.in-Fragment.is); out_after = ap (λ (f : Found). out_after (found_front a.session a.used a.packet.now f) a.out.now) (sym c.in-Fragment.is) }

pub returns-in-Cut : goal.returns-in-Cut
returns-in-Cut c = let a = c.args in
    record { value = (λ i. record { session = c.count-in-Cut.ensures i; step = step.Taken a.used 0 }) ∙ ap (λ (f : Found). reply_of a.session (found_front a.session a.used a.packet.now f)) (sym c.in-Cut.is); out_after = ap (λ (f : Found). out_after (found_front a.session a.used a.packet.now f) a.out.now) (sym c.in-Cut.is) }
