-- `file_frame` files the frame at the front, where there is room and a whole frame.
-- By the room, and by what stands at the front, as for any program over frames (`program_spec` `FrameLaws`).
use borrow.Author.Tests.{lt-leb, le-leb}
use mathlib.Core.Path.{◌≡◌, ap, sym, ◌∙◌}
use Prim.Native.Nat.{ℕ, ◌+◌, ◌-◌}
use native.Mathlib.Nat.{zero-add}
use native.Mathlib.Omega.{arith}
use lib.ListN.{length, take, drop}
use Rattle.rtp_frames.specs.Frames.{front}
use Rattle.rtp_frames.proofs.FrameLaws.{FrameAt, frame_found, end-found, cut-found, end_short, cut_short}
use Rattle.program_spec.specs.Frames.{over_frames}
use Rattle.program_spec.proofs.FrameLaws.{end-answers, cut-answers, frame-answers}
use Rattle.program_spec.proofs.StepLaws.{no_room}
use Rattle.fieldsave_session.specs.Answers.{fieldsave}
use Rattle.fieldsave_session.specs.Filing.{field_room}
use Rattle.fieldsave_session.proofs.file_frame.Goals as goal

pub returns-then-out-lt-FIELD_ROOM : goal.returns-then-out-lt-FIELD_ROOM
returns-then-out-lt-FIELD_ROOM c = no_room (over_frames fieldsave) (lt-leb field_room (length c.args.out.now) c.if-out-lt-FIELD_ROOM.true)

pub overflow_add-end : goal.overflow_add-end
overflow_add-end c = let found_at : FrameAt c.args.octets.now c.in-Packet.size = frame_found c.args.octets.now c.in-Packet.size (sym c.frame_at-front.ensures ∙ c.in-Packet.is) in
    omega (arith, (found_at).inside)

pub slice_bounds-file_packet-end : goal.slice_bounds-file_packet-end
slice_bounds-file_packet-end c = let found_at : FrameAt c.args.octets.now c.in-Packet.size = frame_found c.args.octets.now c.in-Packet.size (sym c.frame_at-front.ensures ∙ c.in-Packet.is) in
    (found_at).inside

pub returns-in-End : goal.returns-in-End
returns-in-End c = let s = c.args.octets.now in
    let e = end-found (front s) (sym c.frame_at-front.ensures ∙ c.in-End.is) in
    end-answers fieldsave (le-leb field_room (length c.args.out.now) c.if-out-lt-FIELD_ROOM.false) e (end_short s (λ j. (c.shared_slice_known-1.given j).fits) e)

pub returns-in-Cut : goal.returns-in-Cut
returns-in-Cut c = let s = c.args.octets.now in
    let e = cut-found (front s) (sym c.frame_at-front.ensures ∙ c.in-Cut.is) in
    cut-answers fieldsave (le-leb field_room (length c.args.out.now) c.if-out-lt-FIELD_ROOM.false) e (cut_short s (λ j. (c.shared_slice_known-1.given j).fits) e)

pub returns-in-Packet : goal.returns-in-Packet
returns-in-Packet c = let found_at : FrameAt c.args.octets.now c.in-Packet.size = frame_found c.args.octets.now c.in-Packet.size (sym c.frame_at-front.ensures ∙ c.in-Packet.is) in
    let a = c.args in
    let s = a.octets.now in
    let e : take (2 + c.in-Packet.size - 2) (drop 2 s) ≡ take c.in-Packet.size (drop 2 s) = ap (λ (k : ℕ). take k (drop 2 s)) (let k : 2 + c.in-Packet.size - 2 ≡ c.in-Packet.size = omega arith in k) in
    let put = c.file_packet-reply.ensures.put in
    frame-answers fieldsave (le-leb field_room (length a.out.now) c.if-out-lt-FIELD_ROOM.false) c.in-Packet.size (found_at) e (λ i. (c.file_packet-reply.ensures.session_value i, c.file_packet-reply.ensures.store_after i)) (put.behind ∙ zero-add _) put.octets (omega (arith, put.room, put.behind))
