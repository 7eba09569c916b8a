-- `list_frame` lists the frame at the front, where there is room and a whole frame.
-- By the room, and by what stands at the front, as for any program over frames (`program_spec` `FrameLaws`).
use borrow.Author.Tests.{not-true, not-false, leb-true}
use mathlib.Core.Path.{◌≡◌, ap, sym, ◌∙◌}
use Prim.Native.Nat.{ℕ, ◌+◌, ◌*◌, ◌-◌}
use native.Mathlib.Nat.{zero-add}
use native.Mathlib.Omega.{arith}
use lib.ListN.{length, take, drop}
use Rattle.rtp_frames.specs.Frames.{front}
use Rattle.rtp_frames.proofs.FrameLaws.{FrameAt, frame_found, end-found, cut-found, end_short, cut_short}
use Rattle.fieldlist_lines.specs.Room.{line_room}
use Rattle.fieldlist_records.specs.Records.{cell_room}
use Rattle.program_spec.specs.Frames.{over_frames}
use Rattle.program_spec.proofs.FrameLaws.{end-answers, cut-answers, frame-answers}
use Rattle.program_spec.proofs.StepLaws.{no_room}
use Rattle.fieldlist_session.specs.Answers.{fieldlist}
use mathlib.Core.Bool.{not}
use Rattle.fieldlist_session.proofs.session.list_frame.Goals as goal

pub returns-then-not-is_roomy : goal.returns-then-not-is_roomy
returns-then-not-is_roomy c = no_room (over_frames fieldlist) (sym c.is_roomy.ensures ∙ not-true c.is_roomy.result (ap not c.if-not-is_roomy.true))

pub overflow_add-end : goal.overflow_add-end
overflow_add-end c = let found_at : FrameAt c.args.octets.now c.in-Packet.size = frame_found c.args.octets.now c.in-Packet.size (sym c.frame_at-front.ensures ∙ c.in-Packet.is) in
    omega (arith, (found_at).inside)

pub slice_bounds-list_packet-end : goal.slice_bounds-list_packet-end
slice_bounds-list_packet-end c = let found_at : FrameAt c.args.octets.now c.in-Packet.size = frame_found c.args.octets.now c.in-Packet.size (sym c.frame_at-front.ensures ∙ c.in-Packet.is) in
    (found_at).inside

pub list_packet-reply-requires : goal.list_packet-reply-requires
list_packet-reply-requires c = leb-true (line_room + cell_room * length c.args.store.now) (length c.args.out.now) (sym c.is_roomy.ensures ∙ not-false c.is_roomy.result (ap not c.if-not-is_roomy.false))

pub returns-in-End : goal.returns-in-End
returns-in-End c = let s = c.args.octets.now in
    let e = end-found (front s) (sym c.frame_at-front.ensures ∙ c.in-End.is) in
    end-answers fieldlist (sym c.is_roomy.ensures ∙ not-false c.is_roomy.result (ap not c.if-not-is_roomy.false)) e (end_short s (λ j. (c.shared_slice_known-1.given j).fits) e)

pub returns-in-Cut : goal.returns-in-Cut
returns-in-Cut c = let s = c.args.octets.now in
    let e = cut-found (front s) (sym c.frame_at-front.ensures ∙ c.in-Cut.is) in
    cut-answers fieldlist (sym c.is_roomy.ensures ∙ not-false c.is_roomy.result (ap not c.if-not-is_roomy.false)) e (cut_short s (λ j. (c.shared_slice_known-1.given j).fits) e)

pub returns-in-Packet : goal.returns-in-Packet
returns-in-Packet c = let found_at : FrameAt c.args.octets.now c.in-Packet.size = frame_found c.args.octets.now c.in-Packet.size (sym c.frame_at-front.ensures ∙ c.in-Packet.is) in
    let s = c.args.octets.now in
    let e : take (2 + c.in-Packet.size - 2) (drop 2 s) ≡ take c.in-Packet.size (drop 2 s) = ap (λ (k : ℕ). take k (drop 2 s)) (let k : 2 + c.in-Packet.size - 2 ≡ c.in-Packet.size = omega arith in k) in
    let put = c.list_packet-reply.ensures.put in
    frame-answers fieldlist (sym c.is_roomy.ensures ∙ not-false c.is_roomy.result (ap not c.if-not-is_roomy.false)) c.in-Packet.size (found_at) e (λ i. (c.list_packet-reply.ensures.session_value i, c.list_packet-reply.ensures.store_after i)) (put.behind ∙ zero-add _) put.octets (omega (arith, put.room, put.behind))
