-- `check_frame` reports the frame at the front, where there is room and a whole frame.
-- By the room, and by what stands at the front, as for any program over frames (`program_spec` `FrameLaws`).
use borrow.Author.Tests.{not-true, not-false}
use mathlib.Core.Path.{◌≡◌, ap, sym, ◌∙◌}
use mathlib.Core.Bool.{Bool, not}
use mathlib.Core.List.{List}
use Prim.Native.Nat.{ℕ, ◌+◌, ◌-◌, ◌^◌, ◌<◌, ◌≤◌}
use native.Mathlib.Nat.{zero-add}
use native.Mathlib.Omega.{arith}
use lib.ListN.{length, take, drop}
use lib.Dec.{leb}
use Rattle.wire_spec.specs.Packet.{max_packet, read_content}
use Rattle.rtp_strict_reader.specs.Answers.{cells_after}
use Rattle.rtp_frames.specs.Frames.{front}
use Rattle.rtp_frames.proofs.FrameLaws.{FrameAt, frame_found, end-found, cut-found, end_short, cut_short}
use Rattle.program_spec.specs.Frames.{FrameProgram, over_frames}
use Rattle.program_spec.proofs.FrameLaws.{end-answers, cut-answers, frame-answers}
use Rattle.program_spec.proofs.StepLaws.{no_room}
use Rattle.streamcheck_session.specs.Answers.{cells_then, counted, streamcheck}
use Rattle.streamcheck_session.proofs.SessionLaws.{has_room}
use Rattle.streamcheck_lines.specs.Lines.{lines_room}
use Rattle.streamcheck_session.proofs.session.check_frame.Goals as goal

-- `streamcheck` with as many cells
abbrev with : (cells : ℕ) → FrameProgram
with cells = streamcheck (leb max_packet cells)

pub returns-then-not-is_roomy : goal.returns-then-not-is_roomy
returns-then-not-is_roomy c = let a = c.args in
    let b = sym c.is_roomy.ensures ∙ not-true c.is_roomy.result (ap not c.if-not-is_roomy.true) in
    record { answers = no_room (over_frames (with (length a.cells.now))) b; cells_after = sym (ap (λ (x : Bool). cells_then x a.session (front a.octets.now) a.cells.now) b) }

pub overflow_add-end : goal.overflow_add-end
overflow_add-end c = let found_at : FrameAt c.args.octets.now c.in-Packet.size = frame_found c.args.octets.now c.in-Packet.size (sym c.frame_at-front.ensures ∙ c.in-Packet.is) in
    omega (arith, (found_at).inside)

pub slice_bounds-report_packet-end : goal.slice_bounds-report_packet-end
slice_bounds-report_packet-end c = let found_at : FrameAt c.args.octets.now c.in-Packet.size = frame_found c.args.octets.now c.in-Packet.size (sym c.frame_at-front.ensures ∙ c.in-Packet.is) in
    (found_at).inside

pub report_packet-reply-requires : goal.report_packet-reply-requires
report_packet-reply-requires c = let roomy-here : let a = c.args in (max_packet ≤ length a.cells.now) × (lines_room ≤ length a.out.now) × (a.session.index < 2 ^ 64 - 1) = let a = c.args in
    has_room (length a.cells.now) (length a.out.now) a.session.index
    (sym c.is_roomy.ensures ∙ not-false c.is_roomy.result (ap not c.if-not-is_roomy.false)) in
    let h = roomy-here in
    (h.0, h.1)

pub count-requires : goal.count-requires
count-requires c = let roomy-here : let a = c.args in (max_packet ≤ length a.cells.now) × (lines_room ≤ length a.out.now) × (a.session.index < 2 ^ 64 - 1) = let a = c.args in
    has_room (length a.cells.now) (length a.out.now) a.session.index
    (sym c.is_roomy.ensures ∙ not-false c.is_roomy.result (ap not c.if-not-is_roomy.false)) in
    omega (arith, (roomy-here).2)

pub returns-in-End : goal.returns-in-End
returns-in-End c = let a = c.args in
    let s = a.octets.now in
    let b = (sym c.is_roomy.ensures ∙ not-false c.is_roomy.result (ap not c.if-not-is_roomy.false)) in
    let e = end-found (front s) (sym c.frame_at-front.ensures ∙ c.in-End.is) in
    record { answers = end-answers (with (length a.cells.now)) b e (end_short s (λ j. (c.shared_slice_known-1.given j).fits) e); cells_after = sym (λ i. cells_then (b i) a.session (e i) a.cells.now) }

pub returns-in-Cut : goal.returns-in-Cut
returns-in-Cut c = let a = c.args in
    let s = a.octets.now in
    let b = (sym c.is_roomy.ensures ∙ not-false c.is_roomy.result (ap not c.if-not-is_roomy.false)) in
    let e = cut-found (front s) (sym c.frame_at-front.ensures ∙ c.in-Cut.is) in
    record { answers = cut-answers (with (length a.cells.now)) b e (cut_short s (λ j. (c.shared_slice_known-1.given j).fits) e); cells_after = sym (λ i. cells_then (b i) a.session (e i) a.cells.now) }

pub returns-in-Packet : goal.returns-in-Packet
returns-in-Packet c = let found_at : FrameAt c.args.octets.now c.in-Packet.size = frame_found c.args.octets.now c.in-Packet.size (sym c.frame_at-front.ensures ∙ c.in-Packet.is) in
    let a = c.args in
    let s = a.octets.now in
    let b = (sym c.is_roomy.ensures ∙ not-false c.is_roomy.result (ap not c.if-not-is_roomy.false)) in
    let f = found_at in
    let e : take (2 + c.in-Packet.size - 2) (drop 2 s) ≡ take c.in-Packet.size (drop 2 s) = ap (λ (k : ℕ). take k (drop 2 s)) (let k : 2 + c.in-Packet.size - 2 ≡ c.in-Packet.size = omega arith in k) in
    let put = c.report_packet-reply.ensures.put in record { answers = frame-answers (with (length a.cells.now)) b c.in-Packet.size f e (c.count.ensures ∙ ap (counted a.session) c.report_packet-reply.ensures.checker_value) (put.behind ∙ zero-add _) put.octets (omega (arith, put.room, put.behind)); cells_after = c.report_packet-reply.ensures.cells_after ∙ ap (λ (q : List ℕ). cells_after (read_content a.session.layout q) a.cells.now) e ∙ sym (λ i. cells_then (b i) a.session (f.is i) a.cells.now) }
