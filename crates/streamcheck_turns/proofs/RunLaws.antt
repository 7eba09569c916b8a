-- THE WHOLE OUTPUT of `streamcheck` is the report on what was read.
-- It prints frame by frame, as any program over frames does (`program_spec` `FrameLaws`, `RunLaws`).
use mathlib.Core.Path.{ap, ◌∙◌}
use mathlib.Core.Bool.{true}
use mathlib.Core.List.{List}
use Prim.Native.Nat.{ℕ, ◌+◌, ◌^◌, ◌<◌, ◌≤◌}
use native.Mathlib.Omega.{arith}
use lib.ListN.{length}
use Rattle.wire_spec.specs.Layout.{Layout}
use Rattle.wire_spec.specs.Packet.{max_packet}
use Rattle.rtp_frames.specs.Frames.{max_frame}
use Rattle.program_spec.specs.declared.buffers.Buffers.{Buffers}
use Rattle.program_spec.specs.Run.{At, Closed, Ended, Ready, Started, turning}
use Rattle.program_spec.specs.Turns.{Lasts, Passed, Stopped, max_turns, turns_of}
use Rattle.program_spec.proofs.FrameLaws.{Prints, frame-counts, lawful, walk_is}
use Rattle.program_spec.proofs.RunLaws.{run-ended}
use Rattle.program_spec.proofs.TurnLaws.{counts-turns}
use Rattle.streamcheck_spec.specs.Text.{stream_text}
use Rattle.streamcheck_spec.proofs.StreamLaws.{whole-input}
use Rattle.streamcheck_session.specs.declared.session.Session.{Session}
use Rattle.streamcheck_session.specs.Answers.{begun, remaining, streamcheck}
use Rattle.streamcheck_session.proofs.SessionLaws.{next-lines, last-line-is}
use Rattle.streamcheck_turns.specs.Turns.{Enough, program}
use Rattle.streamcheck_turns.proofs.TurnLaws.{room-for-frame}

prints : Prints (streamcheck true) remaining
prints = record { next = next-lines; last = last-line-is }

-- the index is at most the turns that were made, and the index at the start
pub index-made : {from here : At Session} {read written : List ℕ} (p : Passed (turning program) from read written here)
    → here.state.index ≤ from.state.index + turns_of (turning program) p
index-made p = counts-turns (turning program) (λ (a : At Session). a.state.index) (frame-counts (streamcheck true) (λ (v : Session). v.index) (λ v q. omega arith)) p

-- while a turn is left, one frame more can be counted
pub lasts : (L : Layout) {from : At Session} {i c o : ℕ} → Started program (begun L) from → Enough i c o
    → Lasts (turning program) max_turns from (Ready program max_frame (λ s cells. s) (λ s cells. max_packet ≤ length cells) i c o)
lasts L t e read written here p left session cells size carried =
    let counted : here.state.index + 1 < 2 ^ 64 = omega (arith, index-made p, ap (λ (s : Session). s.index) t.state, left) in
    (record { item = e.frame; text = room-for-frame e here.state.index counted }, omega (arith, size, e.cells))

pub ended : (L : Layout) {from here : At Session} → Started program (begun L) from → Stopped (turning program) max_turns from here
    → {r : Buffers} {out' : List ℕ} → Closed program here r out'
    → Ended program (stream_text L) (begun L) here out' r
ended L = run-ended program (lawful (streamcheck true)) (stream_text L) (λ l. whole-input L l ∙ walk_is (streamcheck true) remaining prints (begun L) l)
