-- The last line of `streamcheck`, where there is room.
-- By the room.
use Rattle.wire_spec.specs.Result.{Result}
use mathlib.Core.Path.{◌≡◌, refl, ap, subst, ◌∙◌}
use mathlib.Core.Bool.{Bool, true}
use mathlib.Core.List.{List}
use Prim.Native.Nat.{ℕ, ◌+◌, ◌-◌, ◌^◌, ◌<◌, ◌≤◌}
use native.Mathlib.Omega.{arith}
use borrow.Author.Tests.{le-leb, lt-ltb}
use lib.Dec.{leb}
use lib.ListN.{length}
use Rattle.wire_spec.specs.Packet.{max_packet}
use Rattle.program_spec.specs.declared.buffers.Step.{Step as Answer}
use Rattle.program_spec.specs.Frames.{over_frames}
use Rattle.program_spec.specs.Run.{Answers}
use Rattle.program_spec.proofs.StepLaws.{Put, text-put}
use Rattle.streamcheck_session.specs.declared.session.Session.{Session}
use Rattle.streamcheck_session.specs.Answers.{roomy, streamcheck, text_after, text_of}
use Rattle.streamcheck_lines.specs.Lines.{lines_room}
use Rattle.streamcheck_turns.specs.Turns.{Enough, octets_of, program}

-- a text that there is room for is put
pub room-put : (t out out' : List ℕ) (x : Result ℕ) (n : ℕ) → lines_room ≤ length out → x ≡ text_of (leb lines_room (length out)) t → out' ≡ text_after (leb lines_room (length out)) t out
    → n ≡ octets_of x → Put t out out' n
room-put t out out' x n h e o k =
    let b = le-leb lines_room (length out) h in
    text-put t out (o ∙ ap (λ (r : Bool). text_after r t out) b) (k ∙ ap octets_of e ∙ ap (λ (r : Bool). octets_of (text_of r t)) b)

-- and the frame can be counted
pub room-for-frame : {i s o : ℕ} → Enough i s o → (index : ℕ) → index + 1 < 2 ^ 64 → roomy true o index ≡ true
room-for-frame {o = o} e index h = rw (le-leb lines_room o e.text, lt-ltb index (2 ^ 64 - 1) (omega arith)) refl

-- with the cells of any packet, what `check_frame` answers is by the room for its lines
pub with-cells : {c most : ℕ} {s s' : Session} {octets out out' : List ℕ} {y : Answer} → max_packet ≤ c
    → Answers (over_frames (streamcheck (leb max_packet c))) most s octets out y s' out' → Answers program most s octets out y s' out'
with-cells {c = c} {most = most} {s = s} {s' = s'} {octets = octets} {out = out} {out' = out'} {y = y} e =
    subst (λ (b : Bool). Answers (over_frames (streamcheck b)) most s octets out y s' out') (le-leb max_packet c e)
