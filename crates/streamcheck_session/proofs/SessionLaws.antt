-- THE PROGRAM'S LOOP: what is printed for an input, frame by frame, whatever part of it has been read.
-- `check_frame` and `finish` promise the texts on the right.
use mathlib.Core.Path.{◌≡◌, ap, sym, ◌∙◌}
use mathlib.Core.Bool.{true, ◌&&◌}
use mathlib.Core.List.{List, ◌++◌}
use Prim.Native.Nat.{ℕ, suc, ◌+◌, ◌-◌, ◌^◌, ◌<◌, ◌≤◌}
use borrow.Author.Tests.{leb-true, ltb-true}
use lib.Dec.{leb, ltb}
use native.Mathlib.Numerals.{add-one}
use Rattle.wire_spec.specs.Packet.{max_packet}
use Rattle.wire_spec.proofs.ResultLaws.{and-true}
use Rattle.rtp_frames.specs.Frames.{frame, front, is_broken}
use Rattle.streamcheck_spec.specs.Code.{turn}
use Rattle.streamcheck_spec.specs.Text as text
use Rattle.streamcheck_spec.proofs.StreamLaws.{next-frame, last_line}
use Rattle.streamcheck_session.specs.declared.session.Session.{Session}
use Rattle.streamcheck_session.specs.Answers.{behind, packet_text, remaining, roomy}
use Rattle.streamcheck_lines.specs.Lines.{cut_text, lines_room}
use Rattle.streamcheck_lines.proofs.LineLaws.{cut-text}

-- a frame that was read gives its packet's lines, and then what is printed for the rest, read or not
pub next-lines : (s : Session) (read unread p rest : List ℕ) → front read ≡ frame p rest
    → remaining s (read ++ unread) ≡ packet_text s p ++ remaining (behind s p) (rest ++ unread)
unfolding packet_text
next-lines s read unread p rest e =
    let st = (turn s.layout s.checker p).checker in
    next-frame s.layout s.index s.checker read unread p rest e
    ∙ ap (λ (i : ℕ). packet_text s p ++ text.remaining s.layout i st (rest ++ unread)) (let a : suc s.index ≡ s.index + 1 = sym (add-one s.index) in a)

-- no frame in all that is left: nothing, or the line of a frame that is cut
pub last-line-is : (s : Session) (left : List ℕ) → ((p rest : List ℕ) → front left ≡ frame p rest → ⊥)
    → remaining s left ≡ cut_text (is_broken (front left)) s.index
last-line-is s left h = last_line s.layout s.index s.checker left h ∙ cut-text (is_broken (front left)) s.index

-- room for any packet's records and for its lines, and the frame can be counted
pub has_room : (cells out index : ℕ) → roomy (leb max_packet cells) out index ≡ true → (max_packet ≤ cells) × (lines_room ≤ out) × (index < 2 ^ 64 - 1)
has_room cells out index e =
    let h = and-true (leb max_packet cells) (leb lines_room out && ltb index (2 ^ 64 - 1)) e in
    let l = and-true (leb lines_room out) (ltb index (2 ^ 64 - 1)) h.1 in
    (leb-true max_packet cells h.0, leb-true lines_room out l.0, ltb-true index (2 ^ 64 - 1) l.1)
