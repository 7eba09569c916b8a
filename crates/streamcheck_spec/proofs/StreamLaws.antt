-- The program's loop: what is printed for an input, frame by frame, whatever part of it has been read.
-- A frame that was read is the frame of the whole input; the code's step gives its lines.
use mathlib.Core.Path.{◌≡◌, refl, ap, ◌∙◌}
use mathlib.Core.List.{List, [], ◌∷◌, ◌++◌, append_assoc}
use Prim.Native.Nat.{ℕ, suc}
use lib.ListN.{length}
use Rattle.wire_spec.specs.Layout.{Layout}
use Rattle.rtp_frames.specs.Frames.{Front, end, cut, frame, front, is_broken, Frames, onward, frames_in, frames}
use Rattle.rtp_frames.proofs.NextLaws.{front-longer, frames-next}
use Rattle.streamcheck_spec.specs.declared.checker.Checker.{Checker}
use Rattle.streamcheck_spec.specs.Check.{opened, Entry, entries, at_end, report_from, report}
use Rattle.streamcheck_spec.specs.Code.{findings_in, turn}
use Rattle.streamcheck_spec.specs.Text.{line_text, report_text, stream_text, remaining}
use Rattle.streamcheck_spec.proofs.CodeLaws.{report-turn}

text-append : (xs ys : List Entry) → report_text (xs ++ ys) ≡ report_text xs ++ report_text ys
unfolding report_text
text-append [] ys = refl
text-append (x ∷ xs) ys = rw (text-append xs ys) (rw (append_assoc (line_text x.0 x.1) (report_text xs) (report_text ys)))

-- all of it
pub whole-input : (L : Layout) (input : List ℕ) → stream_text L input ≡ remaining L 0 opened input
unfolding stream_text remaining report
whole-input L input = refl

-- a frame that was read gives its packet's lines, and then what is printed for the rest, read or not
pub next-frame : (L : Layout) (i : ℕ) (st : Checker) (read unread p rest : List ℕ) → front read ≡ frame p rest
    → remaining L i st (read ++ unread)
    ≡ report_text (entries i (findings_in (turn L st p).outcome)) ++ remaining L (suc i) (turn L st p).checker (rest ++ unread)
unfolding remaining
next-frame L i st read unread p rest e =
    let f = frames-next (read ++ unread) p (rest ++ unread) (front-longer read unread p rest e) in
    let g = frames (rest ++ unread) in
    ap (λ (z : Frames). report_text (report_from L z.broken i st z.packets)) f
    ∙ ap report_text (report-turn L g.broken i st p g.packets)
    ∙ text-append (entries i (findings_in (turn L st p).outcome)) (report_from L g.broken (suc i) (turn L st p).checker g.packets)

-- no frame in all that is left: nothing, or the line of a frame that is cut
pub last_line : (L : Layout) (i : ℕ) (st : Checker) (left : List ℕ) → ((p rest : List ℕ) → front left ≡ frame p rest → ⊥)
    → remaining L i st left ≡ report_text (at_end (is_broken (front left)) i)
unfolding remaining report_from
last_line L i st left h = go (front left) refl
  where
    go : (f : Front) → front left ≡ f
        → report_text (report_from L (onward (frames_in (length left)) f).broken i st (onward (frames_in (length left)) f).packets) ≡ report_text (at_end (is_broken f) i)
    go end e = refl
    go cut e = refl
    go (frame p rest) e = absurd (h p rest e)
