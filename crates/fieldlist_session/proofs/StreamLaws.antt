-- THE PROGRAM'S LOOP: what is printed for an input, frame by frame, whatever part of it has been read.
-- `list_frame` and `finish` promise the texts on the right; a frame that was read is the frame of the whole input.
use mathlib.Core.Path.{◌≡◌, refl, ap, ◌∙◌}
use mathlib.Core.List.{List, [], ◌∷◌, ◌++◌, append_assoc}
use Prim.Native.Nat.{ℕ}
use lib.ListN.{length}
use Rattle.fieldlist_session.specs.declared.session.Session.{Session}
use Rattle.rtp_frames.specs.Frames.{Front, end, cut, frame, front, is_broken, Frames, onward, frames_in, frames}
use Rattle.rtp_frames.proofs.NextLaws.{front-longer, frames-next}
use Rattle.fieldlist_session.specs.Session.{turn, run, remaining, end_text}

-- A FRAME THAT WAS READ gives its packet's text, and then what is printed for the rest, read or not
pub next-frame : (v : Session) (store read unread p rest : List ℕ) → front read ≡ frame p rest
    → remaining v store (read ++ unread) ≡ (turn v p store).text ++ remaining (turn v p store).session (turn v p store).store (rest ++ unread)
unfolding remaining
next-frame v store read unread p rest e =
    let f = frames-next (read ++ unread) p (rest ++ unread) (front-longer read unread p rest e) in
    let x = turn v p store in
    let q = run x.session x.store (frames (rest ++ unread)).packets in
    ap (λ (g : Frames). (run v store g.packets).text ++ end_text g.broken (run v store g.packets).session) f
    ∙ append_assoc x.text q.text (end_text (frames (rest ++ unread)).broken q.session)

-- NO FRAME IN ALL THAT IS LEFT gives the last lines
pub last-lines : (v : Session) (store left : List ℕ) → ((p rest : List ℕ) → front left ≡ frame p rest → ⊥)
    → remaining v store left ≡ end_text (is_broken (front left)) v
unfolding remaining
last-lines v store left h = go (front left) refl
  where
    go : (f : Front) → front left ≡ f
        → (run v store (onward (frames_in (length left)) f).packets).text ++ end_text (onward (frames_in (length left)) f).broken (run v store (onward (frames_in (length left)) f).packets).session
        ≡ end_text (is_broken f) v
    go end e = refl
    go cut e = refl
    go (frame p rest) e = absurd (h p rest e)
