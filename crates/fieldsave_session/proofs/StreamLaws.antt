-- THE PROGRAM'S LOOP: what is filed of an input, frame by frame, whatever part of it has been read; and that all of it is a field file.
-- `file_frame` promises the octets on the right; a frame that was read is the frame of the whole input.
use mathlib.Core.Path.{◌≡◌, refl, ap, sym, ◌∙◌}
use mathlib.Core.List.{List, [], ◌∷◌, ◌++◌, append_assoc}
use Prim.Native.Nat.{ℕ}
use lib.ListN.{length}
use Rattle.fieldfile_spec.specs.declared.format.Version.{Version}
use Rattle.fieldfile_spec.specs.File.{FieldContent, field_octets, fields_octets, file_head, written_version}
use Rattle.rtp_frames.specs.Frames.{Front, end, cut, frame, front, Frames, onward, frames_in, frames}
use Rattle.rtp_frames.proofs.NextLaws.{front-longer, frames-next}
use Rattle.wire_spec.specs.Layout.{Layout}
use Rattle.fieldlist_session.specs.declared.session.Session.{Session}
use Rattle.fieldlist_session.specs.declared.session.Session.TheVariants as session
use Rattle.fieldlist_session.specs.Session.{turn}
use Rattle.fieldsave_session.specs.Filing.{handed, fields_of, filed, remaining, filing}

-- fields one behind the other
pub fields-append : (v : Version) (a b : List FieldContent) → fields_octets v (a ++ b) ≡ fields_octets v a ++ fields_octets v b
fields-append v [] b = refl
fields-append v (k ∷ a) b =
    ap (λ (l : List ℕ). field_octets v k ++ l) (fields-append v a b) ∙ sym (append_assoc (field_octets v k) (fields_octets v a) (fields_octets v b))

-- A FRAME THAT WAS READ gives its packet's field, and then what is filed of the rest, read or not
pub next-frame : (v : Session) (store read unread p rest : List ℕ) → front read ≡ frame p rest
    → remaining v store (read ++ unread) ≡ filed v p store ++ remaining (turn v p store).session (turn v p store).store (rest ++ unread)
unfolding remaining
next-frame v store read unread p rest e =
    let f = frames-next (read ++ unread) p (rest ++ unread) (front-longer read unread p rest e) in
    ap (λ (g : Frames). fields_octets written_version (fields_of v store g.packets)) f
    ∙ fields-append written_version (handed v p store) (fields_of (turn v p store).session (turn v p store).store (frames (rest ++ unread)).packets)

-- NO FRAME IN ALL THAT IS LEFT: no field
pub no_more : (v : Session) (store left : List ℕ) → ((p rest : List ℕ) → front left ≡ frame p rest → ⊥) → remaining v store left ≡ []
unfolding remaining
no_more v store left h = go (front left) refl
  where
    go : (f : Front) → front left ≡ f → fields_octets written_version (fields_of v store (onward (frames_in (length left)) f).packets) ≡ []
    go end e = refl
    go cut e = refl
    go (frame p rest) e = absurd (h p rest e)

-- the file is its head, and what is filed from the start
pub file-is : (L : Layout) (store input : List ℕ) → filing L store input ≡ file_head written_version ++ remaining (session.Waiting L) store input
unfolding filing remaining
file-is L store input = refl
