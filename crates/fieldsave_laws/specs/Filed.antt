-- What a file of `fieldsave` is to who reads it.
use Rattle.wire_spec.specs.Result.{Result, Ok, Err}
use Rattle.depacketizer.specs.declared.state.Depacketizer.{Depacketizer}
use Rattle.std.specs.Prelude.{◌≡◌, List, [], ◌∷◌, ◌++◌, ℕ, length, take}
use Rattle.wire_spec.specs.Bits.{Below}
use Rattle.wire_spec.specs.Layout.{Layout}
use Rattle.wire_spec.specs.Cells.{Lists}
use Rattle.wire_spec.specs.Packet.{read_content}
use Rattle.fieldfile_spec.specs.File.{FieldContent, end_of_file, read_file, written_version}
use Rattle.fieldfile_spec.specs.Cut.{cut_file}
use Rattle.rtp_frames.specs.Frames.{frames}
use Rattle.depacketizer_spec.specs.Step.{Step, step}
use Rattle.depacketizer_spec.specs.Stream.{Handed, handed_by}
use Rattle.fieldlist_session.specs.declared.session.Session.{Session}
use Rattle.fieldlist_session.specs.declared.session.Session.TheVariants as session
use Rattle.fieldlist_session.specs.Session.{entered, layout_in, turn}
use Rattle.fieldsave_session.specs.Filing.{fields_in, filing}

-- THE FILE READS BACK: the fields that were handed out, in order, and then 54
abbrev pub ReadsBack : Type 0
ReadsBack = (L : Layout) (store input : List ℕ) → Below 256 input
    → read_file (filing L store input) ≡ record { fields = fields_in L store input; end = end_of_file }

-- A FILE THAT IS CUT, as by a full disk, reads as the fields that stand whole in it, and then ends in the refusal of the place of the cut
abbrev pub CutReads : Type 0
CutReads = (L : Layout) (store input : List ℕ) → Below 256 input → (n : ℕ)
    → read_file (take n (filing L store input)) ≡ cut_file written_version n (fields_in L store input)

-- the fields that are handed out, as the answers tell them (01: "whole, .. with timestamp, F, records, cells used"), each with the cells that the store then begins with
abbrev pub whole_at : Layout → List ℕ → List ℕ → Result Depacketizer → List Handed
whole_at L octets store (Err x) = []
whole_at L octets store (Ok d) = let x : Step = step d.state L octets store in handed_by x.answer x.store

abbrev pub wholes_of : Session → List ℕ → List (List ℕ) → List Handed
wholes_of s store [] = []
wholes_of s store (p ∷ ps) =
    whole_at (layout_in s) p store (entered s (read_content (layout_in s) p)) ++ wholes_of (turn s p store).session (turn s p store).store ps

-- one is filed: its timestamp, its F, as many records as it has, and they are the ones that stand in its cells. (These tell them: `FiledLaws.one_list`.)
abbrev pub Filed : Handed → FieldContent → Type 0
Filed x k = (k.timestamp ≡ x.timestamp) × (k.f ≡ x.f) × (length k.records ≡ x.records) × Lists k.records x.content

abbrev pub EachFiled : List Handed → List FieldContent → Type 0
EachFiled [] [] = Unit {0}
EachFiled [] (k ∷ ks) = ⊥
EachFiled (x ∷ xs) [] = ⊥
EachFiled (x ∷ xs) (k ∷ ks) = Filed x k × EachFiled xs ks

-- NONE IS LEFT OUT: every field that is handed out is filed, in order, and nothing else is. So no field is ever refused by the file
abbrev pub NoneLeftOut : Type 0
NoneLeftOut = (L : Layout) (store input : List ℕ) → Below 256 input
    → EachFiled (wholes_of (session.Waiting L) store (frames input).packets) (fields_in L store input)
