-- THE ARCHIVE OF ANY RECORDING, whoever sent it, whatever the octets are.
use Rattle.wire_spec.specs.Result.{Result, Ok, Err}
use Rattle.depacketizer.specs.declared.state.Depacketizer.{Depacketizer}
use Rattle.std.specs.Prelude.{◌≡◌, List, [], ◌∷◌, ◌++◌, ℕ}
use Rattle.wire_spec.specs.Bits.{Below}
use Rattle.wire_spec.specs.Layout.{Layout}
use Rattle.wire_spec.specs.Anc.{Each}
use Rattle.wire_spec.specs.Packet.{read_content}
use Rattle.fieldfile_spec.specs.File.{FieldContent, read_file}
use Rattle.rtp_frames.specs.Frames.{frames}
use Rattle.depacketizer_spec.specs.Step.{step}
use Rattle.depacketizer_spec.specs.Delivery.{joined}
use Rattle.fieldlist_session.specs.declared.session.Session.{Session}
use Rattle.fieldlist_session.specs.declared.session.Session.TheVariants as session
use Rattle.fieldlist_session.specs.Session.{entered, layout_in, turn}
use Rattle.fieldsave_session.specs.Filing.{filing}
use Rattle.archive_laws.specs.Any.{Heard, OneField, heard_by, parts_of}

-- the fresh packets of a recording, in order, as `fieldlist` and `fieldsave` hear them
abbrev pub fresh_at : Layout → List ℕ → List ℕ → Result Depacketizer → List Heard
fresh_at L octets store (Err x) = []
fresh_at L octets store (Ok d) = heard_by L octets (step d.state L octets store).answer

abbrev pub fresh_in : Session → List ℕ → List (List ℕ) → List Heard
fresh_in s store [] = []
fresh_in s store (p ∷ ps) = fresh_at (layout_in s) p store (entered s (read_content (layout_in s) p)) ++ fresh_in (turn s p store).session (turn s p store).store ps

-- a field of a file is what one field's packets say, which were the latest of the fresh ones at some time
abbrev pub WrittenBy : (source type : ℕ) → List Heard → FieldContent → Type 0
WrittenBy source type fresh k =
    (front behind : List Heard) × (fresh ≡ front ++ behind)
    × (ps : List Heard) × OneField source type front k.timestamp k.f ps × (k.records ≡ joined (parts_of ps))

-- NOTHING IS INVENTED: every field of the archive of any recording is what packets in it say, of one source and payload type, that were numbered one after the other,
-- from a marked one on to the next marked one
abbrev pub NothingInvented : Type 0
NothingInvented = (L : Layout) (store input : List ℕ) → Below 256 input
    → (source type : ℕ) × Each (WrittenBy source type (fresh_in (session.Waiting L) store (frames input).packets)) (read_file (filing L store input)).fields
