-- EXACTLY WHAT AN ARCHIVE HOLDS, of any recording: its fresh packets, cut behind each marked one, tell it.
use Rattle.std.specs.Prelude.{◌≡◌, Bool, true, cond, ◌&&◌, List, [], ◌∷◌, ◌++◌, map, ℕ, ◌+◌, ◌^◌, ◌%◌, ◌≤◌, eqb, leb, length}
use Rattle.wire_spec.specs.Bits.{Below}
use Rattle.wire_spec.specs.Layout.{Layout}
use Rattle.wire_spec.specs.Writing.{max_field_records, max_field_cells, max_field_packets}
use Rattle.fieldfile_spec.specs.File.{FieldContent, end_of_file, read_file}
use Rattle.rtp_frames.specs.Frames.{frames}
use Rattle.depacketizer_spec.specs.Step.{marked}
use Rattle.depacketizer_spec.specs.Stream.{record_count, joined_cells}
use Rattle.depacketizer_spec.specs.Delivery.{joined}
use Rattle.fieldlist_session.specs.declared.session.Session.TheVariants as session
use Rattle.fieldsave_session.specs.Filing.{filing}
use Rattle.archive_laws.specs.Any.{Heard, parts_of}
use Rattle.archive_laws.specs.AnyArchive.{fresh_in}

-- "numbered in sequence modulo 2^32", behind the packet `p`
abbrev pub in_sequence : Heard → List Heard → Bool
in_sequence p [] = true
in_sequence p (q ∷ l) = eqb q.says.number ((p.says.number + 1) % 2 ^ 32) && in_sequence q l

-- "one timestamp and F"
abbrev pub of_field : (timestamp f : ℕ) → List Heard → Bool
of_field t f [] = true
of_field t f (p ∷ l) = (eqb p.says.timestamp t && eqb p.says.f f) && of_field t f l

-- the limits of a field
abbrev pub within : List Heard → Bool
within ps = leb (record_count (parts_of ps)) max_field_records && (leb (length (joined_cells (parts_of ps))) max_field_cells && leb (length ps) max_field_packets)

-- packets behind a marked one, up to the next marked one, `p`: a field's, or none's. Before the first marked packet there is none
abbrev pub whole_of : (lead held : List Heard) → Heard → List (List Heard)
whole_of [] held p = []
whole_of (q ∷ l) held p =
    let ps = held ++ (p ∷ []) in
    cond (in_sequence q ps && (of_field p.says.timestamp p.says.f ps && within ps)) (ps ∷ []) []

-- the packets of each whole field among the fresh ones, which are cut behind each marked one; `lead` is the last marked packet, if any, `held` are those behind it
abbrev pub whole_fields : (lead held fresh : List Heard) → List (List Heard)
whole_fields lead held [] = []
whole_fields lead held (p ∷ l) = cond (marked p.says) (whole_of lead held p ++ whole_fields (p ∷ []) [] l) (whole_fields lead (held ++ (p ∷ [])) l)

-- what a field's packets say
abbrev pub time_of : List Heard → ℕ
time_of [] = 0
time_of (p ∷ l) = p.says.timestamp

abbrev pub field_of : List Heard → ℕ
field_of [] = 0
field_of (p ∷ l) = p.says.f

abbrev pub written : List Heard → FieldContent
written ps = record { timestamp = time_of ps; f = field_of ps; records = joined (parts_of ps) }

-- EXACTLY: the archive of any recording, whatever its octets are, read back, is what those packets say, in order, and then the end of the file
abbrev pub ExactArchive : Type 0
ExactArchive = (L : Layout) (store input : List ℕ) → Below 256 input → max_field_cells ≤ length store
    → read_file (filing L store input) ≡ record { fields = map written (whole_fields [] [] (fresh_in (session.Waiting L) store (frames input).packets)); end = end_of_file }
