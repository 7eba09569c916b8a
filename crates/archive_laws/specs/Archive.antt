-- THE ARCHIVE, from what was sent to what is read back (00: "A channel's archive held captions that nobody had written").
use Rattle.std.specs.Prelude.{◌≡◌, Bool, true, false, ◌&&◌, List, [], ◌∷◌, ◌++◌, map, ℕ, ◌+◌, ◌≤◌, length}
use Rattle.wire_spec.specs.declared.refusal.Refusal.{Refusal}
use Rattle.wire_spec.specs.Bits.{Below}
use Rattle.wire_spec.specs.Result.{Err}
use Rattle.wire_spec.specs.Anc.{Each}
use Rattle.wire_spec.specs.Packet.{read_content}
use Rattle.wire_spec.specs.Writing.{max_field_cells}
use Rattle.fieldfile_spec.specs.File.{FieldContent, end_of_file, read_file}
use Rattle.rtp_frames.specs.Frames.{frames}
use Rattle.depacketizer_spec.specs.Stream.{Field, parts, Sent, sent, Stream, WellFormedStream, Arriving, other, packet, OfStream, Calls, none, ◌before◌, octets_of, fresh, one_before, all_from, Near}
use Rattle.depacketizer_spec.specs.Delivery.{joined}
use Rattle.fieldsave_session.specs.Filing.{filing}

-- a packet of a recording: one of the stream's, or other octets, which a depacketizer opened for the stream refuses; all in the one layout that the program is told
abbrev pub Recorded : Stream → Arriving → Type 0
Recorded s (other L o) = (L ≡ s.layout) × OfStream s (other L o)
Recorded s (packet i) = OfStream s (packet i)

-- "The first packet that passes 1 to 13 opens the keeper" (01, "`fieldlist`"): it is one of the stream's. So what is recorded before that is refused by 1 to 13, 15 or
-- 16, not only by 30 or 31.
abbrev pub OpenedByStream : Stream → List Arriving → Type 0
OpenedByStream s [] = Unit {0}
OpenedByStream s (other L o ∷ tape) = (x : Refusal) × (read_content s.layout o ≡ Err x) × OpenedByStream s tape
OpenedByStream s (packet i ∷ tape) = Unit {0}

-- the same in demand 3's words: calls in order, behind others. What is fresh, and what is near, does not look at the stores
abbrev pub calls_on : Calls → List Arriving → Calls
calls_on cs [] = cs
calls_on cs (a ∷ tape) = calls_on (cs before record { arriving = a; store = [] }) tape

abbrev pub calls_of : List Arriving → Calls
calls_of tape = calls_on none tape

-- a field as the archive has it: its timestamp, its F, and its packets' records, joined in order
abbrev pub as_written : Field → FieldContent
as_written x = record { timestamp = x.timestamp; f = x.f; records = joined (parts x) }

-- one that is kept
abbrev pub kept_if : Bool → Field → List FieldContent
kept_if true x = as_written x ∷ []
kept_if false x = []

-- "all its packets, and the one sent just before them, are among the fresh arrivals: once, in sending order, as sent. Nothing else": the fresh packets are
-- `l`, and packet `k` is the first of the fields
abbrev pub archived : ℕ → List Field → List ℕ → List FieldContent
archived k [] l = []
archived k (x ∷ xs) l = kept_if (one_before k l && all_from k (parts x) l) x ++ archived (k + length (parts x)) xs l

-- THE ARCHIVE IS AS SENT: what `fieldsave` files of a recorded stream, read back, is every field of the stream all of whose packets, and the one sent just before
-- them, are among the fresh arrivals, in sending order, as sent, and then the end of the file. Nothing that nobody wrote, and nothing missing that arrived whole.
abbrev pub ArchiveAsSent : Type 0
ArchiveAsSent = (s : Stream) → WellFormedStream s → (tape : List Arriving) → Each (Recorded s) tape → OpenedByStream s tape → Near (calls_of tape)
    → (input : List ℕ) → Below 256 input → (frames input).packets ≡ map (octets_of s) tape
    → (store : List ℕ) → max_field_cells ≤ length store
    → read_file (filing s.layout store input) ≡ record { fields = archived 0 s.fields (fresh (calls_of tape)); end = end_of_file }

-- A STREAM RECORDED WHOLE, in order: every field is in the archive but the first, which has no packet before it ("the first sent .. is never handed out")
abbrev pub WholeRecording : Type 0
WholeRecording = (s : Stream) → WellFormedStream s → (first : Field) (fields : List Field) → s.fields ≡ first ∷ fields
    → (input : List ℕ) → Below 256 input → (frames input).packets ≡ map (λ (x : Sent). x.part.octets) (sent s.fields)
    → (store : List ℕ) → max_field_cells ≤ length store
    → read_file (filing s.layout store input) ≡ record { fields = map as_written fields; end = end_of_file }
