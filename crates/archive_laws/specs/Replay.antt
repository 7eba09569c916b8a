-- A FILE REPLAYED: its fields as packets, as a sender sends them, and filed again.
use Rattle.std.specs.Prelude.{◌≡◌, Bool, true, false, cond, List, [], ◌∷◌, ◌++◌, map, ℕ, suc, ◌+◌, ◌^◌, ◌%◌, ◌≤◌, ◌<◌, length}
use Rattle.wire_spec.specs.Layout.{rfc8331}
use Rattle.wire_spec.specs.Anc.{Record, Each}
use Rattle.wire_spec.specs.Packet.{Content}
use Rattle.wire_spec.specs.Writing.{content_octets, max_field_cells}
use Rattle.fieldfile_spec.specs.File.{FieldContent, WellFormedField, file_octets, written_version}
use Rattle.fieldsave_session.specs.Filing.{filing}
use Rattle.pcapframes_spec.specs.Frames.{framed}

-- A field of a file, cut into packets: the records of the first, and of each other.
pub record Cut : Type 0 where
  pub timestamp : ℕ
  pub f : ℕ
  pub first : List Record
  pub rest : List (List Record)

abbrev pub all_of : List (List Record) → List Record
all_of [] = []
all_of (rs ∷ l) = rs ++ all_of l

abbrev pub uncut : Cut → FieldContent
uncut c = record { timestamp = c.timestamp; f = c.f; records = all_of (c.first ∷ c.rest) }

-- ANC_Count has eight bits, and a field at most 4,096 packets
abbrev pub Few : List Record → Type 0
Few rs = length rs ≤ 255

abbrev pub CutFits : Cut → Type 0
CutFits c = Each Few (c.first ∷ c.rest) × (length (c.first ∷ c.rest) ≤ 4096)

module _ (source type start : ℕ) where
  -- what packet `n` says
  abbrev pub says_at : (n t f : ℕ) (last : Bool) → List Record → Content
  says_at n t f last rs =
      record { source = source; type = type; marker = cond last 1 0; number = (start + n) % 2 ^ 32; timestamp = t; f = f; records = rs }

  abbrev pub is_none : List (List Record) → Bool
  is_none [] = true
  is_none (rs ∷ l) = false

  -- the packets of a field, from packet `n` on
  abbrev pub field_packets : (n t f : ℕ) → List (List Record) → List Content
  field_packets n t f [] = []
  field_packets n t f (rs ∷ l) = says_at n t f (is_none l) rs ∷ field_packets (suc n) t f l

  abbrev pub file_packets : ℕ → List Cut → List Content
  file_packets n [] = []
  file_packets n (c ∷ cs) = field_packets n c.timestamp c.f (c.first ∷ c.rest) ++ file_packets (n + suc (length c.rest)) cs

  -- behind one that is empty and marked, so that the first field has a packet before it
  abbrev pub replayed : List Cut → List Content
  replayed cs = says_at 0 0 0 true [] ∷ file_packets 1 cs

-- THE FILE COMES BACK: its fields, however they are cut, sent as packets that the writer writes, recorded as frames and filed, are the file
abbrev pub FileComesBack : Type 0
FileComesBack = (cs : List Cut) → Each (WellFormedField written_version) (map uncut cs) → Each CutFits cs
    → (source type start : ℕ) → source < 2 ^ 32 → type ≤ 127 → length (replayed source type start cs) ≤ 2 ^ 31
    → (store : List ℕ) → max_field_cells ≤ length store
    → filing rfc8331 store (framed (map (content_octets rfc8331) (replayed source type start cs))) ≡ file_octets written_version (map uncut cs)
