-- The checker as the code has it: a packet's records one by one, and then the packet.
use Rattle.streamcheck_spec.specs.declared.checker.Findings.{Findings}
use Rattle.std.specs.Prelude.{Bool, true, false, cond, not, ◌&&◌, ◌||◌, List, [], ◌∷◌, ◌++◌, ℕ, eqb, Option, Some, None}
use Rattle.wire_spec.specs.Layout.{Layout}
use Rattle.wire_spec.specs.Result.{Result, Err, Ok}
use Rattle.wire_spec.specs.Anc.{Record}
use Rattle.wire_spec.specs.Packet.{Packet, content, read_packet}
use Rattle.anc_record.specs.declared.location.Line.{Line}
use Rattle.anc_record.specs.declared.location.Line.TheVariants as line
use Rattle.anc_record.specs.declared.location.Offset.{Offset}
use Rattle.anc_record.specs.declared.location.Offset.TheVariants as offset
use Rattle.anc_record.specs.declared.location.Location.{Location}
use Rattle.anc_record.specs.Header.{header_of}
use Rattle.rtp_strict_reader.specs.declared.packet.Head.{Head}
use Rattle.rtp_strict_reader.specs.Answers.{head_of}
use Rattle.streamcheck_spec.specs.declared.checker.Checker.{Checker}
use Rattle.streamcheck_spec.specs.declared.checker.Step.{Step}
use Rattle.streamcheck_spec.specs.declared.place.Place.{Place}
use Rattle.streamcheck_spec.specs.declared.place.Scan.{Scan}
use Rattle.streamcheck_spec.specs.declared.finding.Finding.{Finding}
use Rattle.streamcheck_spec.specs.declared.finding.Finding.TheVariants as finding
use Rattle.streamcheck_spec.specs.Rules.{following}
use Rattle.streamcheck_spec.specs.Check.{is_lower, is_reserved, place_at, place_within, only_if}

-- before a packet's records
abbrev pub scan_of : Option Place → Scan
scan_of q = record { descends = false; place = q }

-- past a record at a plain place
abbrev pub past_plain : Scan → (line offset : ℕ) → Scan
past_plain s x y = record { descends = s.descends || is_lower x y s.place; place = place_at x y }

-- "records with plain line and offset": any other is passed over, and resets nothing
abbrev pub past_offset : Scan → ℕ → Offset → Scan
past_offset s x (offset.Number y) = past_plain s x y
past_offset s x offset.Unspecified = s
past_offset s x offset.Horizontal = s
past_offset s x offset.SavToEav = s
past_offset s x offset.TooLarge = s

abbrev pub past_place : Scan → Line → Offset → Scan
past_place s (line.Number x) o = past_offset s x o
past_place s line.Unspecified o = s
past_place s line.Vertical o = s
past_place s line.TooLarge o = s

-- past one record, by its place
unfoldable pub past : Scan → Location → Scan
past s p = past_place s p.line p.offset

-- past records
unfoldable pub past_all : Scan → List Record → Scan
past_all s [] = s
past_all s (r ∷ rs) = past_all (past s (header_of r).location) rs

-- past the records of a list of cells; none where it is refused
abbrev pub past_list : Scan → Result (List Record) → Scan
past_list s (Err x) = s
past_list s (Ok rs) = past_all s rs

-- "number not the next"
abbrev pub gap_in : Option Head → (number : ℕ) → Bool
gap_in None number = false
gap_in (Some h) number = not (eqb number (following h.number.0))

-- "timestamp or F changed before a mark"
abbrev pub change_in : Option Head → (timestamp f : ℕ) → Bool
change_in None timestamp f = false
change_in (Some h) timestamp f = not h.marker && (not (eqb timestamp h.timestamp.0) || not (eqb f h.f))

-- 30 and 31: the source and the type are those of the first accepted packet, where one is known
abbrev pub source_in : Option Head → (source : ℕ) → Bool
source_in None source = true
source_in (Some h) source = eqb source h.source

abbrev pub type_in : Option Head → (type : ℕ) → Bool
type_in None type = true
type_in (Some h) type = eqb type h.payload_type

abbrev pub refused_step : Checker → ℕ → Step
refused_step st number = record { checker = st; outcome = Err (record { number = number; index = 0 }) }

-- a packet that is not refused
unfoldable pub sound_step : Checker → Head → (reserved : Bool) → Scan → Step
sound_step st h reserved s =
    record {
      checker = record { last = Some h; place = place_within h.marker s.place };
      outcome =
          Ok
          (record {
            number = gap_in st.last h.number.0;
            change = change_in st.last h.timestamp.0 h.f;
            reserved = reserved;
            raster = s.descends;
          });
    }

-- an accepted packet
unfoldable pub step_of : Checker → Head → (reserved : Bool) → Scan → Step
step_of st h reserved s =
    cond (source_in st.last h.source) (cond (type_in st.last h.payload_type) (sound_step st h reserved s) (refused_step st 31)) (refused_step st 30)

-- the findings that an outcome stands for
abbrev pub findings_in : Result Findings → List Finding
findings_in (Err x) = finding.Refused x ∷ []
findings_in (Ok f) =
    only_if f.number finding.Number
    ++ (only_if f.change finding.Change ++ (only_if f.reserved finding.Reserved ++ only_if f.raster finding.Raster))

-- one packet of the stream, by its strict reading
abbrev pub turn_by : Checker → Result Packet → Step
turn_by st (Err x) = record { checker = st; outcome = Err x }
turn_by st (Ok k) = step_of st (head_of (content k)) (is_reserved k) (past_all (scan_of st.place) k.records)

unfoldable pub turn : Layout → Checker → List ℕ → Step
turn L st octets = turn_by st (read_packet L octets)
