-- The checker: from packet to packet, with what it carries, and the report that it gives.
use Rattle.std.specs.Prelude.{Bool, true, false, cond, not, ◌&&◌, ◌||◌, List, [], ◌∷◌, ◌++◌, ◌⊎◌, ◌≡◌, ℕ, suc, ◌<◌, eqb, ltb, Option, Some, None}
use Rattle.anc_record.specs.declared.location.Line.{Line}
use Rattle.anc_record.specs.declared.location.Line.TheVariants as line
use Rattle.anc_record.specs.declared.location.Offset.{Offset}
use Rattle.anc_record.specs.declared.location.Offset.TheVariants as offset
use Rattle.wire_spec.specs.Layout.{Layout}
use Rattle.anc_record.specs.Location.{line_of, offset_of}
use Rattle.wire_spec.specs.Result.{Result, Err, Ok, Checks, judge, ◌then◌}
use Rattle.wire_spec.specs.Anc.{Record, Each}
use Rattle.wire_spec.specs.Packet.{Packet, content, read_packet}
use Rattle.rtp_strict_reader.specs.declared.packet.Head.{Head}
use Rattle.rtp_strict_reader.specs.Answers.{head_of}
use Rattle.streamcheck_spec.specs.declared.checker.Checker.{Checker}
use Rattle.streamcheck_spec.specs.declared.place.Place.{Place}
use Rattle.streamcheck_spec.specs.declared.finding.Finding.{Finding}
use Rattle.streamcheck_spec.specs.declared.finding.Finding.TheVariants as finding
use Rattle.streamcheck_spec.specs.Rules.{number_of, following}

-- no plain place
abbrev pub no_place : Option Place
no_place = None

-- before the first packet
abbrev pub opened : Checker
opened = record { last = None; place = no_place }

-- 30 and 31: the same source and type, where a first packet is known
abbrev pub origin_checks : Option Head → Packet → Checks
origin_checks None k = []
origin_checks (Some h) k = (eqb k.source h.source, 30) ∷ (eqb k.type h.payload_type, 31) ∷ []

-- "refused (1 to 13, 15 or 16, strictly; 30 or 31 against the first accepted ..)"
unfoldable pub admitted : Layout → Checker → List ℕ → Result Packet
admitted L st octets = read_packet L octets then λ k. judge 0 (origin_checks st.last k) (Ok k)

-- "plain line and offset"
abbrev pub is_line : Line → Bool
is_line (line.Number x) = true
is_line line.Unspecified = false
is_line line.Vertical = false
is_line line.TooLarge = false

abbrev pub is_offset : Offset → Bool
is_offset (offset.Number x) = true
is_offset offset.Unspecified = false
is_offset offset.Horizontal = false
is_offset offset.SavToEav = false
is_offset offset.TooLarge = false

unfoldable pub is_plain : (line offset : ℕ) → Bool
is_plain line offset = is_line (line_of line) && is_offset (offset_of offset)

-- "line, then offset": these belong before a known place
unfoldable pub is_lower : (line offset : ℕ) → Option Place → Bool
is_lower line offset None = false
is_lower line offset (Some q) = ltb line q.line || (eqb line q.line && ltb offset q.offset)

-- a plain place, and a record's
abbrev pub place_at : (line offset : ℕ) → Option Place
place_at line offset = Some (record { line = line; offset = offset })

abbrev pub place_of : Record → Option Place
place_of r = place_at r.line r.offset

-- some plain record of a packet belongs before the plain one before it
unfoldable pub descends : Option Place → List Record → Bool
descends q [] = false
descends q (r ∷ rs) = cond (is_plain r.line r.offset) (is_lower r.line r.offset q || descends (place_of r) rs) (descends q rs)

-- the last plain place after a packet's records
unfoldable pub place_after : Option Place → List Record → Option Place
place_after q [] = q
place_after q (r ∷ rs) = cond (is_plain r.line r.offset) (place_after (place_of r) rs) (place_after q rs)

-- "number not the next"
unfoldable pub is_gap : Option Head → Packet → Bool
is_gap None k = false
is_gap (Some h) k = not (eqb (number_of k) (following h.number.0))

-- "timestamp or F changed before a mark"
unfoldable pub is_change : Option Head → Packet → Bool
is_change None k = false
is_change (Some h) k = not h.marker && (not (eqb k.timestamp h.timestamp.0) || not (eqb k.f h.f))

-- "reserved bits set"
unfoldable pub is_reserved : Packet → Bool
is_reserved k = not (eqb k.reserved 0)

-- a finding, where the test holds
abbrev pub only_if : Bool → Finding → List Finding
only_if true x = x ∷ []
only_if false x = []

-- "A packet's findings, one of a kind, are listed in that order"
abbrev pub findings_of : Checker → Result Packet → List Finding
findings_of st (Err x) = finding.Refused x ∷ []
findings_of st (Ok k) =
    only_if (is_gap st.last k) finding.Number
    ++ (only_if (is_change st.last k) finding.Change
    ++ (only_if (is_reserved k) finding.Reserved ++ only_if (descends st.place k.records) finding.Raster))

-- "a field ends at a mark"
abbrev pub place_within : Bool → Option Place → Option Place
place_within marked q = cond marked no_place q

-- what is carried on: a refused packet changes nothing
abbrev pub carried : Checker → Result Packet → Checker
carried st (Err x) = st
carried st (Ok k) =
    record { last = Some (head_of (content k)); place = place_within (eqb k.marker 1) (place_after st.place k.records) }

-- a line of the report: the frame's index, and the finding
abbrev pub Entry : Type 0
Entry = ℕ × Finding

-- the findings of the packet with index `i`
unfoldable pub entries : ℕ → List Finding → List Entry
entries i [] = []
entries i (x ∷ xs) = (i, x) ∷ entries i xs

-- "a cut last frame": its index is the number of whole frames
abbrev pub at_end : Bool → ℕ → List Entry
at_end true i = (i, finding.Cut) ∷ []
at_end false i = []

-- the packets from index `i` on
unfoldable pub report_from : Layout → (broken : Bool) → ℕ → Checker → List (List ℕ) → List Entry
report_from L broken i st [] = at_end broken i
report_from L broken i st (p ∷ ps) =
    entries i (findings_of st (admitted L st p)) ++ report_from L broken (suc i) (carried st (admitted L st p)) ps

-- "a program's report on its recorded output"
unfoldable pub report : Layout → (broken : Bool) → List (List ℕ) → List Entry
report L broken ps = report_from L broken 0 opened ps

-- the order of the kinds; "refused .., which excludes the rest"
abbrev pub rank : Finding → ℕ
rank (finding.Refused x) = 0
rank finding.Cut = 0
rank finding.Number = 1
rank finding.Change = 2
rank finding.Reserved = 3
rank finding.Raster = 4

-- "It lists by packet", "A packet's findings .. in that order"
abbrev pub Precedes : Entry → Entry → Type 0
Precedes x y = (x.0 < y.0) ⊎ ((x.0 ≡ y.0) × (rank x.1 < rank y.1))

-- each line precedes all that follow it: strictly, so there is "one of a kind"
abbrev pub Increasing : List Entry → Type 0
Increasing [] = Unit {0}
Increasing (x ∷ xs) = Each (Precedes x) xs × Increasing xs
