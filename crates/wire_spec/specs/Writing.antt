-- Writing an RTP packet (01, "Writing": 24, 20, 21, 22, 23; "Written packets have P, X and CC zero"; 02, K3: 25 after 21; K5: 16 after 20).
use Rattle.std.specs.Prelude.{Bool, true, not, ◌&&◌, List, [], ◌∷◌, ℕ, ◌+◌, ◌*◌, ◌/◌, ◌%◌, ◌^◌, ◌<◌, ◌≤◌, eqb, leb, length}
use Rattle.wire_spec.specs.declared.layout.Layout.TheVariants as layout
use Rattle.wire_spec.specs.Layout.{Layout}
use Rattle.wire_spec.specs.Result.{Result, Ok, Checks, judge, ◌then◌}
use Rattle.wire_spec.specs.Anc.{Record, anc_size}
use Rattle.wire_spec.specs.Cells.{list_of, read_list}
use Rattle.wire_spec.specs.Packet.{max_packet, Packet, packet_octets, Content}

-- 21 of a packet: "over 255 records or 32,768 cells for an RTP packet" (02, K2); "limits in cells become 36,864" (K13)
abbrev pub max_records : ℕ
max_records = 255

abbrev pub max_cells : ℕ
max_cells = 36864

-- 21 of a field, 35 and "overfull": "A field may hold 4,095 records and 32,768 cells" (02, K2), with K13 36,864
abbrev pub max_field_records : ℕ
max_field_records = 4095

abbrev pub max_field_cells : ℕ
max_field_cells = 36864

-- 35 and "overfull": "over 4,096 packets" of a field (02, K13)
abbrev pub max_field_packets : ℕ
max_field_packets = 4096

-- the cells of records as they were, "8 + n" each, and the limit as it was (01; 02, K2)
abbrev pub cells_before : List Record → ℕ
cells_before [] = 0
cells_before (r ∷ rs) = 8 + length r.words + cells_before rs

abbrev pub max_cells_before : ℕ
max_cells_before = 32768

-- "limits in cells become 36,864, so that what they allowed still fits" (02, K13)
abbrev pub StillFits : Type 0
StillFits =
    (rs : List Record) → cells_before rs ≤ max_cells_before
    → (length rs ≤ max_records → length (list_of rs) ≤ max_cells) × (length rs ≤ max_field_records → length (list_of rs) ≤ max_field_cells)

-- 24: "payload type over 127"
abbrev pub max_type : ℕ
max_type = 127

-- the packet with nothing but what the content says: "P, X and CC zero"; the reserved bits are "written as zero (house rule)"
abbrev pub plain : Content → Packet
plain k =
    record {
      p = 0;
      x = 0;
      marker = k.marker;
      type = k.type;
      sequence = k.number % 65536;
      timestamp = k.timestamp;
      source = k.source;
      sources = [];
      profile = 0;
      extension = [];
      extended = k.number / 65536;
      f = k.f;
      reserved = 0;
      records = k.records;
      padding = [];
    }

-- its octets
abbrev pub content_octets : Layout → Content → List ℕ
content_octets L k = packet_octets L (plain k)

-- the numbers that a writer is given fit their types
pub record HeadFits (k : Content) : Type 0 where
  pub marker : k.marker < 2
  pub number : k.number < 2 ^ 32
  pub timestamp : k.timestamp < 2 ^ 32
  pub source : k.source < 2 ^ 32

-- "the writer takes the first six and a list": the six values of `k`, and the records `rs`
abbrev pub with_records : Content → List Record → Content
with_records k rs =
    record {
      source = k.source;
      type = k.type;
      marker = k.marker;
      number = k.number;
      timestamp = k.timestamp;
      f = k.f;
      records = rs;
    }

-- 24: "payload type over 127, or F is 1 or over 3"
abbrev pub head_ok : (type f : ℕ) → Bool
head_ok type f = leb type max_type && (leb f 3 && not (eqb f 1))

abbrev pub head_checks : Content → Checks
head_checks k = (head_ok k.type k.f, 24) ∷ []

-- S and StreamNum of each record are zero
abbrev pub no_stream : List Record → Bool
no_stream [] = true
no_stream (r ∷ rs) = (eqb r.s 0 && eqb r.stream 0) && no_stream rs

-- 25: "F, S or StreamNum not zero in old writing"
abbrev pub layout_ok : Layout → (f : ℕ) → List Record → Bool
layout_ok layout.Rfc8331 f rs = true
layout_ok layout.Draft2015 f rs = eqb f 0 && no_stream rs

-- 21, 25, for a list of so many cells, and what is checked behind them
abbrev pub list_limits : Layout → Content → (cells : ℕ) → Checks → Checks
list_limits L k cells behind =
    (leb (length k.records) max_records && leb cells max_cells, 21)
    ∷ (layout_ok L k.f k.records, 25)
    ∷ behind

-- 21, 25, 23, with lent room for so many octets
abbrev pub limit_checks : Layout → Content → (cells room : ℕ) → Checks
limit_checks L k cells room = list_limits L k cells ((leb (length (content_octets L k)) room, 23) ∷ [])

-- What a writer takes of a list: its checks of what is given beside the list, then 20, then its limits for the list's records.
abbrev pub records_to_write : Checks → (List Record → Checks) → List ℕ → Result (List Record)
records_to_write head limits cells =
    judge 0 head (read_list cells then λ rs. judge 0 (limits rs) (Ok rs))

-- "Writing: 24, 20, 21, 22, 23.", 25 "after 21", 16 "after 20", and without 22 (02, K7): the records of a packet that is written
abbrev pub packet_records : Layout → Content → (cells : List ℕ) (room : ℕ) → Result (List Record)
packet_records L k cells room =
    records_to_write (head_checks k) (λ rs. limit_checks L (with_records k rs) (length cells) room) cells

-- its octets
unfoldable pub write_content : Layout → Content → List ℕ → ℕ → Result (List ℕ)
write_content L k cells room = packet_records L k cells room then λ rs. Ok (content_octets L (with_records k rs))

-- "In the RFC layout a record of n words takes .. never more than 12 + 1.5n octets, the old layout no more" (02, K7), twice as many
abbrev pub OctetBound : Type 0
OctetBound = (L : Layout) (n : ℕ) → 2 * anc_size L n ≤ 24 + 3 * n

-- the writer with 22, "packet over 65,535 octets", in its place: 21, 25, 22, 23
abbrev pub limit_checks22 : Layout → Content → (cells room : ℕ) → Checks
limit_checks22 L k cells room =
    list_limits L k cells ((leb (length (content_octets L k)) max_packet, 22) ∷ (leb (length (content_octets L k)) room, 23) ∷ [])

abbrev pub write_content22 : Layout → Content → List ℕ → ℕ → Result (List ℕ)
write_content22 L k cells room =
    records_to_write (head_checks k) (λ rs. limit_checks22 L (with_records k rs) (length cells) room) cells then
    λ rs. Ok (content_octets L (with_records k rs))
