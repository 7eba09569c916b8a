-- An RTP packet with ANC payload (RFC 3550, section 5.1; RFC 8331, sections 2 and 2.1; 01, "The packet"):
-- all that stands in it, its octets, how it is read, and what it says.
use Rattle.std.specs.Prelude.{◌≡◌, not, ◌&&◌, ◌||◌, List, [], ◌∷◌, ◌++◌, ℕ, ◌+◌, ◌-◌, ◌*◌, ◌≤◌, eqb, leb, length, take, drop, get_or}
use Rattle.wire_spec.specs.Bits.{Fields, pack, bits_at, Fit, row, row_at}
use Rattle.wire_spec.specs.Layout.{Layout, f_bits, reserved_bits, payload_header_size}
use Rattle.wire_spec.specs.Result.{Result, Ok, Checks, judge, ◌then◌}
use Rattle.wire_spec.specs.Anc.{Record, WellFormed, Each, run_octets, read_run}
use Rattle.wire_spec.specs.Cells.{list_of}

-- the largest packet, in octets (01, refusals 1 and 22)
abbrev pub max_packet : ℕ
max_packet = 65535

-- Everything that stands in a packet. Where `x` is 0 the extension's two fields have no bits: they are 0, and no words follow.
pub record Packet : Type 0 where
  pub p : ℕ
  pub x : ℕ
  pub marker : ℕ
  pub type : ℕ
  pub sequence : ℕ
  pub timestamp : ℕ
  pub source : ℕ
  pub sources : List ℕ
  pub profile : ℕ
  pub extension : List ℕ
  pub extended : ℕ
  pub f : ℕ
  pub reserved : ℕ
  pub records : List Record
  pub padding : List ℕ

-- RFC 3550, section 5.1:
--
--      0                   1                   2                   3
--      0 1 2 3 4 5 6 7 8 9 0 1 2 3 4 5 6 7 8 9 0 1 2 3 4 5 6 7 8 9 0 1
--     +-+-+-+-+-+-+-+-+-+-+-+-+-+-+-+-+-+-+-+-+-+-+-+-+-+-+-+-+-+-+-+-+
--     |V=2|P|X|  CC   |M|     PT      |       sequence number         |
--     +-+-+-+-+-+-+-+-+-+-+-+-+-+-+-+-+-+-+-+-+-+-+-+-+-+-+-+-+-+-+-+-+
--     |                           timestamp                           |
--     +-+-+-+-+-+-+-+-+-+-+-+-+-+-+-+-+-+-+-+-+-+-+-+-+-+-+-+-+-+-+-+-+
--     |           synchronization source (SSRC) identifier            |
--     +=+=+=+=+=+=+=+=+=+=+=+=+=+=+=+=+=+=+=+=+=+=+=+=+=+=+=+=+=+=+=+=+
--     |            contributing source (CSRC) identifiers             |
--     |                             ....                              |
--     +-+-+-+-+-+-+-+-+-+-+-+-+-+-+-+-+-+-+-+-+-+-+-+-+-+-+-+-+-+-+-+-+
abbrev pub rtp_fields : Packet → Fields
rtp_fields k =
    (2, 2) ∷ (1, k.p) ∷ (1, k.x) ∷ (4, length k.sources) ∷ (1, k.marker) ∷ (7, k.type) ∷ (16, k.sequence)
    ∷ (32, k.timestamp) ∷ (32, k.source) ∷ []

-- RFC 3550, section 5.3.1: if X, 4 octets whose last two count further 32-bit words
abbrev pub extension_fields : Packet → Fields
extension_fields k = (16 * k.x, k.profile) ∷ (16 * k.x, length k.extension) ∷ []

-- RFC 8331, section 2.1:
--
--      0                   1                   2                   3
--      0 1 2 3 4 5 6 7 8 9 0 1 2 3 4 5 6 7 8 9 0 1 2 3 4 5 6 7 8 9 0 1
--     +-+-+-+-+-+-+-+-+-+-+-+-+-+-+-+-+-+-+-+-+-+-+-+-+-+-+-+-+-+-+-+-+
--     |   Extended Sequence Number    |            Length             |
--     +-+-+-+-+-+-+-+-+-+-+-+-+-+-+-+-+-+-+-+-+-+-+-+-+-+-+-+-+-+-+-+-+
--     |   ANC_Count   | F |                reserved                   |
--     +-+-+-+-+-+-+-+-+-+-+-+-+-+-+-+-+-+-+-+-+-+-+-+-+-+-+-+-+-+-+-+-+
--
-- Document 001, section 2.1: it ends with ANC_Count (specs/Anc.antt has the line of its figure that begins with it).
abbrev pub payload_header : Layout → (extended size count f reserved : ℕ) → Fields
payload_header L extended size count f reserved =
    (16, extended) ∷ (16, size) ∷ (8, count) ∷ (f_bits L, f) ∷ (reserved_bits L, reserved) ∷ []

-- Length counts the octets of the ANC data packets, ANC_Count the packets
abbrev pub payload_fields : Layout → Packet → Fields
payload_fields L k = payload_header L k.extended (length (run_octets L k.records)) (length k.records) k.f k.reserved

-- the packet up to its ANC data packets
abbrev pub packet_fields : Layout → Packet → Fields
packet_fields L k =
    rtp_fields k ++ (row 32 k.sources ++ (extension_fields k ++ (row 32 k.extension ++ payload_fields L k)))

-- the packet with these octets for its ANC data packets
abbrev pub packet_around : Layout → Packet → List ℕ → List ℕ
packet_around L k run = pack (packet_fields L k) ++ (run ++ k.padding)

-- the whole packet
unfoldable pub packet_octets : Layout → Packet → List ℕ
packet_octets L k = packet_around L k (run_octets L k.records)

-- the last of the octets
abbrev pub last_octet : List ℕ → ℕ
last_octet s = get_or s (length s - 1) 0

-- What a packet must be: each value fits its field; F is not 1 (6); its records are well-formed; "If P, the last octet counts the
-- padding, itself included", and without P there is none; at most 65,535 octets (1).
pub record WellFormedPacket (L : Layout) (k : Packet) : Type 0 where
  pub fit : Fit (packet_fields L k)
  pub f : k.f ≡ 1 → ⊥
  pub records : Each (WellFormed L) k.records
  pub some : k.p ≤ length k.padding
  pub count : length k.padding ≡ k.p * last_octet k.padding
  pub short : length (packet_octets L k) ≤ max_packet

-- Reading. "RTP header: 12 octets, ..
abbrev pub header_least : ℕ
header_least = 12

-- .. then 4 for each contributing source (CC), ..
abbrev pub source_count : List ℕ → ℕ
source_count s = bits_at s 4 4

-- .. then, if X, 4 octets whose last two count further 32-bit words."
abbrev pub has_extension : List ℕ → ℕ
has_extension s = bits_at s 3 1

abbrev pub extension_at : List ℕ → ℕ
extension_at s = 8 * header_least + 32 * source_count s

abbrev pub extension_words : List ℕ → ℕ
extension_words s = bits_at s (extension_at s + 16 * has_extension s) (16 * has_extension s)

-- octets of all that
abbrev pub header_size : List ℕ → ℕ
header_size s = header_least + 4 * source_count s + 4 * has_extension s + 4 * extension_words s

-- P
abbrev pub padding_flag : List ℕ → ℕ
padding_flag s = bits_at s 2 1

-- "If P, the last octet counts the padding, itself included."
abbrev pub padding_count : List ℕ → ℕ
padding_count s = padding_flag s * last_octet s

-- payload octets "after padding is taken off"
abbrev pub payload_size : List ℕ → ℕ
payload_size s = length s - header_size s - padding_count s

-- the bit at which the payload header starts, and its fields: Length, ANC_Count, F
abbrev pub payload_at : List ℕ → ℕ
payload_at s = 8 * header_size s

abbrev pub length_field : List ℕ → ℕ
length_field s = bits_at s (payload_at s + 16) 16

abbrev pub anc_count : List ℕ → ℕ
anc_count s = bits_at s (payload_at s + 16 + 16) 8

abbrev pub f_at : List ℕ → ℕ
f_at s = payload_at s + 16 + 16 + 8

abbrev pub f_field : Layout → List ℕ → ℕ
f_field L s = bits_at s (f_at s) (f_bits L)

-- "The reserved bits are ignored when read"
abbrev pub reserved_field : Layout → List ℕ → ℕ
reserved_field L s = bits_at s (f_at s + f_bits L) (reserved_bits L)

-- the octet at which the ANC data packets start
abbrev pub run_at : Layout → List ℕ → ℕ
run_at L s = header_size s + payload_header_size L

-- all that stands in the octets `s`, their records being `rs`
unfoldable pub packet_read : Layout → List Record → List ℕ → Packet
packet_read L rs s =
    record {
      p = padding_flag s;
      x = has_extension s;
      marker = bits_at s 8 1;
      type = bits_at s 9 7;
      sequence = bits_at s 16 16;
      timestamp = bits_at s 32 32;
      source = bits_at s 64 32;
      sources = row_at 32 s (8 * header_least) (source_count s);
      profile = bits_at s (extension_at s) (16 * has_extension s);
      extension = row_at 32 s (extension_at s + 16 * has_extension s + 16 * has_extension s) (extension_words s);
      extended = bits_at s (payload_at s) 16;
      f = f_field L s;
      reserved = reserved_field L s;
      records = rs;
      padding = drop (length s - padding_count s) s;
    }

-- 01, "Order of reading": 1, 2 (under 12 octets), 3, 2 (rest)
unfoldable pub header_checks : List ℕ → Checks
header_checks s =
    (leb (length s) max_packet, 1)
    ∷ (leb header_least (length s), 2)
    ∷ (eqb (bits_at s 0 2) 2, 3)
    ∷ (leb (header_size s) (length s), 2)
    ∷ []

-- 4: "padding count 0 or over what follows the header"; 5: "fewer than 8 payload octets after padding is taken off"; 02, K3: "in the old
-- layout 5 means under 5 octets"
unfoldable pub padding_checks : Layout → List ℕ → Checks
padding_checks L s =
    (leb (padding_flag s) (padding_count s) && leb (padding_count s) (length s - header_size s), 4)
    ∷ (leb (payload_header_size L) (payload_size s), 5)
    ∷ []

-- 6: "F is 1", which it never is where there is none; 7: "Length differs from payload octets less 8", in the old layout "payload less 5";
-- 8: "ANC_Count 0, Length not 0"
unfoldable pub payload_checks : Layout → List ℕ → Checks
payload_checks L s =
    (not (eqb (f_field L s) 1), 6)
    ∷ (eqb (length_field s) (payload_size s - payload_header_size L), 7)
    ∷ (not (eqb (anc_count s) 0) || eqb (length_field s) 0, 8)
    ∷ []

-- the run of ANC data packets, and 13: octets left after the last of them
unfoldable pub read_records : Layout → List ℕ → Result (List Record)
read_records L s =
    read_run L 0 (anc_count s) (take (length_field s) (drop (run_at L s) s)) then
    λ q. judge 0 ((eqb (length q.1) 0, 13) ∷ []) (Ok q.0)

-- 01, "Order of reading", up to 13: "accepted means that none of 1 to 13 is given"; 02, K3: 15 is "counted with 1 to 13"
unfoldable pub read_packet : Layout → List ℕ → Result Packet
read_packet L s =
    judge 0 (header_checks s)
    (judge 0 (padding_checks L s)
    (judge 0 (payload_checks L s)
    (read_records L s then λ rs. Ok (packet_read L rs s))))

-- Demand 2: "no padding, extension or contributing sources, and zero reserved bits"
pub record BareOctets (L : Layout) (s : List ℕ) : Type 0 where
  pub padding : padding_flag s ≡ 0
  pub extension : has_extension s ≡ 0
  pub sources : source_count s ≡ 0
  pub reserved : reserved_field L s ≡ 0

-- What a packet says: what the reader returns and the writer takes. `number` is RFC 8331's extended 32-bit sequence number.
pub record Content : Type 0 where
  pub source : ℕ
  pub type : ℕ
  pub marker : ℕ
  pub number : ℕ
  pub timestamp : ℕ
  pub f : ℕ
  pub records : List Record

-- "The packet number is Extended Sequence Number x 65,536 + sequence number."
abbrev pub content : Packet → Content
content k =
    record {
      source = k.source;
      type = k.type;
      marker = k.marker;
      number = k.extended * 65536 + k.sequence;
      timestamp = k.timestamp;
      f = k.f;
      records = k.records;
    }

-- what an accepted packet says
unfoldable pub read_content : Layout → List ℕ → Result Content
read_content L s = read_packet L s then λ k. Ok (content k)

-- 14 comes last: the lent list of `room` cells is shorter than the records need
unfoldable pub read_into : Layout → List ℕ → ℕ → Result Content
read_into L s room =
    read_content L s then λ k. judge 0 ((leb (length (list_of k.records)) room, 14) ∷ []) (Ok k)
