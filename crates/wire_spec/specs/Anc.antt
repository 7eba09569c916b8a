-- An ANC data packet (RFC 8331, section 2.1; 01, "The packet"; in the drafts' layout document 001, section 2.1; 02, K3): its record, its
-- octets, and how it is read.
use Rattle.std.specs.Prelude.{◌≡◌, Bool, true, ◌&&◌, List, [], ◌∷◌, ◌++◌, ℕ, zero, suc, ◌+◌, ◌-◌, ◌*◌, ◌/◌, ◌%◌, ◌^◌, ◌<◌, eqb, leb, length, drop}
use Rattle.wire_spec.specs.Bits.{Fields, width, pack, bits_at, row, row_at, Below}
use Rattle.wire_spec.specs.Layout.{Layout, s_at, s_bits, stream_bits, r_bits, alignment, least_size}
use Rattle.wire_spec.specs.Words.{word_bits, header_numbers, header_word, is_header_word, sum_low, checksum_word, all_clear}
use Rattle.wire_spec.specs.Result.{Result, Ok, Checks, judge, ◌then◌}

-- What an ANC data packet says: 01's record. `line` and `offset` are the fields' numbers; `anc_record`'s specs/Location.antt tells
-- the special ones from the plain.
pub record Record : Type 0 where
  pub c : ℕ
  pub line : ℕ
  pub offset : ℕ
  pub s : ℕ
  pub stream : ℕ
  pub did : ℕ
  pub sdid : ℕ
  pub words : List ℕ

-- each number fits its field (01, "The packet"; 20: "a cell too large for its field")
pub record InRange (L : Layout) (r : Record) : Type 0 where
  pub c : r.c < 2 ^ 1
  pub line : r.line < 2 ^ 11
  pub offset : r.offset < 2 ^ 12
  pub s : r.s < 2 ^ s_bits L
  pub stream : r.stream < 2 ^ stream_bits L
  pub did : r.did < header_numbers
  pub sdid : r.sdid < header_numbers
  pub count : length r.words < header_numbers
  pub words : Below (2 ^ word_bits) r.words

-- and no user data word is a protected one (02, K5)
pub record WellFormed (L : Layout) (r : Record) : Type 0 where
  pub fits : InRange L r
  pub clear : all_clear r.words ≡ true

-- every element of a list is such
abbrev pub Each : {A : Type 0} → (A → Type 0) → List A → Type 0
Each P [] = Unit {0}
Each P (x ∷ xs) = P x × Each P xs

-- "Checksum: the sum of the low nine bits of DID, SDID, Data_Count and every user data word, .."
abbrev pub checksum : Record → ℕ
checksum r =
    checksum_word (sum_low (header_word r.did ∷ header_word r.sdid ∷ header_word (length r.words) ∷ r.words))

-- RFC 8331, figure 1, its first packet, with n = 4 user data words:
--
--      0                   1                   2                   3
--      0 1 2 3 4 5 6 7 8 9 0 1 2 3 4 5 6 7 8 9 0 1 2 3 4 5 6 7 8 9 0 1
--     +-+-+-+-+-+-+-+-+-+-+-+-+-+-+-+-+-+-+-+-+-+-+-+-+-+-+-+-+-+-+-+-+
--     |C|     Line_Number     |   Horizontal_Offset   |S|  StreamNum  |
--     +-+-+-+-+-+-+-+-+-+-+-+-+-+-+-+-+-+-+-+-+-+-+-+-+-+-+-+-+-+-+-+-+
--     |        DID        |        SDID       |     Data_Count    |   |
--     +-+-+-+-+-+-+-+-+-+-+-+-+-+-+-+-+-+-+-+-+-+-+-+-+-+-+-+-+-+-+   +
--     |                        User_Data_Words                        |
--     +           +-+-+-+-+-+-+-+-+-+-+-+-+-+-+-+-+-+-+-+-+-+-+-+-+-+-+
--     |           |   Checksum_Word   |           word_align          |
--     +-+-+-+-+-+-+-+-+-+-+-+-+-+-+-+-+-+-+-+-+-+-+-+-+-+-+-+-+-+-+-+-+
--
-- Document 001, figure 1, from ANC_Count, the last octet of the payload header, on:
--
--     +-+-+-+-+-+-+-+-+-+-+-+-+-+-+-+-+-+-+-+-+-+-+-+-+-+-+-+-+-+-+-+-+
--     | ANC_Count     |C|   Line_Number       |   Horizontal_Offset   |
--     +-+-+-+-+-+-+-+-+-+-+-+-+-+-+-+-+-+-+-+-+-+-+-+-+-+-+-+-+-+-+-+-+
--     |        DID        |        SDID       |   Data_Count      | R |
--     +-+-+-+-+-+-+-+-+-+-+-+-+-+-+-+-+-+-+-+-+-+-+-+-+-+-+-+-+-+-+-+-+
--     |                            User_Data_Words...
--     +-+-+-+-+-+-+-+-+-+-+-+-+-+-+-+-+-+-+-+-+-+-+-+-+-+-+-+-+-+-+-+-+
--     |   Checksum_Word   |octet_align|    (next ANC data packet)...
--     +-+-+-+-+-+-+-+-+-+-+-+-+-+-+-+-+-+-+-+-+-+-+-+-+-+-+-+-+-+-+-+-+
--
-- the bits before DID
abbrev pub location_fields : Layout → Record → Fields
location_fields L r = (1, r.c) ∷ (11, r.line) ∷ (12, r.offset) ∷ (s_bits L, r.s) ∷ (stream_bits L, r.stream) ∷ []

-- all before the user data words; 001: "R is a field of two reserved bits that MUST be set to zero"
abbrev pub header_fields : Layout → Record → Fields
header_fields L r =
    location_fields L r
    ++ (word_bits, header_word r.did) ∷ (word_bits, header_word r.sdid) ∷ (word_bits, header_word (length r.words))
    ∷ (r_bits L, 0) ∷ []

-- ".. DID, SDID, Data_Count, n user data words, checksum, ..", with some word in the checksum's place
abbrev pub body_fields_with : Layout → Record → ℕ → Fields
body_fields_with L r word = header_fields L r ++ (row word_bits r.words ++ (word_bits, word) ∷ [])

abbrev pub body_fields : Layout → Record → Fields
body_fields L r = body_fields_with L r (checksum r)

-- word_align (RFC 8331, section 2.1): the bits that take `n` bits up to a multiple of `a`
abbrev pub padding : ℕ → ℕ → ℕ
padding a n = (a - n % a) % a

-- ".. then zero bits up to a multiple of 32"; "zero bits to a full octet"
abbrev pub anc_fields_with : Layout → Record → ℕ → Fields
anc_fields_with L r word = body_fields_with L r word ++ (padding (alignment L) (width (body_fields_with L r word)), 0) ∷ []

abbrev pub anc_fields : Layout → Record → Fields
anc_fields L r = anc_fields_with L r (checksum r)

-- "All fields run most significant bit first."
abbrev pub anc_octets_with : Layout → Record → ℕ → List ℕ
anc_octets_with L r word = pack (anc_fields_with L r word)

abbrev pub anc_octets : Layout → Record → List ℕ
anc_octets L r = anc_octets_with L r (checksum r)

-- a run: ANC data packets one after the other
abbrev pub run_octets : Layout → List Record → List ℕ
run_octets L [] = []
run_octets L (r ∷ rs) = anc_octets L r ++ run_octets L rs

-- bits before the alignment of a packet with `n` user data words: 72 + 10n in RFC 8331's layout, 66 + 10n in the drafts'
abbrev pub body_bits : Layout → ℕ → ℕ
body_bits L n = s_at + s_bits L + stream_bits L + 4 * word_bits + r_bits L + word_bits * n

-- "Size in octets: 4 x ceiling((72 + 10n) / 32)"; "ceiling((66 + 10n) / 8) octets"
unfoldable pub anc_size : Layout → ℕ → ℕ
anc_size L n = (body_bits L n + padding (alignment L) (body_bits L n)) / 8

-- Reading the packet at the front of the octets `s`: the bits at which DID and the user data words start.
abbrev pub did_at : Layout → ℕ
did_at L = s_at + s_bits L + stream_bits L

abbrev pub words_at : Layout → ℕ
words_at L = did_at L + word_bits + word_bits + word_bits + r_bits L

-- RFC 8331, section 2.1: "The lower 8 bits of Data_Count .. contain the actual count"
abbrev pub data_count : Layout → List ℕ → ℕ
data_count L s = bits_at s (did_at L + word_bits + word_bits) word_bits % header_numbers

-- the record that stands there; "StreamNum is kept even if S is 0"
unfoldable pub anc_record : Layout → List ℕ → Record
anc_record L s =
    record {
      c = bits_at s 0 1;
      line = bits_at s 1 11;
      offset = bits_at s 12 12;
      s = bits_at s s_at (s_bits L);
      stream = bits_at s (s_at + s_bits L) (stream_bits L);
      did = bits_at s (did_at L) word_bits % header_numbers;
      sdid = bits_at s (did_at L + word_bits) word_bits % header_numbers;
      words = row_at word_bits s (words_at L) (data_count L s);
    }

-- DID, SDID and Data_Count as they stand in the octets
abbrev pub header_words : Layout → List ℕ → List ℕ
header_words L s = row_at word_bits s (did_at L) 3

-- 10: "DID, SDID or Data_Count word malformed"
abbrev pub are_header_words : List ℕ → Bool
are_header_words [] = true
are_header_words (w ∷ ws) = is_header_word w && are_header_words ws

unfoldable pub headers_ok : Layout → List ℕ → Bool
headers_ok L s = are_header_words (header_words L s)

-- 15: "an R bit set"
unfoldable pub r_ok : Layout → List ℕ → Bool
r_ok L s = eqb (bits_at s (did_at L + word_bits + word_bits + word_bits) (r_bits L)) 0

-- 16: "Packets .. with them are refused", a protected word among the user data words (02, K5)
unfoldable pub words_ok : Layout → List ℕ → Bool
words_ok L s = all_clear (row_at word_bits s (words_at L) (data_count L s))

-- the word in the checksum's place
abbrev pub sum_field : Layout → List ℕ → ℕ
sum_field L s = bits_at s (words_at L + word_bits * data_count L s) word_bits

-- 11: "checksum word wrong"; "The nine-bit checksum sentence of 001 decides."
unfoldable pub checksum_ok : Layout → List ℕ → Bool
checksum_ok L s =
    eqb (sum_field L s)
    (checksum_word (sum_low (header_words L s ++ row_at word_bits s (words_at L) (data_count L s))))

-- 12: "alignment bit set"
unfoldable pub alignment_ok : Layout → List ℕ → Bool
alignment_ok L s = eqb (bits_at s (body_bits L (data_count L s)) (padding (alignment L) (body_bits L (data_count L s)))) 0

-- 01, "Order of reading": "each ANC packet in turn: 9 (under 12 octets left), 10, 9 (its size), 11, 12"; 02, K3: "15 .. after the second
-- 9 and before 11"; K5: "16 .. just before 11"
unfoldable pub anc_checks : Layout → List ℕ → Checks
anc_checks L s =
    (leb (least_size L) (length s), 9)
    ∷ (headers_ok L s, 10)
    ∷ (leb (anc_size L (data_count L s)) (length s), 9)
    ∷ (r_ok L s, 15)
    ∷ (words_ok L s, 16)
    ∷ (checksum_ok L s, 11)
    ∷ (alignment_ok L s, 12)
    ∷ []

-- the packet with index `i`, at the front of the octets `s`
unfoldable pub read_anc : Layout → ℕ → List ℕ → Result Record
read_anc L i s = judge i (anc_checks L s) (Ok (anc_record L s))

-- the octets behind the packet at the front
abbrev pub behind : Layout → List ℕ → List ℕ
behind L s = drop (anc_size L (data_count L s)) s

-- `n` packets at the front of the octets `s`, the first with index `i`: their records, and the octets behind them
unfoldable pub read_run : Layout → ℕ → ℕ → List ℕ → Result (List Record × List ℕ)
read_run L i zero s = Ok ([], s)
read_run L i (suc n) s =
    read_anc L i s then λ r. read_run L (i + 1) n (behind L s) then λ q. Ok (r ∷ q.0, q.1)

-- octets of a run
abbrev pub run_size : Layout → List Record → ℕ
run_size L [] = 0
run_size L (r ∷ rs) = anc_size L (length r.words) + run_size L rs
