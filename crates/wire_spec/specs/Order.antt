-- 01's "Order of reading" and "Writing" in the words of its table "Numbers of refusal" (with 02, K3, K5, K7, K13): the faults in the order in which
-- they are looked for. Said without the checks of reader and writer; proofs/ReadingOrder.antt and proofs/WritingOrder.antt show that these give
-- exactly the number of the first fault, and its index. Numbers that a paper fixes stand here as the paper has them, not by name.
use Rattle.std.specs.Prelude.{◌≡◌, ◌⊎◌, List, [], ◌∷◌, ℕ, zero, suc, ◌+◌, ◌-◌, ◌*◌, ◌/◌, ◌%◌, ◌<◌, ◌≤◌, length, take, drop, get_or}
use Rattle.wire_spec.specs.declared.layout.Layout.TheVariants as layout
use Rattle.wire_spec.specs.Bits.{bits_at}
use Rattle.wire_spec.specs.Words.{header_word}
use Rattle.wire_spec.specs.Layout.{Layout, rfc8331, r_bits}
use Rattle.wire_spec.specs.Result.{Ok}
use Rattle.wire_spec.specs.Anc.{Record, InRange, Each, checksum, did_at, data_count, anc_record, sum_field, behind}
use Rattle.wire_spec.specs.Cells.{Lists, list_of, cell_count, rest}
use Rattle.wire_spec.specs.Packet.{last_octet, header_size, padding_flag, padding_count, length_field, anc_count, f_field, run_at, Content, read_content}
use Rattle.wire_spec.specs.Writing.{content_octets, with_records}

-- faults in the order in which they are looked for, each with its number
abbrev pub Faults : Type 1
Faults = List (ℕ × Type 0)

-- none of them is there
abbrev pub None : Faults → Type 0
None [] = Unit {0}
None (f ∷ fs) = (f.1 → ⊥) × None fs

-- the first that is there has the number `n`
abbrev pub First : ℕ → Faults → Type 0
First n [] = ⊥
First n (f ∷ fs) = (f.1 × (f.0 ≡ n)) ⊎ ((f.1 → ⊥) × First n fs)

-- some element of a list is such
abbrev pub Some : {A : Type 0} → (A → Type 0) → List A → Type 0
Some P [] = ⊥
Some P (x ∷ xs) = P x ⊎ Some P xs

-- one of these numbers
abbrev pub Among : List ℕ → ℕ → Type 0
Among ns n = Some (λ (m : ℕ). m ≡ n) ns

-- what is left after `j` turns
abbrev pub after : {A : Type 0} → (A → A) → ℕ → A → A
after next zero s = s
after next (suc j) s = after next j (next s)

-- "each .. in turn": of the turns before `i` none has a fault, and the first fault of that turn has the number `n`
pub record InTurn {A : Type 0} (faults : A → Faults) (next : A → A) (s : A) (n i : ℕ) : Type 0 where
  pub before : (j : ℕ) → j < i → None (faults (after next j s))
  pub here : First n (faults (after next i s))

-- "RTP header: 12 octets, then 4 for each contributing source (CC), then, if X, 4 octets whose last two count further 32-bit words."
abbrev pub extension_octets : (x : ℕ) → List ℕ → (at : ℕ) → ℕ
extension_octets zero s at = 0
extension_octets (suc x) s at = 4 + 4 * bits_at s (8 * at + 16) 16

abbrev pub header_octets : List ℕ → ℕ
header_octets s = 12 + 4 * bits_at s 4 4 + extension_octets (bits_at s 3 1) s (12 + 4 * bits_at s 4 4)

-- "If P, the last octet counts the padding, itself included."
abbrev pub padding_octets : (p : ℕ) → List ℕ → ℕ
padding_octets zero s = 0
padding_octets (suc p) s = get_or s (length s - 1) 0

-- "Payload header, 8 octets"; "The payload header is 5 octets" (02, K3)
abbrev pub payload_octets : Layout → ℕ
payload_octets layout.Rfc8331 = 8
payload_octets layout.Draft2015 = 5

-- "1, 2 (under 12 octets), 3, 2 (rest), 4, 5, 6, 7, 8"
abbrev pub front_faults : Layout → List ℕ → Faults
front_faults L s =
    -- "over 65,535 octets"
    (1, 65535 < length s)
    -- "header .. cut"
    ∷ (2, length s < 12)
    -- "version not 2"
    ∷ (3, bits_at s 0 2 ≡ 2 → ⊥)
    -- ".. sources or extension cut"
    ∷ (2, length s < header_size s)
    -- "padding count 0 or over what follows the header"
    ∷ (4, (padding_flag s ≡ 1) × ((last_octet s ≡ 0) ⊎ (length s < header_size s + last_octet s)))
    -- "fewer than 8 payload octets after padding is taken off"; "in the old layout 5 means under 5 octets"
    ∷ (5, length s < header_size s + payload_octets L + padding_count s)
    -- "F is 1"
    ∷ (6, f_field L s ≡ 1)
    -- "Length differs from payload octets less 8"; "7 means payload less 5"
    ∷ (7, header_size s + payload_octets L + length_field s + padding_count s ≡ length s → ⊥)
    -- "ANC_Count 0, Length not 0"
    ∷ (8, (anc_count s ≡ 0) × (length_field s ≡ 0 → ⊥))
    ∷ []

-- "9 (under 12 octets left)"; "the first 9 means under 9 octets left" (02, K3)
abbrev pub least_octets : Layout → ℕ
least_octets layout.Rfc8331 = 12
least_octets layout.Draft2015 = 9

-- the bits before the alignment, and "Size in octets: 4 x ceiling((72 + 10n) / 32)"; "ceiling((66 + 10n) / 8) octets" (02, K3)
abbrev pub bits_of : Layout → ℕ → ℕ
bits_of layout.Rfc8331 n = 72 + 10 * n
bits_of layout.Draft2015 n = 66 + 10 * n

abbrev pub octets_of : Layout → ℕ → ℕ
octets_of layout.Rfc8331 n = 4 * ((72 + 10 * n + 31) / 32)
octets_of layout.Draft2015 n = (66 + 10 * n + 7) / 8

-- a word whose b8 and b9 are not those of the number in b7..b0
abbrev pub Malformed : ℕ → Type 0
Malformed w = w ≡ header_word (w % 256) → ⊥

-- "ST 291-1 keeps 0x000 to 0x003 and 0x3FC to 0x3FF for timing" (02, K5)
abbrev pub Protected : ℕ → Type 0
Protected w = (w ≤ 0x003) ⊎ (0x3FC ≤ w)

-- "each ANC packet in turn: 9 (under 12 octets left), 10, 9 (its size), 11, 12"; "15 .. after the second 9 and before 11" (02, K3); "16 .. just
-- before 11 (after 15 where there is one)" (K5)
abbrev pub anc_faults : Layout → List ℕ → Faults
anc_faults L s =
    -- "ANC packet cut"
    (9, length s < least_octets L)
    -- "DID, SDID or Data_Count word malformed"
    ∷ (10, Malformed (bits_at s (did_at L) 10) ⊎ (Malformed (bits_at s (did_at L + 10) 10) ⊎ Malformed (bits_at s (did_at L + 10 + 10) 10)))
    -- "ANC packet cut"
    ∷ (9, length s < octets_of L (data_count L s))
    -- "an R bit set"
    ∷ (15, bits_at s (did_at L + 10 + 10 + 10) (r_bits L) ≡ 0 → ⊥)
    -- a protected word in user data
    ∷ (16, Some Protected (anc_record L s).words)
    -- "checksum word wrong"
    ∷ (11, sum_field L s ≡ checksum (anc_record L s) → ⊥)
    -- "alignment bit set"
    ∷ (12, bits_at s (bits_of L (data_count L s)) (8 * octets_of L (data_count L s) - bits_of L (data_count L s)) ≡ 0 → ⊥)
    ∷ []

-- the octets that Length counts
abbrev pub anc_region : Layout → List ℕ → List ℕ
anc_region L s = take (length_field s) (drop (run_at L s) s)

-- The octets `s` are refused with the number `n` and the index `i`, where ANC packets are looked through for these faults: "the ANC packet for 9 to
-- 12, .. otherwise 0"; 13 is "octets left after the last ANC packet".
abbrev pub RefusedBy : (Layout → List ℕ → Faults) → Layout → List ℕ → (n i : ℕ) → Type 0
RefusedBy faults L s n i =
    (First n (front_faults L s) × (i ≡ 0))
    ⊎ (None (front_faults L s)
    × (((i < anc_count s) × InTurn (faults L) (behind L) (anc_region L s) n i)
    ⊎ (((j : ℕ) → j < anc_count s → None (faults L (after (behind L) j (anc_region L s))))
    × (0 < length (after (behind L) (anc_count s) (anc_region L s))) × (n ≡ 13) × (i ≡ 0))))

-- ".. then 13, 14."
abbrev pub ReadRefused : Layout → List ℕ → (n i : ℕ) → Type 0
ReadRefused L s n i = RefusedBy anc_faults L s n i

-- and 14 last, "lent list shorter than the records need", for a list of `room` cells
abbrev pub RefusedInto : Layout → List ℕ → (room n i : ℕ) → Type 0
RefusedInto L s room n i =
    ReadRefused L s n i ⊎ ((k : Content) × (read_content L s ≡ Ok k) × (room < length (list_of k.records)) × (n ≡ 14) × (i ≡ 0))

-- "Writing: 24, 20, 21, 22, 23."; "16 .. after 20" (02, K5), "25 .. after 21" (K3), without 22 (K7)
-- "payload type over 127, or F is 1 or over 3"
abbrev pub head_faults : Content → Faults
head_faults k = (24, (127 < k.type) ⊎ ((k.f ≡ 1) ⊎ (3 < k.f))) ∷ []

-- the cells of a record before its words, each with the largest number of its field: "C 1, Line_Number 11, Horizontal_Offset 12, S 1, StreamNum 7",
-- eight bits for DID, SDID and n, and "20 if the cell is over 4,095" (02, K13)
abbrev pub cell_limits : List ℕ → List (ℕ × ℕ)
cell_limits l =
    (get_or l 0 0, 1) ∷ (get_or l 1 0, 2047) ∷ (get_or l 2 0, 4095) ∷ (get_or l 3 0, 1) ∷ (get_or l 4 0, 127) ∷ (get_or l 5 0, 255) ∷ (get_or l 6 0, 255)
    ∷ (get_or l 7 0, 255) ∷ (get_or l 8 0, 4095) ∷ []

-- "list malformed: a cell too large for its field, a record cut", of the record at the front; "A record is 9 + n cells" (02, K13)
abbrev pub cell_faults : List ℕ → Faults
cell_faults l =
    (20, length l < 9)
    ∷ (20, Some (λ (c : ℕ × ℕ). c.1 < c.0) (cell_limits l))
    ∷ (20, length l < 9 + cell_count l)
    ∷ (20, Some (λ (w : ℕ). 1023 < w) (take (cell_count l) (drop 9 l)))
    ∷ []

-- a protected word, of the first of some records
abbrev pub clear_faults : List Record → Faults
clear_faults [] = []
clear_faults (r ∷ rs) = (16, Some Protected r.words) ∷ []

abbrev pub Unprotected : Record → Type 0
Unprotected r = Some Protected r.words → ⊥

-- "F, S or StreamNum not zero in old writing" (02, K3)
abbrev pub NotHeld : Layout → Content → Type 0
NotHeld layout.Rfc8331 k = ⊥
NotHeld layout.Draft2015 k = (k.f ≡ 0 → ⊥) ⊎ Some (λ (r : Record). (r.s ≡ 0 → ⊥) ⊎ (r.stream ≡ 0 → ⊥)) k.records

-- "21 means over 255 records or 32,768 cells for an RTP packet" (02, K2), "limits in cells become 36,864" (K13); 23: "lent octets too few"
abbrev pub limit_faults : Layout → Content → (cells room : ℕ) → Faults
limit_faults L k cells room =
    (21, (255 < length k.records) ⊎ (36864 < cells)) ∷ (25, NotHeld L k) ∷ (23, room < length (content_octets L k)) ∷ []

-- A list is refused with the number `n` and the index `i`, "the record for 20", and "16 with the record's index" (K5), otherwise 0: 20 is looked for
-- over the whole list, then 16, then the rest.
abbrev pub WriteRefused : Layout → Content → (cells : List ℕ) (room n i : ℕ) → Type 0
WriteRefused L k cells room n i =
    (First n (head_faults k) × (i ≡ 0))
    ⊎ (None (head_faults k)
    × (((0 < length (after rest i cells)) × InTurn cell_faults rest cells n i)
    ⊎ ((rs : List Record) × Each (InRange rfc8331) rs × Lists rs cells
    × (InTurn clear_faults (drop 1) rs n i
    ⊎ (Each Unprotected rs × First n (limit_faults L (with_records k rs) (length cells) room) × (i ≡ 0))))))

-- "A refusal returns its number and an index from 0: the ANC packet for 9 to 12, .. otherwise 0."; "15 .. with the ANC packet's index" (02, K3), "16 with
-- the ANC packet's index" (K5). Of a packet that says so many ANC packets.
abbrev pub ReadIndex : (count n i : ℕ) → Type 0
ReadIndex count n i =
    (Among (9 ∷ 10 ∷ 11 ∷ 12 ∷ 15 ∷ 16 ∷ []) n × (i < count))
    ⊎ (Among (1 ∷ 2 ∷ 3 ∷ 4 ∷ 5 ∷ 6 ∷ 7 ∷ 8 ∷ 13 ∷ 14 ∷ []) n × (i ≡ 0))

-- ".. the record for 20, .. otherwise 0"; "in writing 16 with the record's index" (02, K5). Of a list that so many records could stand in.
abbrev pub WriteIndex : (cells n i : ℕ) → Type 0
WriteIndex cells n i = (Among (20 ∷ 16 ∷ []) n × (i < cells)) ⊎ (Among (24 ∷ 21 ∷ 25 ∷ 23 ∷ []) n × (i ≡ 0))
