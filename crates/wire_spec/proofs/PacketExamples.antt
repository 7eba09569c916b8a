-- Whole packets, read and written: an empty one, one with all that a packet can have, the refusals, and the frames of 01's `fieldlist` example.
-- By computation.
use mathlib.Core.Path.{◌≡◌, refl}
use mathlib.Core.List.{List, [], ◌∷◌, ◌++◌, map}
use Prim.Native.Nat.{ℕ}
use lib.ListN.{take, set}
use Rattle.wire_spec.specs.Bits.{to_bits, num, bits, octets, bits_at, row_at, field_bits}
use Rattle.wire_spec.specs.Words.{header_word, checksum_word}
use Rattle.wire_spec.specs.Layout.{rfc8331}
use Rattle.wire_spec.specs.Result.{Ok, refuse}
use Rattle.wire_spec.specs.Anc.{anc_size, anc_record, headers_ok, r_ok, words_ok, checksum_ok, alignment_ok, anc_checks, read_anc, read_run}
use Rattle.wire_spec.specs.Cells.{cells_in, cells_of, list_of, cell_record, head_in_range, cell_checks, records_from, clear_from}
use Rattle.wire_spec.specs.Packet.{Packet, packet_octets, packet_read, header_checks, padding_checks, payload_checks, read_records, read_packet, Content, read_content, read_into}
use Rattle.wire_spec.specs.Writing.{write_content}
use Rattle.wire_spec.proofs.Examples.{a, a_octets, b, b_octets}

-- an empty packet, of 20 octets
abbrev pub empty : Content
empty = record { source = 1; type = 112; marker = 1; number = 0x10007; timestamp = 1000; f = 2; records = [] }

abbrev pub empty_octets : List ℕ
empty_octets =
    0x80 ∷ 0xF0 ∷ 0x00 ∷ 0x07 ∷ 0x00 ∷ 0x00 ∷ 0x03 ∷ 0xE8 ∷ 0x00 ∷ 0x00 ∷ 0x00 ∷ 0x01
    ∷ 0x00 ∷ 0x01 ∷ 0x00 ∷ 0x00 ∷ 0x00 ∷ 0x80 ∷ 0x00 ∷ 0x00 ∷ []

-- the empty packet written and read
pub empty-packet : (write_content rfc8331 empty [] 20 ≡ Ok empty_octets) × (read_content rfc8331 empty_octets ≡ Ok empty)
unfolding to_bits num bits octets bits_at row_at field_bits read_run packet_octets packet_read header_checks padding_checks payload_checks read_records read_packet read_content records_from clear_from write_content
empty-packet = (refl, refl)

-- A and B
abbrev pub both : Content
both = record { source = 1; type = 112; marker = 1; number = 0x10007; timestamp = 1000; f = 2; records = a ∷ b ∷ [] }

abbrev pub both_octets : List ℕ
both_octets =
    0x80 ∷ 0xF0 ∷ 0x00 ∷ 0x07 ∷ 0x00 ∷ 0x00 ∷ 0x03 ∷ 0xE8 ∷ 0x00 ∷ 0x00 ∷ 0x00 ∷ 0x01
    ∷ 0x00 ∷ 0x01 ∷ 0x00 ∷ 0x18 ∷ 0x02 ∷ 0x80 ∷ 0x00 ∷ 0x00 ∷ (a_octets ++ b_octets)

-- the same with a contributing source, an extension of one word, the last reserved bit set, and two octets of padding
abbrev pub full : Packet
full =
    record {
      p = 1;
      x = 1;
      marker = 1;
      type = 112;
      sequence = 7;
      timestamp = 1000;
      source = 1;
      sources = 0x09090909 ∷ [];
      profile = 0x0102;
      extension = 0x05060708 ∷ [];
      extended = 1;
      f = 2;
      reserved = 1;
      records = a ∷ b ∷ [];
      padding = 7 ∷ 2 ∷ [];
    }

-- its 32 octets before the ANC data packets
abbrev pub full_front : List ℕ
full_front =
    0xB1 ∷ 0xF0 ∷ 0x00 ∷ 0x07 ∷ 0x00 ∷ 0x00 ∷ 0x03 ∷ 0xE8 ∷ 0x00 ∷ 0x00 ∷ 0x00 ∷ 0x01
    ∷ 0x09 ∷ 0x09 ∷ 0x09 ∷ 0x09 ∷ 0x01 ∷ 0x02 ∷ 0x00 ∷ 0x01 ∷ 0x05 ∷ 0x06 ∷ 0x07 ∷ 0x08
    ∷ 0x00 ∷ 0x01 ∷ 0x00 ∷ 0x18 ∷ 0x02 ∷ 0x80 ∷ 0x00 ∷ 0x01 ∷ []

abbrev pub full_octets : List ℕ
full_octets = full_front ++ (a_octets ++ (b_octets ++ (7 ∷ 2 ∷ [])))

-- the full packet's octets, what stands in them, what they say, and what the writer makes of that
pub full-packet : (packet_octets rfc8331 full ≡ full_octets) × (read_packet rfc8331 full_octets ≡ Ok full)
    × (read_content rfc8331 full_octets ≡ Ok both)
    × (write_content rfc8331 both (list_of (a ∷ b ∷ [])) 44 ≡ Ok both_octets)
    × (write_content rfc8331 both (cells_in 3 a ++ cells_in 4095 b) 44 ≡ Ok both_octets) × (read_content rfc8331 both_octets ≡ Ok both)
unfolding to_bits num bits octets bits_at row_at field_bits header_word checksum_word anc_size anc_record headers_ok r_ok words_ok checksum_ok alignment_ok anc_checks read_anc read_run packet_octets packet_read header_checks padding_checks payload_checks read_records read_packet read_content cell_record head_in_range cell_checks records_from clear_from write_content
full-packet = (refl, refl, refl, refl, refl, refl)

-- 2: under 12 octets; a contributing source cut; the extension's first four octets cut; its words cut
pub refused-2 : (read_content rfc8331 (take 11 empty_octets) ≡ refuse 2 0)
    × (read_content rfc8331 (take 15 (set empty_octets 0 0x81)) ≡ refuse 2 0)
    × (read_content rfc8331 (take 15 (set empty_octets 0 0x90)) ≡ refuse 2 0)
    × (read_content rfc8331 (take 23 full_octets) ≡ refuse 2 0)
unfolding to_bits num bits bits_at header_checks read_packet read_content
refused-2 = (refl, refl, refl, refl)

-- 3: version 1, also where a contributing source is cut; but not under 12 octets
pub refused-3 : (read_content rfc8331 (set empty_octets 0 0x40) ≡ refuse 3 0)
    × (read_content rfc8331 (take 15 (set empty_octets 0 0x41)) ≡ refuse 3 0)
    × (read_content rfc8331 (take 11 (set empty_octets 0 0x40)) ≡ refuse 2 0)
unfolding to_bits num bits bits_at header_checks read_packet read_content
refused-3 = (refl, refl, refl)

-- 4: a padding count of 0, and one over the octets behind the header
pub refused-4 : (read_content rfc8331 (set empty_octets 0 0xA0) ≡ refuse 4 0)
    × (read_content rfc8331 (set (set empty_octets 0 0xA0) 19 9) ≡ refuse 4 0)
unfolding to_bits num bits bits_at header_checks padding_checks read_packet read_content
refused-4 = (refl, refl)

-- 5: a payload under 8 octets, cut or taken by padding
pub refused-5 : (read_content rfc8331 (take 19 empty_octets) ≡ refuse 5 0)
    × (read_content rfc8331 (set (set empty_octets 0 0xA0) 19 8) ≡ refuse 5 0)
unfolding to_bits num bits bits_at header_checks padding_checks read_packet read_content
refused-5 = (refl, refl)

-- 6: F is 1; 7: Length is not what follows; 8: no packets but octets; 13: octets left after the last packet
pub refused-payload : (read_content rfc8331 (set empty_octets 17 0x40) ≡ refuse 6 0)
    × (read_content rfc8331 (set empty_octets 15 1) ≡ refuse 7 0)
    × (read_content rfc8331 (set empty_octets 15 12 ++ a_octets) ≡ refuse 8 0)
    × (read_content rfc8331 (set full_front 28 1 ++ (a_octets ++ (b_octets ++ (7 ∷ 2 ∷ [])))) ≡ refuse 13 0)
unfolding to_bits num bits bits_at row_at header_word checksum_word anc_size anc_record headers_ok r_ok words_ok checksum_ok alignment_ok anc_checks read_anc read_run header_checks padding_checks payload_checks read_records read_packet read_content
refused-payload = (refl, refl, refl, refl)

-- 9 and 11 with the index of the ANC data packet: three said and two there; B's checksum wrong
pub refused-anc : (read_content rfc8331 (set full_front 28 3 ++ (a_octets ++ (b_octets ++ (7 ∷ 2 ∷ [])))) ≡ refuse 9 2)
    × (read_content rfc8331 (full_front ++ (a_octets ++ (set b_octets 11 0x80 ++ (7 ∷ 2 ∷ [])))) ≡ refuse 11 1)
unfolding to_bits num bits bits_at row_at header_word checksum_word anc_size anc_record headers_ok r_ok words_ok checksum_ok alignment_ok anc_checks read_anc read_run header_checks padding_checks payload_checks read_records read_packet read_content
refused-anc = (refl, refl)

-- 14: A and B take 20 cells; refused octets are not asked for their cells
pub refused-14 : (read_into rfc8331 full_octets 20 ≡ Ok both) × (read_into rfc8331 full_octets 19 ≡ refuse 14 0)
    × (read_into rfc8331 (set empty_octets 17 0x40) 0 ≡ refuse 6 0)
unfolding to_bits num bits bits_at row_at header_word checksum_word anc_size anc_record headers_ok r_ok words_ok checksum_ok alignment_ok anc_checks read_anc read_run packet_read header_checks padding_checks payload_checks read_records read_packet read_content read_into
refused-14 = (refl, refl, refl)

-- the empty content with another payload type and another F
abbrev other : ℕ → ℕ → Content
other type f = record { source = 1; type = type; marker = 1; number = 0x10007; timestamp = 1000; f = f; records = [] }

-- The writer. 24: a payload type over 127, F 1, F over 3, told before the list is looked at; 20 with the index of the record
-- that is cut; 23: the lent room is an octet short.
pub refused-writing : (write_content rfc8331 (other 128 2) [] 20 ≡ refuse 24 0)
    × (write_content rfc8331 (other 127 1) [] 20 ≡ refuse 24 0)
    × (write_content rfc8331 (other 127 4) (1 ∷ []) 20 ≡ refuse 24 0)
    × (write_content rfc8331 both (cells_of a ++ (1 ∷ [])) 44 ≡ refuse 20 1)
    × (write_content rfc8331 both (list_of (a ∷ b ∷ [])) 43 ≡ refuse 23 0)
    × (write_content rfc8331 empty [] 19 ≡ refuse 23 0)
unfolding to_bits num octets field_bits header_word checksum_word packet_octets cell_record head_in_range cell_checks records_from clear_from write_content
refused-writing = (refl, refl, refl, refl, refl, refl)

-- "four marked frames of type 112, source 1 .. each carries record A"
abbrev pub frame : (number timestamp f : ℕ) → Content
frame number timestamp f = record { source = 1; type = 112; marker = 1; number = number; timestamp = timestamp; f = f; records = a ∷ [] }

-- "Numbers 7, 8, 8, 10; timestamps 1000, 2501, 2501, 5504; F 2, 3, 3, 3"; the second and third are one
abbrev pub frame7 : Content
frame7 = frame 7 1000 2

abbrev pub frame8 : Content
frame8 = frame 8 2501 3

abbrev pub frame10 : Content
frame10 = frame 10 5504 3

abbrev pub frames : List Content
frames = frame7 ∷ frame8 ∷ frame8 ∷ frame10 ∷ []

-- the octets of a frame whose numbers stand in so many octets
abbrev frame_octets : (number time_high time_low f : ℕ) → List ℕ
frame_octets number time_high time_low f =
    0x80 ∷ 0xF0 ∷ 0x00 ∷ number ∷ 0x00 ∷ 0x00 ∷ time_high ∷ time_low ∷ 0x00 ∷ 0x00 ∷ 0x00 ∷ 0x01
    ∷ 0x00 ∷ 0x00 ∷ 0x00 ∷ 0x0C ∷ 0x01 ∷ f ∷ 0x00 ∷ 0x00 ∷ a_octets

abbrev pub frame7_octets : List ℕ
frame7_octets = frame_octets 0x07 0x03 0xE8 0x80

abbrev pub frame8_octets : List ℕ
frame8_octets = frame_octets 0x08 0x09 0xC5 0xC0

abbrev pub frame10_octets : List ℕ
frame10_octets = frame_octets 0x0A 0x15 0x80 0xC0

abbrev pub frames_octets : List (List ℕ)
frames_octets = frame7_octets ∷ frame8_octets ∷ frame8_octets ∷ frame10_octets ∷ []

-- the frames written
pub frames-written : map (λ (k : Content). write_content rfc8331 k (list_of k.records) 32) frames ≡ map Ok frames_octets
unfolding to_bits num octets field_bits header_word checksum_word packet_octets cell_record head_in_range cell_checks records_from clear_from write_content
frames-written = refl

-- the frames read
pub frames-read : map (read_content rfc8331) frames_octets ≡ map Ok frames
unfolding to_bits num bits bits_at row_at header_word checksum_word anc_size anc_record headers_ok r_ok words_ok checksum_ok alignment_ok anc_checks read_anc read_run packet_read header_checks padding_checks payload_checks read_records read_packet read_content
frames-read = refl
