-- The layout of the drafts of 2015 (02, K3): sizes, records, whole packets, and each refusal that is another there, with its place in the order
-- and its index. By computation.
use mathlib.Core.Path.{◌≡◌, refl}
use mathlib.Core.Bool.{true, false, ◌&&◌}
use mathlib.Core.List.{List, [], ◌∷◌, ◌++◌}
use Prim.Native.Nat.{ℕ}
use lib.Dec.{leb}
use lib.ListN.{length, take, set}
use Rattle.wire_spec.specs.Bits.{to_bits, num, bits, octets, bits_at, row_at, field_bits}
use Rattle.wire_spec.specs.Words.{header_word, checksum_word}
use Rattle.wire_spec.specs.Layout.{rfc8331, draft2015}
use Rattle.wire_spec.specs.Result.{Ok, refuse}
use Rattle.wire_spec.specs.Anc.{Record, body_bits, padding, anc_octets, anc_size, anc_record, headers_ok, r_ok, words_ok, checksum_ok, alignment_ok, anc_checks, read_anc, read_run}
use Rattle.wire_spec.specs.Cells.{cells_of, list_of, cell_record, head_in_range, cell_checks, records_from, clear_from, read_list}
use Rattle.wire_spec.specs.Packet.{packet_octets, packet_read, header_checks, padding_checks, payload_checks, read_records, read_packet, Content, read_content}
use Rattle.wire_spec.specs.Writing.{max_records, max_cells, with_records, head_ok, head_checks, limit_checks, write_content}
use Rattle.wire_spec.proofs.WritingLaws.{limit-fails}
use Rattle.wire_spec.proofs.Examples.{a, b}
use Rattle.wire_spec.proofs.PacketExamples.{empty_octets}

-- "ceiling((66 + 10n) / 8) octets"; three words take no alignment
pub sizes : (anc_size draft2015 0 ≡ 9) × (anc_size draft2015 3 ≡ 12) × (padding 8 (body_bits draft2015 3) ≡ 0) × (anc_size draft2015 4 ≡ 14)
    × (anc_size draft2015 255 ≡ 327)
unfolding anc_size
sizes = (refl, refl, refl, refl, refl)

-- record A
abbrev pub a_octets : List ℕ
a_octets = 0x00 ∷ 0x90 ∷ 0x00 ∷ 0x90 ∷ 0x60 ∷ 0x58 ∷ 0x00 ∷ 0x91 ∷ 0x80 ∷ []

-- record B without S and StreamNum
abbrev pub plain_b : Record
plain_b = record { c = 1; line = 0x7FF; offset = 0xFFF; s = 0; stream = 0; did = 0x61; sdid = 0x02; words = 0x2AA ∷ 0x155 ∷ [] }

abbrev pub plain_b_octets : List ℕ
plain_b_octets = 0xFF ∷ 0xFF ∷ 0xFF ∷ 0x58 ∷ 0x50 ∷ 0x24 ∷ 0x08 ∷ 0xAA ∷ 0x95 ∷ 0x55 ∷ 0x90 ∷ []

-- written
pub written : (anc_octets draft2015 a ≡ a_octets) × (anc_octets draft2015 plain_b ≡ plain_b_octets)
unfolding to_bits num octets field_bits header_word checksum_word
written = (refl, refl)

-- and read, alone and as a run
pub read : (i : ℕ) → (read_anc draft2015 i a_octets ≡ Ok a) × (read_anc draft2015 i plain_b_octets ≡ Ok plain_b)
    × (read_run draft2015 0 2 (a_octets ++ (plain_b_octets ++ (7 ∷ []))) ≡ Ok (a ∷ plain_b ∷ [], 7 ∷ []))
unfolding to_bits num bits bits_at row_at header_word checksum_word anc_size anc_record headers_ok r_ok words_ok checksum_ok alignment_ok anc_checks read_anc read_run
read i = (refl, refl, refl)

-- "The nine-bit checksum sentence of 001 decides.": DID's word 161 has b8 set, so a sum of nine bits is 166 and one of eight, as 000 could be
-- read, is 266
abbrev nine : Record
nine = record { c = 0; line = 9; offset = 0; s = 0; stream = 0; did = 0x61; sdid = 0x05; words = [] }

abbrev nine_octets : List ℕ
nine_octets = 0x00 ∷ 0x90 ∷ 0x00 ∷ 0x58 ∷ 0x60 ∷ 0x58 ∷ 0x00 ∷ 0x59 ∷ 0x80 ∷ []

pub nine-bits : (i : ℕ) → (anc_octets draft2015 nine ≡ nine_octets) × (read_anc draft2015 i nine_octets ≡ Ok nine)
    × (read_anc draft2015 i (set nine_octets 7 0x99) ≡ refuse 11 i)
unfolding to_bits num bits octets field_bits bits_at row_at header_word checksum_word anc_size anc_record headers_ok r_ok words_ok checksum_ok alignment_ok anc_checks read_anc read_run
nine-bits i = (refl, refl, refl)

-- An ANC packet refused: under 9 octets left; a header word malformed; cut under its own size, also with an R bit set; an R bit set, each of the
-- two, also with a wrong checksum; a wrong checksum; an alignment bit set. In a run 15 has the packet's index.
pub refusals : (i : ℕ) → (read_anc draft2015 i (take 8 a_octets) ≡ refuse 9 i)
    × (read_anc draft2015 i (set (set a_octets 3 0x10) 6 0x01) ≡ refuse 10 i)
    × (read_anc draft2015 i (take 10 plain_b_octets) ≡ refuse 9 i)
    × (read_anc draft2015 i (take 10 (set plain_b_octets 6 0x09)) ≡ refuse 9 i)
    × (read_anc draft2015 i (set a_octets 6 0x01) ≡ refuse 15 i)
    × (read_anc draft2015 i (set a_octets 6 0x02) ≡ refuse 15 i)
    × (read_anc draft2015 i (set (set a_octets 6 0x01) 7 0x90) ≡ refuse 15 i)
    × (read_anc draft2015 i (set a_octets 7 0x90) ≡ refuse 11 i)
    × (read_anc draft2015 i (set a_octets 8 0x81) ≡ refuse 12 i)
    × (read_run draft2015 0 2 (a_octets ++ set plain_b_octets 6 0x09) ≡ refuse 15 1)
unfolding to_bits num bits bits_at row_at header_word checksum_word anc_size anc_record headers_ok r_ok words_ok checksum_ok alignment_ok anc_checks read_anc read_run
refusals i = (refl, refl, refl, refl, refl, refl, refl, refl, refl, refl)

-- a packet of these records, or of others: F is 0
abbrev saying : (type f : ℕ) → List Record → Content
saying type f rs = record { source = 1; type = type; marker = 1; number = 0x10007; timestamp = 1000; f = f; records = rs }

-- its 17 octets before the ANC data packets
abbrev front : (size count : ℕ) → List ℕ
front size count =
    0x80 ∷ 0xF0 ∷ 0x00 ∷ 0x07 ∷ 0x00 ∷ 0x00 ∷ 0x03 ∷ 0xE8 ∷ 0x00 ∷ 0x00 ∷ 0x00 ∷ 0x01
    ∷ 0x00 ∷ 0x01 ∷ 0x00 ∷ size ∷ count ∷ []

abbrev pub packet_of : List ℕ
packet_of = front 20 2 ++ (a_octets ++ plain_b_octets)

-- written and read; an empty list gives 17 octets
pub packets : (write_content draft2015 (saying 112 0 []) (list_of (a ∷ plain_b ∷ [])) 37 ≡ Ok packet_of)
    × (read_content draft2015 packet_of ≡ Ok (saying 112 0 (a ∷ plain_b ∷ [])))
    × (write_content draft2015 (saying 112 0 []) [] 17 ≡ Ok (front 0 0))
    × (read_content draft2015 (front 0 0) ≡ Ok (saying 112 0 []))
unfolding to_bits num bits octets bits_at row_at field_bits header_word checksum_word anc_size anc_record headers_ok r_ok words_ok checksum_ok alignment_ok anc_checks read_anc read_run packet_octets packet_read header_checks padding_checks payload_checks read_records read_packet read_content cell_record head_in_range cell_checks records_from clear_from write_content
packets = (refl, refl, refl, refl)

-- A packet refused: 5, under 5 payload octets; 7, Length is not payload less 5; 8 and 13; 15 with the ANC packet's index. No octet is an F: 6 is not
-- given where RFC 8331's F would be 1.
pub refused-packets : (read_content draft2015 (take 16 (front 0 0)) ≡ refuse 5 0)
    × (read_content draft2015 (front 3 0) ≡ refuse 7 0)
    × (read_content draft2015 (front 9 0 ++ a_octets) ≡ refuse 8 0)
    × (read_content draft2015 (front 20 1 ++ (a_octets ++ plain_b_octets)) ≡ refuse 13 0)
    × (read_content draft2015 (front 20 2 ++ (a_octets ++ set plain_b_octets 6 0x0A)) ≡ refuse 15 1)
    × (read_content draft2015 (front 9 1 ++ set a_octets 0 0x40) ≡ Ok (saying 112 0 (record { c = 0; line = 0x409; offset = 0; s = 0; stream = 0; did = 0x41; sdid = 0x05; words = [] } ∷ [])))
unfolding to_bits num bits bits_at row_at header_word checksum_word anc_size anc_record headers_ok r_ok words_ok checksum_ok alignment_ok anc_checks read_anc read_run packet_read header_checks padding_checks payload_checks read_records read_packet read_content
refused-packets = (refl, refl, refl, refl, refl, refl)

-- one layout told and the other's packet given
pub other-layout : (read_content rfc8331 packet_of ≡ refuse 7 0) × (read_content rfc8331 (front 0 0) ≡ refuse 5 0) × (read_content draft2015 empty_octets ≡ refuse 7 0)
unfolding to_bits num bits bits_at header_checks padding_checks payload_checks read_packet read_content
other-layout = (refl, refl, refl)

-- 25: F, S or StreamNum not zero, also where the room is short. 24 comes before it, and 20 with the record's index. In RFC 8331's layout it is
-- not given.
pub refused-writing : (write_content draft2015 (saying 112 2 []) [] 17 ≡ refuse 25 0)
    × (write_content draft2015 (saying 112 0 []) (set (list_of (a ∷ a ∷ [])) 12 1) 35 ≡ refuse 25 0)
    × (write_content draft2015 (saying 112 0 []) (set (list_of (a ∷ a ∷ [])) 13 3) 0 ≡ refuse 25 0)
    × (write_content draft2015 (saying 112 1 []) [] 17 ≡ refuse 24 0)
    × (write_content draft2015 (saying 112 2 []) (cells_of b ++ (1 ∷ [])) 37 ≡ refuse 20 1)
    × (write_content draft2015 (saying 112 0 []) [] 16 ≡ refuse 23 0)
unfolding to_bits num octets field_bits header_word checksum_word packet_octets cell_record head_in_range cell_checks records_from clear_from write_content
refused-writing = (refl, refl, refl, refl, refl, refl)

-- "25 .. after 21": over 21's limits, 21 is given whatever F, S and StreamNum are
pub limits-first : (k : Content) (cells : List ℕ) (rs : List Record) (room : ℕ) → head_ok k.type k.f ≡ true → read_list cells ≡ Ok rs
    → leb (length rs) max_records && leb (length cells) max_cells ≡ false → write_content draft2015 k cells room ≡ refuse 21 0
unfolding write_content
limits-first k cells rs room ok e over =
    rw (limit-fails (head_checks k) (λ rs. limit_checks draft2015 (with_records k rs) (length cells) room) cells (ok, tt) rs e 0 tt over)
