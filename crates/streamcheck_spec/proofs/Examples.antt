-- Reports of short streams: 01's four frames, and each finding with what is near it.
-- By computation.
use mathlib.Core.Path.{◌≡◌, refl}
use mathlib.Core.Bool.{true, false}
use mathlib.Core.List.Memᴰ
use mathlib.Core.List.{List, [], ◌∷◌, ◌++◌}
use Prim.Native.Nat.{ℕ}
use lib.ListN.{length}
use Rattle.wire_spec.specs.Bits.{to_bits, num, bits, bits_at, row_at}
use Rattle.wire_spec.specs.Words.{header_word, checksum_word}
use Rattle.wire_spec.specs.Layout.{rfc8331, draft2015}
use Rattle.anc_record.specs.Location.{line_of, offset_of}
use Rattle.wire_spec.specs.Anc.{anc_size, anc_record, headers_ok, r_ok, words_ok, checksum_ok, alignment_ok, anc_checks, read_anc, read_run}
use Rattle.wire_spec.specs.Packet.{packet_read, header_checks, padding_checks, payload_checks, read_records, read_packet}
use Rattle.wire_spec.proofs.PacketExamples.{frame7_octets, frame8_octets, frame10_octets, frames_octets}
use Rattle.text.specs.Text.{ascii, decimal, decimal_in}
use Rattle.streamcheck_spec.specs.declared.finding.Finding.{Finding}
use Rattle.streamcheck_spec.specs.declared.finding.Finding.TheVariants as finding
use Rattle.streamcheck_spec.specs.Rules.{NumberNotNext}
use Rattle.streamcheck_spec.specs.Check.{admitted, is_plain, is_lower, descends, place_after, is_gap, is_change, is_reserved, entries, report_from, report}
use Rattle.streamcheck_spec.specs.Text.{line_text, report_text, stream_text}
use Rattle.streamcheck_spec.proofs.ReportLaws.{report-lists}

-- 01's four frames, all marked: the third repeats the number 8, and 9 is missing before the fourth
pub four-frames : report rfc8331 false frames_octets ≡ (2, finding.Number) ∷ (3, finding.Number) ∷ []
unfolding to_bits num bits bits_at row_at header_word checksum_word anc_size anc_record headers_ok r_ok words_ok checksum_ok alignment_ok anc_checks read_anc read_run packet_read header_checks padding_checks payload_checks read_records read_packet line_of offset_of admitted is_plain is_lower descends place_after is_gap is_change is_reserved entries report_from report
four-frames = refl

-- the same as the program prints it, and with a frame that is cut
abbrev input : List ℕ
input = 0 ∷ 32 ∷ (frame7_octets ++ (0 ∷ 32 ∷ (frame8_octets ++ (0 ∷ 32 ∷ (frame8_octets ++ (0 ∷ 32 ∷ frame10_octets))))))

pub four-frames-text : (stream_text rfc8331 input ≡ ascii "2 number\n3 number\n")
    × (stream_text rfc8331 (input ++ (0 ∷ 1 ∷ [])) ≡ ascii "2 number\n3 number\n4 cut\n")
unfolding to_bits num bits bits_at row_at header_word checksum_word anc_size anc_record headers_ok r_ok words_ok checksum_ok alignment_ok anc_checks read_anc read_run packet_read header_checks padding_checks payload_checks read_records read_packet line_of offset_of admitted is_plain is_lower descends place_after is_gap is_change is_reserved entries report_from report ascii decimal decimal_in line_text report_text stream_text
four-frames-text = (refl, refl)

-- so the rule is broken, as it is defined
pub third-not-next : NumberNotNext rfc8331 frames_octets 2
unfolding to_bits num bits bits_at row_at header_word checksum_word anc_size anc_record headers_ok r_ok words_ok checksum_ok alignment_ok anc_checks read_anc read_run packet_read header_checks padding_checks payload_checks read_records read_packet line_of offset_of admitted is_plain is_lower descends place_after is_gap is_change is_reserved entries report_from report
third-not-next = (report-lists rfc8331 false frames_octets 2 finding.Number).0 (Memᴰ.head refl)

-- a packet of the payload type and the mark in the octet `type`, source `source`, number and time in one octet each, F in the octet `f`,
-- the last reserved octet `reserved`, and `count` ANC data packets
abbrev packet : (type source number time f reserved count : ℕ) → List ℕ → List ℕ
packet type source number time f reserved count run =
    0x80 ∷ type ∷ 0 ∷ number ∷ 0 ∷ 0 ∷ 0 ∷ time ∷ 0 ∷ 0 ∷ 0 ∷ source ∷ 0 ∷ 0 ∷ 0 ∷ length run ∷ count ∷ f ∷ 0 ∷ reserved ∷ run

-- marked and unmarked, of type 112, source 1, F 2
abbrev marked : (number time count : ℕ) → List ℕ → List ℕ
marked number time count run = packet 0xF0 1 number time 0x80 0 count run

abbrev unmarked : (number time count : ℕ) → List ℕ → List ℕ
unmarked number time count run = packet 0x70 1 number time 0x80 0 count run

-- record A at another place: three octets of C, line and offset
abbrev anc : (a b c : ℕ) → List ℕ
anc a b c = a ∷ b ∷ c ∷ 0x00 ∷ 0x90 ∷ 0x60 ∷ 0x58 ∷ 0x02 ∷ 0x46 ∷ 0x00 ∷ 0x00 ∷ 0x00 ∷ []

abbrev line9 : List ℕ
line9 = anc 0x00 0x90 0x00

abbrev line9off5 : List ℕ
line9off5 = anc 0x00 0x90 0x05

-- with its checksum wrong
abbrev line9off5bad : List ℕ
line9off5bad = 0x00 ∷ 0x90 ∷ 0x05 ∷ 0x00 ∷ 0x90 ∷ 0x60 ∷ 0x58 ∷ 0x02 ∷ 0x47 ∷ 0x00 ∷ 0x00 ∷ 0x00 ∷ []

abbrev line10 : List ℕ
line10 = anc 0x00 0xA0 0x00

-- without specific line and offset; any line of the vertical interval; line 10 without specific offset
abbrev anywhere : List ℕ
anywhere = anc 0x7F 0xFF 0xFF

abbrev vertical : List ℕ
vertical = anc 0x7F 0xE0 0x00

abbrev line9anywhere : List ℕ
line9anywhere = anc 0x00 0x9F 0xFF

abbrev line10anywhere : List ℕ
line10anywhere = anc 0x00 0xAF 0xFF

abbrev refuses : (number index : ℕ) → Finding
refuses number index = finding.Refused (record { number = number; index = index })

-- an empty stream; one packet has nothing before it; the next number; a frame cut at the start, and behind one packet
pub no-finding : (report rfc8331 false ([]) ≡ [])
    × (report rfc8331 false (unmarked 7 1 0 [] ∷ []) ≡ [])
    × (report rfc8331 false (unmarked 7 1 0 [] ∷ marked 8 1 0 [] ∷ []) ≡ [])
    × (report rfc8331 true ([]) ≡ (0, finding.Cut) ∷ [])
    × (report rfc8331 true (unmarked 7 1 0 [] ∷ []) ≡ (1, finding.Cut) ∷ [])
unfolding to_bits num bits bits_at row_at header_word checksum_word anc_size anc_record headers_ok r_ok words_ok checksum_ok alignment_ok anc_checks read_anc read_run packet_read header_checks padding_checks payload_checks read_records read_packet line_of offset_of admitted is_plain is_lower descends place_after is_gap is_change is_reserved entries report_from report
no-finding = (refl, refl, refl, refl, refl)

-- number 0xFFFFFFFF
abbrev last-number : List ℕ
last-number = 0x80 ∷ 0xF0 ∷ 0xFF ∷ 0xFF ∷ 0 ∷ 0 ∷ 0 ∷ 1 ∷ 0 ∷ 0 ∷ 0 ∷ 1 ∷ 0xFF ∷ 0xFF ∷ 0 ∷ 0 ∷ 0 ∷ 0x80 ∷ 0 ∷ 0 ∷ []

-- "number not the next": a gap, a repetition, one back; behind 0xFFFFFFFF comes 0; the packet behind a gap is compared with the one before it
pub number : (report rfc8331 false (marked 7 1 0 [] ∷ marked 9 2 0 [] ∷ marked 10 3 0 [] ∷ []) ≡ (1, finding.Number) ∷ [])
    × (report rfc8331 false (marked 7 1 0 [] ∷ marked 7 1 0 [] ∷ []) ≡ (1, finding.Number) ∷ [])
    × (report rfc8331 false (marked 7 1 0 [] ∷ marked 6 1 0 [] ∷ []) ≡ (1, finding.Number) ∷ [])
    × (report rfc8331 false (last-number ∷ marked 0 1 0 [] ∷ []) ≡ [])
    × (report rfc8331 false (last-number ∷ marked 1 1 0 [] ∷ []) ≡ (1, finding.Number) ∷ [])
unfolding to_bits num bits bits_at row_at header_word checksum_word anc_size anc_record headers_ok r_ok words_ok checksum_ok alignment_ok anc_checks read_anc read_run packet_read header_checks padding_checks payload_checks read_records read_packet line_of offset_of admitted is_plain is_lower descends place_after is_gap is_change is_reserved entries report_from report
number = (refl, refl, refl, refl, refl)

-- "timestamp or F changed before a mark": the timestamp, F, both (one line); behind a mark neither; a gap does not end a field
pub change : (report rfc8331 false (unmarked 7 1 0 [] ∷ marked 8 2 0 [] ∷ []) ≡ (1, finding.Change) ∷ [])
    × (report rfc8331 false (unmarked 7 1 0 [] ∷ packet 0xF0 1 8 1 0xC0 0 0 [] ∷ []) ≡ (1, finding.Change) ∷ [])
    × (report rfc8331 false (unmarked 7 1 0 [] ∷ packet 0xF0 1 8 2 0xC0 0 0 [] ∷ []) ≡ (1, finding.Change) ∷ [])
    × (report rfc8331 false (marked 7 1 0 [] ∷ packet 0xF0 1 8 2 0xC0 0 0 [] ∷ []) ≡ [])
    × (report rfc8331 false (unmarked 7 1 0 [] ∷ marked 9 2 0 [] ∷ []) ≡ (1, finding.Number) ∷ (1, finding.Change) ∷ [])
unfolding to_bits num bits bits_at row_at header_word checksum_word anc_size anc_record headers_ok r_ok words_ok checksum_ok alignment_ok anc_checks read_anc read_run packet_read header_checks padding_checks payload_checks read_records read_packet line_of offset_of admitted is_plain is_lower descends place_after is_gap is_change is_reserved entries report_from report
change = (refl, refl, refl, refl, refl)

-- "reserved bits set": the last of the 22, the first, and F alone; also in the first packet
pub reserved : (report rfc8331 false (packet 0xF0 1 7 1 0x80 1 0 [] ∷ []) ≡ (0, finding.Reserved) ∷ [])
    × (report rfc8331 false (packet 0xF0 1 7 1 0xA0 0 0 [] ∷ []) ≡ (0, finding.Reserved) ∷ [])
    × (report rfc8331 false (packet 0xF0 1 7 1 0xC0 0 0 [] ∷ []) ≡ [])
unfolding to_bits num bits bits_at row_at header_word checksum_word anc_size anc_record headers_ok r_ok words_ok checksum_ok alignment_ok anc_checks read_anc read_run packet_read header_checks padding_checks payload_checks read_records read_packet line_of offset_of admitted is_plain is_lower descends place_after is_gap is_change is_reserved entries report_from report
reserved = (refl, refl, refl)

-- "out of raster order .. (line, then offset, against the plain record before)": within a packet. A lower line; a lower offset of the same line;
-- a lower offset of a later line and equal places are in order; two records out of order are one line; a special place is passed over and resets nothing,
-- whether its line, its offset or both are special
pub raster-in-packet : (report rfc8331 false (marked 7 1 2 (line10 ++ line9) ∷ []) ≡ (0, finding.Raster) ∷ [])
    × (report rfc8331 false (marked 7 1 2 (line9off5 ++ line9) ∷ []) ≡ (0, finding.Raster) ∷ [])
    × (report rfc8331 false (marked 7 1 2 (line9off5 ++ line10) ∷ []) ≡ [])
    × (report rfc8331 false (marked 7 1 2 (line9 ++ line9) ∷ []) ≡ [])
    × (report rfc8331 false (marked 7 1 3 (line10 ++ (line9off5 ++ line9)) ∷ []) ≡ (0, finding.Raster) ∷ [])
    × (report rfc8331 false (marked 7 1 3 (line10 ++ (anywhere ++ line9)) ∷ []) ≡ (0, finding.Raster) ∷ [])
    × (report rfc8331 false (marked 7 1 2 (vertical ++ line9) ∷ []) ≡ [])
    × (report rfc8331 false (marked 7 1 2 (line10anywhere ++ line9) ∷ []) ≡ [])
    × (report rfc8331 false (marked 7 1 2 (line10 ++ line9anywhere) ∷ []) ≡ [])
unfolding to_bits num bits bits_at row_at header_word checksum_word anc_size anc_record headers_ok r_ok words_ok checksum_ok alignment_ok anc_checks read_anc read_run packet_read header_checks padding_checks payload_checks read_records read_packet line_of offset_of admitted is_plain is_lower descends place_after is_gap is_change is_reserved entries report_from report
raster-in-packet = (refl, refl, refl, refl, refl, refl, refl, refl, refl)

-- "within a field", "a field ends at a mark": from packet to packet, over an empty packet, over a gap, and over a refused packet; not over a mark;
-- a record in order behind one that is not is compared with that one
pub raster-in-field : (report rfc8331 false (unmarked 7 1 1 line10 ∷ marked 8 1 1 line9 ∷ []) ≡ (1, finding.Raster) ∷ [])
    × (report rfc8331 false (marked 7 1 1 line10 ∷ marked 8 1 1 line9 ∷ []) ≡ [])
    × (report rfc8331 false (unmarked 7 1 1 line10 ∷ unmarked 8 1 0 [] ∷ marked 9 1 1 line9 ∷ []) ≡ (2, finding.Raster) ∷ [])
    × (report rfc8331 false (unmarked 7 1 1 line10 ∷ marked 9 1 1 line9 ∷ []) ≡ (1, finding.Number) ∷ (1, finding.Raster) ∷ [])
    × (report rfc8331 false (unmarked 7 1 1 line10 ∷ [] ∷ marked 8 1 1 line9 ∷ []) ≡ (1, refuses 2 0) ∷ (2, finding.Raster) ∷ [])
    × (report rfc8331 false (unmarked 7 1 1 line10 ∷ unmarked 8 1 1 line9 ∷ marked 9 1 1 line9off5 ∷ []) ≡ (1, finding.Raster) ∷ [])
    × (report rfc8331 false (unmarked 7 1 1 line10 ∷ marked 8 2 1 line9 ∷ []) ≡ (1, finding.Change) ∷ (1, finding.Raster) ∷ [])
unfolding to_bits num bits bits_at row_at header_word checksum_word anc_size anc_record headers_ok r_ok words_ok checksum_ok alignment_ok anc_checks read_anc read_run packet_read header_checks padding_checks payload_checks read_records read_packet line_of offset_of admitted is_plain is_lower descends place_after is_gap is_change is_reserved entries report_from report
raster-in-field = (refl, refl, refl, refl, refl, refl, refl)

-- "refused ..": the first packet, so that the second is the first accepted and has nothing before it; between two others; 30 "against the first accepted" and
-- not against the packet before; 31; a refused packet has no other finding, and nothing is compared with it, nor does its mark end the field
pub refused-packets : (report rfc8331 false ([] ∷ marked 9 1 0 [] ∷ []) ≡ (0, refuses 2 0) ∷ [])
    × (report rfc8331 false (unmarked 7 1 0 [] ∷ marked 7 9 1 line9off5bad ∷ marked 8 1 0 [] ∷ []) ≡ (1, refuses 11 0) ∷ [])
    × (report rfc8331 false (marked 7 1 0 [] ∷ packet 0xF0 2 8 1 0x80 0 0 [] ∷ packet 0xF0 2 9 1 0x80 0 0 [] ∷ marked 8 1 0 [] ∷ []) ≡ (1, refuses 30 0) ∷ (2, refuses 30 0) ∷ [])
    × (report rfc8331 false (marked 7 1 0 [] ∷ packet 0xF1 1 8 1 0x80 0 0 [] ∷ packet 0xF1 2 9 1 0x80 0 0 [] ∷ []) ≡ (1, refuses 31 0) ∷ (2, refuses 30 0) ∷ [])
    × (report rfc8331 false (unmarked 7 1 0 [] ∷ packet 0xF0 2 99 9 0x80 1 0 [] ∷ marked 8 2 0 [] ∷ []) ≡ (1, refuses 30 0) ∷ (2, finding.Change) ∷ [])
    × (report rfc8331 false (unmarked 7 1 1 line10 ∷ packet 0xF0 2 99 9 0x80 1 1 line9 ∷ marked 8 1 1 line9 ∷ []) ≡ (1, refuses 30 0) ∷ (2, finding.Raster) ∷ [])
unfolding to_bits num bits bits_at row_at header_word checksum_word anc_size anc_record headers_ok r_ok words_ok checksum_ok alignment_ok anc_checks read_anc read_run packet_read header_checks padding_checks payload_checks read_records read_packet line_of offset_of admitted is_plain is_lower descends place_after is_gap is_change is_reserved entries report_from report
refused-packets = (refl, refl, refl, refl, refl, refl)

-- all that a packet not refused can break, in order
pub all-four : (report rfc8331 false (unmarked 7 1 1 line10 ∷ packet 0xF0 1 9 2 0x80 1 1 line9 ∷ []) ≡ (1, finding.Number) ∷ (1, finding.Change) ∷ (1, finding.Reserved) ∷ (1, finding.Raster) ∷ [])
unfolding to_bits num bits bits_at row_at header_word checksum_word anc_size anc_record headers_ok r_ok words_ok checksum_ok alignment_ok anc_checks read_anc read_run packet_read header_checks padding_checks payload_checks read_records read_packet line_of offset_of admitted is_plain is_lower descends place_after is_gap is_change is_reserved entries report_from report
all-four = refl

-- a packet of the drafts of 2015, with records at two lines
abbrev drafted : (type number time count : ℕ) → List ℕ → List ℕ
drafted type number time count run =
    0x80 ∷ type ∷ 0 ∷ number ∷ 0 ∷ 0 ∷ 0 ∷ time ∷ 0 ∷ 0 ∷ 0 ∷ 1 ∷ 0 ∷ 0 ∷ 0 ∷ length run ∷ count ∷ run

abbrev drafted9 : List ℕ
drafted9 = 0x00 ∷ 0x90 ∷ 0x00 ∷ 0x90 ∷ 0x60 ∷ 0x58 ∷ 0x00 ∷ 0x91 ∷ 0x80 ∷ []

abbrev drafted10 : List ℕ
drafted10 = 0x00 ∷ 0xA0 ∷ 0x00 ∷ 0x90 ∷ 0x60 ∷ 0x58 ∷ 0x00 ∷ 0x91 ∷ 0x80 ∷ []

-- an R bit set
abbrev drafted_r : List ℕ
drafted_r = 0x00 ∷ 0x90 ∷ 0x00 ∷ 0x90 ∷ 0x60 ∷ 0x58 ∷ 0x01 ∷ 0x91 ∷ 0x80 ∷ []

-- "read in the old layout if its argument is `old`": raster, change by the timestamp, 15; the same octets in the RFC's layout are refused
pub old-layout : (report draft2015 false (drafted 0x70 7 1 1 drafted10 ∷ drafted 0xF0 8 1 1 drafted9 ∷ []) ≡ (1, finding.Raster) ∷ [])
    × (report draft2015 false (drafted 0x70 7 1 1 drafted9 ∷ drafted 0xF0 8 2 1 drafted10 ∷ []) ≡ (1, finding.Change) ∷ [])
    × (report draft2015 false (drafted 0x70 7 1 1 drafted_r ∷ drafted 0xF0 9 2 1 drafted10 ∷ []) ≡ (0, refuses 15 0) ∷ [])
    × (report rfc8331 false (drafted 0xF0 7 1 0 [] ∷ []) ≡ (0, refuses 5 0) ∷ [])
unfolding to_bits num bits bits_at row_at header_word checksum_word anc_size anc_record headers_ok r_ok words_ok checksum_ok alignment_ok anc_checks read_anc read_run packet_read header_checks padding_checks payload_checks read_records read_packet line_of offset_of admitted is_plain is_lower descends place_after is_gap is_change is_reserved entries report_from report
old-layout = (refl, refl, refl, refl)

-- "the frame's index from 0, then `refused CODE INDEX` or `cut`, `number`, `change`, `reserved` or
-- `streamcheck_raster`": each, to the letter
pub lines : (line_text 0 (refuses 16 254) ≡ ascii "0 refused 16 254\n")
    × (line_text 12 finding.Cut ≡ ascii "12 cut\n")
    × (line_text 345 finding.Number ≡ ascii "345 number\n")
    × (line_text 6789 finding.Change ≡ ascii "6789 change\n")
    × (line_text 65536 finding.Reserved ≡ ascii "65536 reserved\n")
    × (line_text 4294967296 finding.Raster ≡ ascii "4294967296 raster\n")
unfolding ascii decimal decimal_in line_text
lines = (refl, refl, refl, refl, refl, refl)

-- a frame
abbrev framed : List ℕ → List ℕ
framed p = 0 ∷ length p ∷ p

-- all four rules broken by the second packet, a wrong checksum in the second record of the third, and a cut
abbrev every_rule : List ℕ
every_rule =
    framed (unmarked 7 1 1 line10)
    ++ (framed (packet 0xF0 1 9 2 0x80 1 1 line9)
    ++ (framed (marked 10 2 2 (line9 ++ line9off5bad)) ++ (0 ∷ 1 ∷ [])))

-- WHAT THE PROGRAM PRINTS where every rule is broken
pub every-line : stream_text rfc8331 every_rule
    ≡ ascii "1 number\n1 change\n1 reserved\n1 raster\n2 refused 11 1\n3 cut\n"
unfolding
    to_bits num bits bits_at row_at header_word checksum_word anc_size anc_record headers_ok r_ok words_ok
    checksum_ok alignment_ok anc_checks read_anc read_run packet_read header_checks padding_checks payload_checks
    read_records read_packet line_of offset_of admitted is_plain is_lower descends place_after is_gap is_change
    is_reserved entries report_from report ascii decimal decimal_in line_text report_text stream_text
every-line = refl
