-- The example of 01 to the letter; empty input, one octet, a frame of length 0; every kind of line; the
-- drafts' layout.
-- By computation.
use mathlib.Core.Path.{◌≡◌, refl}
use mathlib.Core.List.{List, [], ◌∷◌, ◌++◌}
use Prim.Native.Nat.{ℕ, ◌*◌, ◌/◌, ◌%◌}
use lib.ListN.{length, replicate, set}
use Rattle.wire_spec.specs.Layout.{rfc8331, draft2015}
use Rattle.wire_spec.specs.Bits.{to_bits, num, bits, bits_at, row_at}
use Rattle.wire_spec.specs.Words.{header_word, checksum_word}
use Rattle.wire_spec.specs.Anc.{anc_size, anc_record, headers_ok, r_ok, words_ok, checksum_ok, alignment_ok, anc_checks, read_anc, read_run}
use Rattle.wire_spec.specs.Packet.{packet_read, header_checks, padding_checks, payload_checks, read_records, read_packet, read_content}
use Rattle.wire_spec.specs.Cells.{cell_record, head_in_range, cell_checks, records_from, clear_from}
use Rattle.wire_spec.proofs.Examples.{a_octets, b_octets}
use Rattle.wire_spec.proofs.PacketExamples.{frame7_octets, frame8_octets, frame10_octets}
use Rattle.depacketizer_spec.specs.Step.{step}
use Rattle.text.specs.Text.{ascii, decimal, decimal_in, digits, hex}
use Rattle.fieldlist_lines.specs.Lines.{whole_text, refused_text, counts_text}
use Rattle.fieldlist_records.specs.Records.{line_text, location_text, data_text}
use Rattle.fieldlist_session.specs.Session.{turn, cut_text, remaining, listing}

abbrev store : List ℕ
store = replicate 9 0

pub empty : listing rfc8331 store [] ≡ ascii "fieldlist 1\nfresh=0 late=0 missing=0\n"
unfolding ascii decimal decimal_in cut_text remaining listing counts_text
empty = refl

pub one-octet : listing rfc8331 store (7 ∷ []) ≡ ascii "fieldlist 1\ncut\nfresh=0 late=0 missing=0\n"
unfolding ascii decimal decimal_in cut_text remaining listing counts_text
one-octet = refl

-- a frame of length 0
pub length-0 : listing rfc8331 store (0 ∷ 0 ∷ []) ≡ ascii "fieldlist 1\nrefused 2 0\nfresh=0 late=0 missing=0\n"
unfolding to_bits num bits bits_at header_checks read_packet read_content ascii decimal decimal_in turn cut_text remaining listing counts_text refused_text
length-0 = refl

-- "Numbers 7, 8, 8, 10; timestamps 1000, 2501, 2501, 5504; F 2, 3, 3, 3; each carries record A": whole output
abbrev input : List ℕ
input = 0 ∷ 32 ∷ (frame7_octets ++ (0 ∷ 32 ∷ (frame8_octets ++ (0 ∷ 32 ∷ (frame8_octets ++ (0 ∷ 32 ∷ frame10_octets))))))

pub example : listing rfc8331 store input
    ≡ ascii "fieldlist 1\n7 skipped\n8 whole ts=2501 f=3 records=1\n y line=9 off=0 s=0/0 did=41 sdid=05 words=0\n8 late\n10 skipped\nfresh=3 late=1 missing=1\n"
unfolding to_bits num bits bits_at row_at header_word checksum_word anc_size anc_record headers_ok r_ok words_ok checksum_ok alignment_ok anc_checks read_anc read_run packet_read header_checks padding_checks payload_checks read_records read_packet read_content step cell_record head_in_range cell_checks records_from clear_from ascii decimal decimal_in hex digits turn cut_text remaining listing line_text location_text data_text whole_text refused_text counts_text
example = refl

-- a frame
abbrev framed : List ℕ → List ℕ
framed p = length p / 256 ∷ length p % 256 ∷ p

abbrev recorded : List (List ℕ) → List ℕ
recorded [] = []
recorded (p ∷ ps) = framed p ++ recorded ps

-- a packet of source 1 and F 3, with M and the payload type in the octet `type`. "The packet number is
-- Extended Sequence Number x 65,536 + sequence number"
abbrev packet : (type number time count : ℕ) → List ℕ → List ℕ
packet type number time count run =
    0x80 ∷ type ∷ number / 256 % 256 ∷ number % 256 ∷ 0 ∷ 0 ∷ time / 256 ∷ time % 256 ∷ 0 ∷ 0 ∷ 0 ∷ 1
    ∷ 0 ∷ number / 65536 ∷ 0 ∷ length run ∷ count ∷ 0xC0 ∷ 0 ∷ 0 ∷ run

abbrev marked : (number time count : ℕ) → List ℕ → List ℕ
marked = packet 0xF0

abbrev unmarked : (number time count : ℕ) → List ℕ → List ℕ
unmarked = packet 0x70

-- Numbers over 65,535; a field of two packets, with records A and B; each repeated; another timestamp;
-- three numbers missing; 3,000 ahead (02, K11); B's checksum wrong; a field past the 20 cells of the
-- store; a broken last frame
abbrev recording : List ℕ
recording =
    recorded
    (marked 65543 1000 0 []
    ∷ unmarked 65544 2501 1 a_octets
    ∷ marked 65545 2501 1 b_octets
    ∷ unmarked 65544 2501 1 a_octets
    ∷ marked 65545 2501 1 b_octets
    ∷ unmarked 65546 3001 0 []
    ∷ marked 65547 3002 0 []
    ∷ marked 65551 4004 0 []
    ∷ marked 68551 4005 0 []
    ∷ marked 65552 5005 2 (a_octets ++ set b_octets 11 0x80)
    ∷ marked 65552 5006 3 (a_octets ++ (a_octets ++ a_octets))
    ∷ [])
    ++ (0 ∷ 1 ∷ [])

-- EVERY KIND OF LINE; three counts that differ
pub every-line : listing rfc8331 (replicate 20 0) recording
    ≡ ascii "fieldlist 1\n65543 skipped\n65544 held\n65545 whole ts=2501 f=3 records=2\n"
    ++ (ascii " y line=9 off=0 s=0/0 did=41 sdid=05 words=0\n"
    ++ (ascii " c line=2047 off=4095 s=1/3 did=61 sdid=02 words=2 2aa 155\n"
    ++ (ascii "65544 late\n65545 late\n65546 held\n65547 mixed\n65551 skipped\n"
    ++ ascii "refused 36 0\nrefused 11 1\n65552 overfull\ncut\nfresh=7 late=2 missing=3\n")))
unfolding
    to_bits num bits bits_at row_at header_word checksum_word anc_size anc_record headers_ok r_ok words_ok
    checksum_ok alignment_ok anc_checks read_anc read_run packet_read header_checks padding_checks payload_checks
    read_records read_packet read_content step cell_record head_in_range cell_checks records_from clear_from ascii
    decimal decimal_in hex digits turn cut_text remaining listing line_text location_text data_text whole_text
    refused_text counts_text
every-line = refl

-- a marked packet of the drafts of 2015 (02, K3), and record A at line `line` in their layout
abbrev drafted : (number time count : ℕ) → List ℕ → List ℕ
drafted number time count run =
    0x80 ∷ 0xF0 ∷ 0 ∷ number ∷ 0 ∷ 0 ∷ 0 ∷ time ∷ 0 ∷ 0 ∷ 0 ∷ 1 ∷ 0 ∷ 0 ∷ 0 ∷ length run ∷ count ∷ run

abbrev drafted_a : (line : ℕ) → List ℕ
drafted_a line = 0x00 ∷ 16 * line ∷ 0x00 ∷ 0x90 ∷ 0x60 ∷ 0x58 ∷ 0x00 ∷ 0x91 ∷ 0x80 ∷ []

abbrev drafted_input : List ℕ
drafted_input = recorded (drafted 7 1 1 (drafted_a 9) ∷ drafted 8 2 1 (drafted_a 10) ∷ drafted 9 3 0 [] ∷ [])

-- "Which layout applies is told by the caller": of every packet, the first and those after it
pub old-layout : listing draft2015 store drafted_input
    ≡ ascii "fieldlist 1\n7 skipped\n8 whole ts=2 f=0 records=1\n"
    ++ (ascii " y line=10 off=0 s=0/0 did=41 sdid=05 words=0\n"
    ++ ascii "9 whole ts=3 f=0 records=0\nfresh=3 late=0 missing=0\n")
unfolding
    to_bits num bits bits_at row_at header_word checksum_word anc_size anc_record headers_ok r_ok words_ok
    checksum_ok alignment_ok anc_checks read_anc read_run packet_read header_checks padding_checks payload_checks
    read_records read_packet read_content step cell_record head_in_range cell_checks records_from clear_from ascii
    decimal decimal_in hex digits turn cut_text remaining listing line_text location_text data_text whole_text
    refused_text counts_text
old-layout = refl
