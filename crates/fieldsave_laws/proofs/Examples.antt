-- What is filed of 01's four frames, of no input, and of a broken frame.
-- By computation.
use mathlib.Core.Path.{◌≡◌, refl}
use mathlib.Core.List.{List, [], ◌∷◌, ◌++◌}
use Prim.Native.Nat.{ℕ}
use lib.ListN.{replicate}
use Rattle.wire_spec.specs.Layout.{rfc8331, draft2015}
use Rattle.wire_spec.specs.Bits.{to_bits, num, bits, octets, bits_at, row_at, field_bits}
use Rattle.wire_spec.specs.Words.{header_word, checksum_word}
use Rattle.wire_spec.specs.Anc.{anc_size, anc_record, headers_ok, r_ok, words_ok, checksum_ok, alignment_ok, anc_checks, read_anc, read_run}
use Rattle.wire_spec.specs.Packet.{packet_read, header_checks, padding_checks, payload_checks, read_records, read_packet, read_content}
use Rattle.wire_spec.specs.Cells.{cell_record, head_in_range, cell_checks, records_from, clear_from}
use Rattle.wire_spec.proofs.Examples.{a_octets}
use Rattle.wire_spec.proofs.PacketExamples.{frame7_octets, frame8_octets, frame10_octets}
use Rattle.depacketizer_spec.specs.Step.{step}
use Rattle.fieldlist_session.specs.Session.{turn}
use Rattle.fieldsave_session.specs.Filing.{filing, handed}

abbrev store : List ℕ
store = replicate 9 0

-- `ANF` and version 2
abbrev head : List ℕ
head = 0x41 ∷ 0x4E ∷ 0x46 ∷ 0x00 ∷ 0x02 ∷ []

pub no-input : (filing rfc8331 store [] ≡ head) × (filing draft2015 store (7 ∷ []) ≡ head)
unfolding to_bits num octets field_bits filing
no-input = (refl, refl)

-- "Numbers 7, 8, 8, 10; timestamps 1000, 2501, 2501, 5504; F 2, 3, 3, 3; each carries record A": the second is a whole field
abbrev input : List ℕ
input = 0 ∷ 32 ∷ (frame7_octets ++ (0 ∷ 32 ∷ (frame8_octets ++ (0 ∷ 32 ∷ (frame8_octets ++ (0 ∷ 32 ∷ frame10_octets))))))

pub example : filing rfc8331 store input ≡ head ++ (0x00 ∷ 0x00 ∷ 0x09 ∷ 0xC5 ∷ 0x03 ∷ 0x00 ∷ 0x01 ∷ a_octets)
unfolding to_bits num bits octets field_bits bits_at row_at header_word checksum_word anc_size anc_record headers_ok r_ok words_ok checksum_ok alignment_ok anc_checks read_anc read_run packet_read header_checks padding_checks payload_checks read_records read_packet read_content step cell_record head_in_range cell_checks records_from clear_from turn handed filing
example = refl
