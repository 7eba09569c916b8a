-- 01's records A and B in a packet and in a run, damaged: what the strict way refuses, what the tolerant way refuses, and what comes through.
-- By computation.
use mathlib.Core.Path.{◌≡◌, refl}
use mathlib.Core.List.{List, [], ◌∷◌, ◌++◌}
use Prim.Native.Nat.{ℕ}
use lib.ListN.{take, set}
use Rattle.wire_spec.specs.Bits.{to_bits, num, bits, bits_at, row_at}
use Rattle.wire_spec.specs.Words.{header_word, checksum_word}
use Rattle.wire_spec.specs.Layout.{rfc8331, draft2015}
use Rattle.wire_spec.specs.Result.{Ok, refuse}
use Rattle.wire_spec.specs.Anc.{Record, anc_size, anc_record, headers_ok, r_ok, words_ok, checksum_ok, alignment_ok, anc_checks, read_anc, read_run}
use Rattle.wire_spec.specs.Packet.{packet_read, header_checks, padding_checks, payload_checks, read_records, read_packet, read_content}
use Rattle.wire_spec.specs.Writing.{with_records}
use Rattle.wire_spec.proofs.Examples.{a, a_octets, b, b_octets}
use Rattle.wire_spec.proofs.DraftExamples.{a_octets as draft_a, plain_b, plain_b_octets}
use Rattle.wire_spec.proofs.PacketExamples.{both, both_octets}
use Rattle.anc_tolerant_spec.specs.Tolerant.{tolerant_checks, tolerate_run, Tolerated, tolerated, tolerate_content, tolerate_into}

-- A and B with another word in the checksum's place
abbrev bad_a : List ℕ
bad_a = set a_octets 8 0x47

abbrev bad_b : List ℕ
bad_b = set b_octets 11 0x50

-- the packet of A and B with other octets in the place of theirs
abbrev packet : List ℕ → List ℕ → List ℕ
packet x y = take 20 both_octets ++ (x ++ y)

abbrev giving : List Record → ℕ → Tolerated
giving rs n = record { says = with_records both rs; left_out = n }

-- none, each and both of the two left out; all left out is accepted with no records
pub left_out_lem : (tolerate_content rfc8331 (packet a_octets b_octets) ≡ Ok (giving (a ∷ b ∷ []) 0))
    × (tolerate_content rfc8331 (packet bad_a b_octets) ≡ Ok (giving (b ∷ []) 1))
    × (tolerate_content rfc8331 (packet a_octets bad_b) ≡ Ok (giving (a ∷ []) 1))
    × (tolerate_content rfc8331 (packet bad_a bad_b) ≡ Ok (giving [] 2))
    × (read_content rfc8331 (packet a_octets bad_b) ≡ refuse 11 1)
unfolding to_bits num bits bits_at row_at header_word checksum_word anc_size anc_record headers_ok r_ok words_ok checksum_ok alignment_ok anc_checks read_anc read_run packet_read header_checks padding_checks payload_checks read_records read_packet read_content tolerant_checks tolerate_run tolerated tolerate_content
left_out_lem = (refl, refl, refl, refl, refl)

-- "12 still is for every record": an alignment bit set in a packet whose checksum is wrong too, and in one behind it
pub alignment-bit : (read_content rfc8331 (packet a_octets (set b_octets 11 0x51)) ≡ refuse 11 1)
    × (tolerate_content rfc8331 (packet a_octets (set b_octets 11 0x51)) ≡ refuse 12 1)
    × (read_content rfc8331 (packet bad_a (set b_octets 11 0x41)) ≡ refuse 11 0)
    × (tolerate_content rfc8331 (packet bad_a (set b_octets 11 0x41)) ≡ refuse 12 1)
unfolding to_bits num bits bits_at row_at header_word checksum_word anc_size anc_record headers_ok r_ok words_ok checksum_ok alignment_ok anc_checks read_anc read_run packet_read header_checks padding_checks payload_checks read_records read_packet read_content tolerant_checks tolerate_run tolerated tolerate_content
alignment-bit = (refl, refl, refl, refl)

-- "fails only its checksum": a malformed header word, and a protected word, which comes before 12; behind a packet that is left out, and in one whose
-- checksum is wrong too. Packets cut and octets left are told as before.
pub not-only : (tolerate_content rfc8331 (packet bad_a (set b_octets 4 0x18)) ≡ refuse 10 1)
    × (tolerate_content rfc8331 (packet bad_a (set (set bad_b 7 0x0B) 8 0xFF)) ≡ refuse 16 1)
    × (tolerate_content rfc8331 (packet bad_a (set (set (set b_octets 7 0x0B) 8 0xFF) 11 0x51)) ≡ refuse 16 1)
    × (tolerate_content rfc8331 (set (packet bad_a b_octets) 16 3) ≡ refuse 9 2)
    × (tolerate_content rfc8331 (set (packet bad_a b_octets) 16 1) ≡ refuse 13 0)
unfolding to_bits num bits bits_at row_at header_word checksum_word anc_size anc_record headers_ok r_ok words_ok checksum_ok alignment_ok packet_read header_checks padding_checks payload_checks tolerant_checks tolerate_run tolerated tolerate_content
not-only = (refl, refl, refl, refl, refl)

-- "14 goes by the records that come through": A takes 9 cells and B 11
pub refused-14 : (tolerate_into rfc8331 (packet bad_a b_octets) 11 ≡ Ok (giving (b ∷ []) 1))
    × (tolerate_into rfc8331 (packet bad_a b_octets) 10 ≡ refuse 14 0)
    × (tolerate_into rfc8331 (packet bad_a bad_b) 0 ≡ Ok (giving [] 2))
    × (tolerate_into rfc8331 (packet a_octets b_octets) 19 ≡ refuse 14 0)
unfolding to_bits num bits bits_at row_at header_word checksum_word anc_size anc_record headers_ok r_ok words_ok checksum_ok alignment_ok packet_read header_checks padding_checks payload_checks tolerant_checks tolerate_run tolerated tolerate_content tolerate_into
refused-14 = (refl, refl, refl, refl)

-- the drafts' layout: A left out; 15, and 12 in the place of 11
pub drafts : (i : ℕ) → (tolerate_run draft2015 i 2 (set draft_a 7 0x90 ++ (plain_b_octets ++ (7 ∷ []))) ≡ Ok (record { records = plain_b ∷ []; left_out = 1; rest = 7 ∷ [] }))
    × (tolerate_run draft2015 i 1 (set (set draft_a 6 0x01) 7 0x90) ≡ refuse 15 i)
    × (read_run draft2015 i 1 (set (set draft_a 7 0x90) 8 0x81) ≡ refuse 11 i)
    × (tolerate_run draft2015 i 1 (set (set draft_a 7 0x90) 8 0x81) ≡ refuse 12 i)
unfolding to_bits num bits bits_at row_at header_word checksum_word anc_size anc_record headers_ok r_ok words_ok checksum_ok alignment_ok anc_checks read_anc read_run tolerant_checks tolerate_run
drafts i = (refl, refl, refl, refl)
