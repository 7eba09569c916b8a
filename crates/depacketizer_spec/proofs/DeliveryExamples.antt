-- One field as one packet and as three, the second of them without records (02, K8): both deliveries meet the premises, and what they hand out is
-- the same, apart from the index (K13). By computation.
use mathlib.Core.Path.{◌≡◌, refl}
use mathlib.Core.List.{List, [], ◌∷◌}
use Prim.Native.Nat.{ℕ, zero, suc, ◌<◌}
use native.Mathlib.Omega.{arith}
use lib.ListN.{replicate}
use Rattle.wire_spec.specs.Bits.{to_bits, num, bits, octets, bits_at, row_at, field_bits}
use Rattle.wire_spec.specs.Words.{header_word, checksum_word}
use Rattle.wire_spec.specs.Layout.{Layout, rfc8331, draft2015}
use Rattle.wire_spec.specs.Result.{Ok}
use Rattle.wire_spec.specs.Anc.{Record, anc_size, anc_record, headers_ok, r_ok, words_ok, checksum_ok, alignment_ok, anc_checks, read_anc, read_run}
use Rattle.wire_spec.specs.Packet.{Content, packet_octets, packet_read, header_checks, padding_checks, payload_checks, read_records, read_packet, read_content}
use Rattle.wire_spec.specs.Writing.{content_octets}
use Rattle.wire_spec.proofs.Examples.{a}
use Rattle.wire_spec.proofs.DraftExamples.{plain_b}
use Rattle.depacketizer_spec.specs.Step.{step}
use Rattle.depacketizer_spec.specs.Stream.{Part, Stream, content_at, nth, Handed}
use Rattle.depacketizer_spec.specs.Delivery.{SameFields, Leads, Delivery, delivered, AllAlike}
use Rattle.depacketizer_spec.proofs.DeliveryLaws.{delivered-whole, cut-alike}

-- a packet's content, and its octets in a layout
abbrev pub saying : (source type marker number : ℕ) → List Record → Content
saying source type marker number rs = record { source = source; type = type; marker = marker; number = number; timestamp = 9; f = 0; records = rs }

abbrev pub part : Layout → Content → Part
part L k = record { octets = content_octets L k; records = k.records }

-- as one packet, number 5 of source 1 in RFC 8331's layout
abbrev pub one : Stream
one = record { layout = rfc8331; source = 1; type = 112; start = 5; fields = record { timestamp = 9; f = 0; first = part rfc8331 (saying 1 112 1 5 (a ∷ plain_b ∷ [])); rest = [] } ∷ [] }

-- as three, numbers 2^32 - 1, 0 and 1 of source 2 in the drafts' layout
abbrev pub three : Stream
three =
    record {
      layout = draft2015;
      source = 2;
      type = 100;
      start = 0xFFFFFFFF;
      fields = record { timestamp = 9; f = 0; first = part draft2015 (saying 2 100 0 0xFFFFFFFF (a ∷ [])); rest = part draft2015 (saying 2 100 0 0 []) ∷ part draft2015 (saying 2 100 1 1 (plain_b ∷ [])) ∷ [] } ∷ [];
    }

pub one-accepts : (i : ℕ) → i < 1 → read_content rfc8331 (nth one i).part.octets ≡ Ok (content_at one i (nth one i))
unfolding to_bits num bits octets field_bits bits_at row_at header_word checksum_word anc_size anc_record headers_ok r_ok words_ok checksum_ok alignment_ok anc_checks read_anc read_run packet_octets packet_read header_checks padding_checks payload_checks read_records read_packet read_content
one-accepts zero h = refl
one-accepts (suc i) h = absurd (omega arith)

pub three-accepts : (i : ℕ) → i < 3 → read_content draft2015 (nth three i).part.octets ≡ Ok (content_at three i (nth three i))
unfolding to_bits num bits octets field_bits bits_at row_at header_word checksum_word anc_size anc_record headers_ok r_ok words_ok checksum_ok alignment_ok anc_checks read_anc read_run packet_octets packet_read header_checks padding_checks payload_checks read_records read_packet read_content
three-accepts zero h = refl
three-accepts (suc zero) h = refl
three-accepts (suc (suc zero)) h = refl
three-accepts (suc (suc (suc i))) h = absurd (omega arith)

-- the marked packets before them: an empty one, and one with a record
pub one-leads : Leads one (content_octets rfc8331 (saying 1 112 1 4 []))
unfolding to_bits num bits octets field_bits bits_at row_at header_word checksum_word anc_size anc_record headers_ok r_ok words_ok checksum_ok alignment_ok anc_checks read_anc read_run packet_octets packet_read header_checks padding_checks payload_checks read_records read_packet read_content
one-leads = record { says = saying 1 112 1 4 []; accepts = refl; source = refl; type = refl; marked = refl; number = refl }

pub three-leads : Leads three (content_octets draft2015 (saying 2 100 1 0xFFFFFFFE (a ∷ [])))
unfolding to_bits num bits octets field_bits bits_at row_at header_word checksum_word anc_size anc_record headers_ok r_ok words_ok checksum_ok alignment_ok anc_checks read_anc read_run packet_octets packet_read header_checks padding_checks payload_checks read_records read_packet read_content
three-leads = record { says = saying 2 100 1 0xFFFFFFFE (a ∷ []); accepts = refl; source = refl; type = refl; marked = refl; number = refl }

-- stores of 20 cells, just enough, and of 22
abbrev pub one-delivery : Delivery one
one-delivery =
    record {
      formed = record { few = omega arith; within = omega arith; accepts = one-accepts };
      lead = content_octets rfc8331 (saying 1 112 1 4 []);
      leads = one-leads;
      stores = λ i. replicate 20 0;
      fit = λ i. omega arith;
    }

abbrev pub three-delivery : Delivery three
three-delivery =
    record {
      formed = record { few = omega arith; within = omega arith; accepts = three-accepts };
      lead = content_octets draft2015 (saying 2 100 1 0xFFFFFFFE (a ∷ []));
      leads = three-leads;
      stores = λ i. replicate 22 7;
      fit = λ i. omega arith;
    }

same : SameFields one.fields three.fields
same = (refl, refl, refl, tt)

-- the field handed out, once, with so many packets, the second record with this index: by computation of each run
abbrev field : (packets index : ℕ) → Handed
field packets index =
    record {
      timestamp = 9;
      f = 0;
      records = 2;
      cells = 20;
      packets = packets;
      content = 0 ∷ 9 ∷ 0 ∷ 0 ∷ 0 ∷ 0x41 ∷ 0x05 ∷ 0 ∷ 0 ∷ 1 ∷ 0x7FF ∷ 0xFFF ∷ 0 ∷ 0 ∷ 0x61 ∷ 0x02 ∷ 2 ∷ index ∷ 0x2AA ∷ 0x155 ∷ [];
    }

pub one-handed : delivered one one-delivery ≡ field 1 0 ∷ []
unfolding to_bits num bits octets field_bits bits_at row_at header_word checksum_word anc_size anc_record headers_ok r_ok words_ok checksum_ok alignment_ok anc_checks read_anc read_run packet_octets packet_read header_checks padding_checks payload_checks read_records read_packet read_content step
one-handed = refl

pub three-handed : delivered three three-delivery ≡ field 3 2 ∷ []
unfolding to_bits num bits octets field_bits bits_at row_at header_word checksum_word anc_size anc_record headers_ok r_ok words_ok checksum_ok alignment_ok anc_checks read_anc read_run packet_octets packet_read header_checks padding_checks payload_checks read_records read_packet read_content step
three-handed = refl

-- and by the theorems
pub whole : delivered three three-delivery ≡ field 3 2 ∷ []
whole = delivered-whole three three-delivery

pub alike : AllAlike (delivered one one-delivery) (delivered three three-delivery)
alike = cut-alike one three same one-delivery three-delivery
