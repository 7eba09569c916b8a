-- A stream of an encoder of 2015 (02, K3), each packet told its layout, other octets told the other: two fields of one packet, of which the
-- second is handed out, and demand 3 of the run. By computation.
use mathlib.Core.Path.{◌≡◌, refl}
use mathlib.Core.List.{List, [], ◌∷◌}
use mathlib.Core.Logic.{inl}
use Prim.Native.Nat.{ℕ, zero, suc, ◌<◌}
use native.Mathlib.Omega.{arith}
use Rattle.wire_spec.specs.Bits.{to_bits, num, bits, bits_at, row_at}
use Rattle.wire_spec.specs.Words.{header_word, checksum_word}
use Rattle.wire_spec.specs.Layout.{rfc8331, draft2015}
use Rattle.wire_spec.specs.Result.{Ok, refuse}
use Rattle.wire_spec.specs.Anc.{anc_size, anc_record, headers_ok, r_ok, words_ok, checksum_ok, alignment_ok, anc_checks, read_anc, read_run}
use Rattle.wire_spec.specs.Packet.{packet_read, header_checks, padding_checks, payload_checks, read_records, read_packet, read_content}
use Rattle.wire_spec.proofs.Examples.{a}
use Rattle.wire_spec.proofs.DraftExamples.{a_octets}
use Rattle.depacketizer_spec.specs.Step.{step}
use Rattle.depacketizer_spec.specs.Stream.{Field, Stream, content_at, nth, WellFormedStream, other, packet, Calls, none, ◌before◌, Proper, as_sent, run, Demand3After}
use Rattle.depacketizer_spec.proofs.Demand3.{demand3}

-- marked, of source 1 and type 112: 17 octets and record A
abbrev octets : (number timestamp : ℕ) → List ℕ
octets number timestamp =
    0x80 ∷ 0xF0 ∷ 0x00 ∷ number ∷ 0x00 ∷ 0x00 ∷ 0x00 ∷ timestamp ∷ 0x00 ∷ 0x00 ∷ 0x00 ∷ 0x01
    ∷ 0x00 ∷ 0x00 ∷ 0x00 ∷ 0x09 ∷ 0x01 ∷ a_octets

-- F reads as 0
abbrev field : (number timestamp : ℕ) → Field
field number timestamp =
    record { timestamp = timestamp; f = 0; first = record { octets = octets number timestamp; records = a ∷ [] }; rest = [] }

abbrev stream : Stream
stream = record { layout = draft2015; source = 1; type = 112; start = 7; fields = field 7 1 ∷ field 8 2 ∷ [] }

accepts : (i : ℕ) → i < 2 → read_content draft2015 (nth stream i).part.octets ≡ Ok (content_at stream i (nth stream i))
unfolding to_bits num bits bits_at row_at header_word checksum_word anc_size anc_record headers_ok r_ok words_ok checksum_ok alignment_ok anc_checks read_anc read_run packet_read header_checks padding_checks payload_checks read_records read_packet read_content
accepts zero h = refl
accepts (suc zero) h = refl
accepts (suc (suc i)) h = absurd (omega arith)

formed : WellFormedStream stream
formed = record { few = omega arith; within = omega arith; accepts = accepts }

abbrev store : List ℕ
store = 1 ∷ 2 ∷ 3 ∷ 4 ∷ 5 ∷ 6 ∷ 7 ∷ 8 ∷ 9 ∷ []

-- the octets of a sent packet are refused where the other layout is told
refuses : read_content rfc8331 (octets 7 1) ≡ refuse 7 0
unfolding to_bits num bits bits_at header_checks padding_checks payload_checks read_packet read_content
refuses = refl

abbrev calls : Calls
calls =
    none before record { arriving = packet 0; store = store } before record { arriving = other rfc8331 (octets 7 1); store = store }
    before record { arriving = packet 1; store = store }

proper : Proper stream calls
proper = (((tt, omega arith, omega arith), inl (_, refuses), omega arith), omega arith, omega arith)

pub handed : (run stream calls).handed ≡ as_sent (field 8 2) ∷ []
unfolding to_bits num bits bits_at row_at header_word checksum_word anc_size anc_record headers_ok r_ok words_ok checksum_ok alignment_ok anc_checks read_anc read_run packet_read header_checks padding_checks payload_checks read_records read_packet read_content step
handed = refl

pub demanded : Demand3After stream [] calls (run stream calls)
demanded = demand3 stream formed calls proper (omega arith)
