-- A stream over its octets that meets demand 3's premises: its numbers wrap within a field of two packets, packets have ANC_Count 0,
-- and a packet is lost inside a field.
-- By computation, and by the theorem.
use mathlib.Core.Path.{◌≡◌, refl}
use mathlib.Core.List.{List, [], ◌∷◌, ◌++◌}
use Prim.Native.Nat.{ℕ, zero, suc, ◌<◌}
use native.Mathlib.Omega.{arith}
use Rattle.wire_spec.specs.Bits.{to_bits, num, bits, bits_at, row_at}
use Rattle.wire_spec.specs.Words.{header_word, checksum_word}
use Rattle.wire_spec.specs.Layout.{rfc8331}
use Rattle.wire_spec.specs.Result.{Ok}
use Rattle.wire_spec.specs.Anc.{Each, anc_size, anc_record, headers_ok, r_ok, words_ok, checksum_ok, alignment_ok, anc_checks, read_anc, read_run}
use Rattle.wire_spec.specs.Packet.{packet_read, header_checks, padding_checks, payload_checks, read_records, read_packet, read_content}
use Rattle.wire_spec.specs.Cells.{list_of}
use Rattle.wire_spec.proofs.Examples.{a, a_octets}
use Rattle.depacketizer_spec.specs.declared.state.Answer.TheVariants as answer
use Rattle.depacketizer_spec.specs.Step.{step}
use Rattle.depacketizer_spec.specs.Stream.{Part, Stream, nth, content_at, Fits, WellFormedStream, Calls, Proper, Near, run, Demand3After}
use Rattle.depacketizer_spec.proofs.Demand3.{demand3}
use Rattle.depacketizer_spec.proofs.RunExamples.{store, lends, answers}

-- A packet of source 1, type 112 and F 2, with these octets of M and type, of the extended and the plain sequence number, and of the
-- timestamp's end; of its payload header Length and ANC_Count
abbrev front : (type extended high low time size count : ℕ) → List ℕ
front type extended high low time size count =
    0x80 ∷ type ∷ high ∷ low ∷ 0x00 ∷ 0x00 ∷ 0x00 ∷ time ∷ 0x00 ∷ 0x00 ∷ 0x00 ∷ 0x01
    ∷ extended ∷ extended ∷ 0x00 ∷ size ∷ count ∷ 0x80 ∷ 0x00 ∷ 0x00 ∷ []

-- the packet has no records: "Refusing ANC_Count 0: it has no records" is easy to get wrong
abbrev bare : (type extended high low time : ℕ) → Part
bare type extended high low time = record { octets = front type extended high low time 0 0; records = [] }

-- M set, and not
abbrev last : ℕ
last = 0xF0

abbrev more : ℕ
more = 0x70

-- Packets FFFFFFFE; FFFFFFFF with record A, and 0; 1, 2 and 3; 4.
abbrev pub stream : Stream
stream =
    record {
      layout = rfc8331;
      source = 1;
      type = 112;
      start = 0xFFFFFFFE;
      fields =
          record { timestamp = 1; f = 2; first = bare last 0xFF 0xFF 0xFE 1; rest = [] }
          ∷ record {
            timestamp = 2;
            f = 2;
            first = record { octets = front more 0xFF 0xFF 0xFF 2 12 1 ++ a_octets; records = a ∷ [] };
            rest = bare last 0 0 0 2 ∷ [];
          }
          ∷ record { timestamp = 3; f = 2; first = bare more 0 0 1 3; rest = bare more 0 0 2 3 ∷ bare last 0 0 3 3 ∷ [] }
          ∷ record { timestamp = 4; f = 2; first = bare last 0 0 4 4; rest = [] }
          ∷ [];
    }

accepts : (i : ℕ) → i < 7 → read_content rfc8331 (nth stream i).part.octets ≡ Ok (content_at stream i (nth stream i))
unfolding to_bits num bits bits_at row_at header_word checksum_word anc_size anc_record headers_ok r_ok words_ok checksum_ok alignment_ok anc_checks read_anc read_run packet_read header_checks padding_checks payload_checks read_records read_packet read_content
accepts zero h = refl
accepts (suc zero) h = refl
accepts (suc (suc zero)) h = refl
accepts (suc (suc (suc zero))) h = refl
accepts (suc (suc (suc (suc zero)))) h = refl
accepts (suc (suc (suc (suc (suc zero))))) h = refl
accepts (suc (suc (suc (suc (suc (suc zero)))))) h = refl
accepts (suc (suc (suc (suc (suc (suc (suc i))))))) h = absurd (omega arith)

-- the stream is well-formed
pub formed : WellFormedStream stream
formed = record { few = omega arith; within = omega arith; accepts = accepts }

room : Each (Fits store) stream.fields
room = omega arith

-- every call for a packet of the stream is proper
proper : (is : List ℕ) → Each (λ (i : ℕ). i < 7) is → Proper stream (lends store is)
proper [] e = tt
proper (i ∷ is) e = (proper is e.1, e.0, room)

-- FFFFFFFE, FFFFFFFF, 0, FFFFFFFF again, 1, 3 and 4: the calls stand with the latest first
abbrev pub calls : Calls
calls = lends store (6 ∷ 5 ∷ 3 ∷ 1 ∷ 2 ∷ 1 ∷ 0 ∷ [])

near : Near calls
near = omega arith

-- so demand 3 holds of them
pub kept : Demand3After stream [] calls (run stream calls)
kept = demand3 stream formed calls (proper (6 ∷ 5 ∷ 3 ∷ 1 ∷ 2 ∷ 1 ∷ 0 ∷ []) (omega arith)) near

-- handed out are the field that wraps, and the last; not the one that misses packet 2
pub handed : (run stream calls).handed
    ≡ record { timestamp = 2; f = 2; records = 1; cells = 9; packets = 2; content = list_of (a ∷ []) }
    ∷ record { timestamp = 4; f = 2; records = 0; cells = 0; packets = 1; content = [] }
    ∷ []
handed = kept.handed

-- six fresh, one late, one missing
pub counts : ((run stream calls).state.fresh ≡ 6) × ((run stream calls).state.late ≡ 1) × ((run stream calls).state.missing ≡ 1)
counts = (kept.fresh_count, kept.late, omega (arith, kept.fresh_count, kept.missing))

-- the answers, over the octets
pub answered : answers stream calls
    ≡ answer.Skipped
    ∷ answer.Held
    ∷ answer.Whole (record { timestamp = record { 0 = 2 }; f = 2; records = 1; cells = 9; packets = 2 })
    ∷ answer.Refused (record { number = 32; index = 0 })
    ∷ answer.Held
    ∷ answer.Skipped
    ∷ answer.Whole (record { timestamp = record { 0 = 4 }; f = 2; records = 0; cells = 0; packets = 1 })
    ∷ []
unfolding to_bits num bits bits_at row_at header_word checksum_word anc_size anc_record headers_ok r_ok words_ok checksum_ok alignment_ok anc_checks read_anc read_run packet_read header_checks padding_checks payload_checks read_records read_packet read_content step
answered = refl
