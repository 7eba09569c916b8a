-- The marked distances of 01 as 02 (K11) has them, and the run of its `fieldlist` example over the real octets: demand 3 can be met, and is.
-- By computation, and by the theorem.
use mathlib.Core.Path.{◌≡◌, refl}
use mathlib.Core.Bool.{true, false}
use mathlib.Core.List.{List, [], ◌∷◌, ◌++◌}
use mathlib.Core.Logic.{inl}
use Prim.Native.Nat.{ℕ, zero, suc, ◌<◌}
use native.Mathlib.Omega.{arith}
use lib.IntN.{pos, negsuc}
use lib.ListN.{take, set}
use Rattle.wire_spec.specs.Bits.{to_bits, num, bits, bits_at, row_at}
use Rattle.wire_spec.specs.Words.{header_word, checksum_word}
use Rattle.wire_spec.specs.Layout.{rfc8331}
use Rattle.wire_spec.specs.Result.{Ok, refuse}
use Rattle.wire_spec.specs.Anc.{Each, anc_size, anc_record, headers_ok, r_ok, words_ok, checksum_ok, alignment_ok, anc_checks, read_anc, read_run}
use Rattle.wire_spec.specs.Packet.{packet_read, header_checks, padding_checks, payload_checks, read_records, read_packet, read_content}
use Rattle.wire_spec.specs.Cells.{list_in, list_of}
use Rattle.wire_spec.proofs.Examples.{a, a_octets}
use Rattle.wire_spec.proofs.PacketExamples.{frame, frame7, frame7_octets, frame8, frame8_octets, frame10, frame10_octets}
use Rattle.depacketizer_spec.specs.declared.state.Phase.TheVariants as phase
use Rattle.depacketizer_spec.specs.declared.state.Answer.{Answer}
use Rattle.depacketizer_spec.specs.declared.state.Answer.TheVariants as answer
use Rattle.depacketizer_spec.specs.Step.{distance, late, next, far, ahead, classify, step}
use Rattle.depacketizer_spec.specs.Stream.{Field, Stream, nth, content_at, Fits, WellFormedStream, other, packet, Call, Calls, none, ◌before◌, Proper, Near, call_step, run, Demand3After}
use Rattle.depacketizer_spec.proofs.Demand3.{demand3}

-- "Last FFFFFFFF: 0 is distance 1." The largest distance, and the most negative
pub distances : (distance 0xFFFFFFFF 0 ≡ pos 1) × (distance 0 0x7FFFFFFF ≡ pos 0x7FFFFFFF)
    × (distance 0 0x80000000 ≡ negsuc 0x7FFFFFFF)
distances = (refl, refl, refl)

-- the same, classified: "last 0 now reads: BB7 is fresh, BB8 is far, FFFFFF9D is late, FFFFFF9C is far"; both ends are far; a packet is late
-- after itself
pub classes : (classify (distance 0xFFFFFFFF 0) ≡ next) × (classify (distance 0 0xBB7) ≡ ahead 0xBB6)
    × (classify (distance 0 0xBB8) ≡ far) × (classify (distance 0 0xFFFFFF9D) ≡ late) × (classify (distance 0 0xFFFFFF9C) ≡ far)
    × (classify (distance 0 0x7FFFFFFF) ≡ far) × (classify (distance 0 0x80000000) ≡ far) × (classify (distance 7 7) ≡ late)
classes = (refl, refl, refl, refl, refl, refl, refl, refl)

-- packet 9, that never arrives: timestamp 4002, F 2
abbrev pub frame9_octets : List ℕ
frame9_octets =
    0x80 ∷ 0xF0 ∷ 0x00 ∷ 0x09 ∷ 0x00 ∷ 0x00 ∷ 0x0F ∷ 0xA2 ∷ 0x00 ∷ 0x00 ∷ 0x00 ∷ 0x01
    ∷ 0x00 ∷ 0x00 ∷ 0x00 ∷ 0x0C ∷ 0x01 ∷ 0x80 ∷ 0x00 ∷ 0x00 ∷ a_octets

-- a field of one packet with record A
abbrev single : (timestamp f : ℕ) → List ℕ → Field
single timestamp f octets =
    record { timestamp = timestamp; f = f; first = record { octets = octets; records = a ∷ [] }; rest = [] }

-- "Numbers 7, 8, 8, 10", with 9 that is lost
abbrev pub stream : Stream
stream =
    record {
      layout = rfc8331;
      source = 1;
      type = 112;
      start = 7;
      fields = single 1000 2 frame7_octets ∷ single 2501 3 frame8_octets ∷ single 4002 2 frame9_octets ∷ single 5504 3 frame10_octets ∷ [];
    }

-- each packet is admitted, and says what the stream says of it
pub admits : (read_content rfc8331 frame7_octets ≡ Ok frame7) × (read_content rfc8331 frame8_octets ≡ Ok frame8)
    × (read_content rfc8331 frame9_octets ≡ Ok (frame 9 4002 2)) × (read_content rfc8331 frame10_octets ≡ Ok frame10)
unfolding to_bits num bits bits_at row_at header_word checksum_word anc_size anc_record headers_ok r_ok words_ok checksum_ok alignment_ok anc_checks read_anc read_run packet_read header_checks padding_checks payload_checks read_records read_packet read_content
admits = (refl, refl, refl, refl)

-- eleven octets are refused by 2
pub refuses : read_content rfc8331 (take 11 frame7_octets) ≡ refuse 2 0
unfolding to_bits num bits bits_at header_checks read_packet read_content
refuses = refl

accepts : (i : ℕ) → i < 4 → read_content rfc8331 (nth stream i).part.octets ≡ Ok (content_at stream i (nth stream i))
accepts zero h = admits.0
accepts (suc zero) h = admits.1
accepts (suc (suc zero)) h = admits.2
accepts (suc (suc (suc zero))) h = admits.3
accepts (suc (suc (suc (suc i)))) h = absurd (omega arith)

-- the stream is well-formed
pub formed : WellFormedStream stream
formed = record { few = omega arith; within = omega arith; accepts = accepts }

-- a store one cell longer than a field
abbrev pub store : List ℕ
store = 1 ∷ 2 ∷ 3 ∷ 4 ∷ 5 ∷ 6 ∷ 7 ∷ 8 ∷ 9 ∷ 10 ∷ []

-- a call for packet `i`, lent that store
abbrev pub lend : List ℕ → ℕ → Call
lend l i = record { arriving = packet i; store = l }

-- 7, then eleven octets, 8, 8 and 10
abbrev pub calls : Calls
calls =
    none before lend store 0
    before record { arriving = other rfc8331 (take 11 frame7_octets); store = store }
    before lend store 1
    before lend store 1
    before lend store 3

room : Each (Fits store) stream.fields
room = omega arith

-- the calls are proper
pub proper : Proper stream calls
proper =
    (((((tt, omega arith, room), inl (record { number = 2; index = 0 }, refuses), room), omega arith, room), omega arith, room), omega arith, room)

-- none is far
pub near : Near calls
near = omega arith

-- so demand 3 holds of them
pub kept : Demand3After stream [] calls (run stream calls)
kept = demand3 stream formed calls proper near

-- handed out is the field of packet 8, alone
pub handed : (run stream calls).handed ≡ record { timestamp = 2501; f = 3; records = 1; cells = 9; packets = 1; content = list_of (a ∷ []) } ∷ []
handed = kept.handed

-- "fresh=3 late=1 missing=1"
pub counts : ((run stream calls).state.fresh ≡ 3) × ((run stream calls).state.late ≡ 1) × ((run stream calls).state.missing ≡ 1)
counts = (kept.fresh_count, kept.late, omega (arith, kept.fresh_count, kept.missing))

-- the answers to the calls of a stream, the latest last
abbrev pub answers : Stream → Calls → List Answer
answers s none = []
answers s (cs before c) = answers s cs ++ ((call_step s (run s cs) c).answer ∷ [])

-- "7 skipped", "8 whole ts=2501 f=3 records=1", "8 late", "10 skipped", and the refusal among them; the state in the end
pub answered : (answers stream calls
    ≡ answer.Skipped
    ∷ answer.Refused (record { number = 2; index = 0 })
    ∷ answer.Whole (record { timestamp = record { 0 = 2501 }; f = 3; records = 1; cells = 9; packets = 1 })
    ∷ answer.Refused (record { number = 32; index = 0 })
    ∷ answer.Skipped
    ∷ [])
    × ((run stream calls).state
    ≡ record {
      source = 1;
      payload_type = 112;
      phase = phase.Ready;
      heard = true;
      last = record { 0 = 10 };
      timestamp = record { 0 = 0 };
      f = 0;
      records = 0;
      cells = 0;
      packets = 0;
      fresh = 3;
      late = 1;
      missing = 1;
      remembers = false;
      remembered = record { 0 = 0 };
    })
unfolding to_bits num bits bits_at row_at header_word checksum_word anc_size anc_record headers_ok r_ok words_ok checksum_ok alignment_ok anc_checks read_anc read_run packet_read header_checks padding_checks payload_checks read_records read_packet read_content step
answered = (refl, refl)

-- A field of two packets behind packet 7: 8, unmarked, and these octets, both with record A.
abbrev two : List ℕ → Stream
two second =
    record {
      layout = rfc8331;
      source = 1;
      type = 112;
      start = 7;
      fields =
          single 1000 2 frame7_octets
          ∷ record {
            timestamp = 4002;
            f = 2;
            first = record { octets = set (set frame9_octets 1 0x70) 3 0x08; records = a ∷ [] };
            rest = record { octets = second; records = a ∷ [] } ∷ [];
          }
          ∷ [];
    }

abbrev pub pair : Stream
pair = two frame9_octets

-- the same with F 3 in packet 9, which no well-formed stream has
abbrev pub mixed : Stream
mixed = two (set frame9_octets 17 0xC0)

-- the same with timestamp 4003 in packet 9
abbrev pub retimed : Stream
retimed = two (set frame9_octets 7 0xA3)

-- 19 cells, one more than that field has
abbrev wide : List ℕ
wide = store ++ take 9 store

-- the calls for these packets, each lent that store
abbrev pub lends : List ℕ → List ℕ → Calls
lends l [] = none
lends l (i ∷ is) = lends l is before lend l i

-- "Held and whole append their cells after the gathered ones", with the index of each packet (02, K13), and the last cell lent stays as it was; the store too short for
-- the second packet; the first packet lost; the one sent just before them lost; F differing in the second, which leaves the store
-- as the call before did; the timestamp differing. The packets stand with the latest first.
pub pair-answered : (answers pair (lends wide (2 ∷ 1 ∷ 0 ∷ []))
    ≡ answer.Skipped ∷ answer.Held ∷ answer.Whole (record { timestamp = record { 0 = 4002 }; f = 2; records = 2; cells = 18; packets = 2 }) ∷ [])
    × ((run pair (lends wide (2 ∷ 1 ∷ 0 ∷ []))).store ≡ list_of (a ∷ []) ++ (list_in 1 (a ∷ []) ++ (9 ∷ [])))
    × (answers pair (lends (take 17 wide) (2 ∷ 1 ∷ 0 ∷ [])) ≡ answer.Skipped ∷ answer.Held ∷ answer.Overfull ∷ [])
    × (answers pair (lends wide (2 ∷ 0 ∷ [])) ≡ answer.Skipped ∷ answer.Skipped ∷ [])
    × (answers pair (lends wide (2 ∷ 1 ∷ [])) ≡ answer.Skipped ∷ answer.Skipped ∷ [])
    × (answers mixed (lends wide (2 ∷ 1 ∷ 0 ∷ [])) ≡ answer.Skipped ∷ answer.Held ∷ answer.Mixed ∷ [])
    × ((run mixed (lends wide (2 ∷ 1 ∷ 0 ∷ []))).store ≡ (run mixed (lends wide (1 ∷ 0 ∷ []))).store)
    × (answers retimed (lends wide (2 ∷ 1 ∷ 0 ∷ [])) ≡ answer.Skipped ∷ answer.Held ∷ answer.Mixed ∷ [])
unfolding to_bits num bits bits_at row_at header_word checksum_word anc_size anc_record headers_ok r_ok words_ok checksum_ok alignment_ok anc_checks read_anc read_run packet_read header_checks padding_checks payload_checks read_records read_packet read_content step
pair-answered = (refl, refl, refl, refl, refl, refl, refl, refl)
