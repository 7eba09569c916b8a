-- Encoders that restart (02, K11), over octets: what the memory holds and who clears it, which the theorems leave open; and demand 3 again
-- from a restart.
-- By computation, and by the theorem.
use mathlib.Core.Path.{◌≡◌, refl}
use mathlib.Core.Bool.{true, false}
use mathlib.Core.List.{List, [], ◌∷◌, ◌++◌}
use Prim.Native.Nat.{ℕ, ◌^◌, ◌%◌, ◌/◌}
use native.Mathlib.Omega.{arith}
use lib.ListN.{take}
use Rattle.wire_spec.specs.Bits.{to_bits, num, bits, bits_at, row_at}
use Rattle.wire_spec.specs.Words.{header_word, checksum_word}
use Rattle.wire_spec.specs.Layout.{rfc8331}
use Rattle.wire_spec.specs.Anc.{anc_size, anc_record, headers_ok, r_ok, words_ok, checksum_ok, alignment_ok, anc_checks, read_anc, read_run}
use Rattle.wire_spec.specs.Packet.{packet_read, header_checks, padding_checks, payload_checks, read_records, read_packet, read_content}
use Rattle.depacketizer_spec.specs.declared.state.State.{State}
use Rattle.depacketizer_spec.specs.declared.state.Phase.TheVariants as phase
use Rattle.depacketizer_spec.specs.declared.state.Answer.{Answer}
use Rattle.depacketizer_spec.specs.declared.state.Answer.TheVariants as answer
use Rattle.depacketizer_spec.specs.Step.{open_state, gathered, step}
use Rattle.depacketizer_spec.specs.Stream.{content_at, nth, Call, Calls, Run, store_for, Restarts, run_from, ◌and_then◌, none, ◌before◌, Proper, Near, Demand3After}
use Rattle.depacketizer_spec.proofs.RunExamples.{store, lend}
use Rattle.depacketizer_spec.proofs.StreamExamples as sample
use Rattle.depacketizer_spec.proofs.RestartLaws.{demand3-again}

-- a marked packet of source 1 and type 112, with this number and no records
abbrev bare : ℕ → List ℕ
bare n =
    0x80 ∷ 0xF0 ∷ n / 2 ^ 8 % 2 ^ 8 ∷ n % 2 ^ 8 ∷ 0x00 ∷ 0x00 ∷ 0x00 ∷ 0x01 ∷ 0x00 ∷ 0x00 ∷ 0x00 ∷ 0x01
    ∷ n / 2 ^ 24 ∷ n / 2 ^ 16 % 2 ^ 8 ∷ 0x00 ∷ 0x00 ∷ 0x00 ∷ 0x80 ∷ 0x00 ∷ 0x00 ∷ []

-- the state after these arrivals, the latest first, and the answers to them, the latest first
abbrev state_after : List (List ℕ) → State
state_after [] = open_state 1 112
state_after (o ∷ os) = (step (state_after os) rfc8331 o store).state

abbrev answers_to : List (List ℕ) → List Answer
answers_to [] = []
answers_to (o ∷ os) = (step (state_after os) rfc8331 o store).answer ∷ answers_to os

abbrev whole : Answer
whole = answer.Whole (record { timestamp = record { 0 = 1 }; f = 2; records = 0; cells = 0; packets = 1 })

abbrev late_answer : Answer
late_answer = answer.Refused (record { number = 32; index = 0 })

abbrev far_answer : Answer
far_answer = answer.Refused (record { number = 36; index = 0 })

-- After packet 10,000, which is fresh: far and far + 1, a restart; far, late and far + 1, a restart; far, fresh and far + 1, none; the
-- same far twice, none; far, refused octets and far + 1, a restart; far FFFFFFFF and 0, a restart; far 9,900 and 9,901, which is late and so no
-- restart. Each run stands with the latest first.
pub memories : (answers_to (bare 6 ∷ bare 5 ∷ bare 10000 ∷ []) ≡ answer.Skipped ∷ far_answer ∷ answer.Skipped ∷ [])
    × (answers_to (bare 6 ∷ bare 10000 ∷ bare 5 ∷ bare 10000 ∷ []) ≡ answer.Skipped ∷ late_answer ∷ far_answer ∷ answer.Skipped ∷ [])
    × (answers_to (bare 6 ∷ bare 10001 ∷ bare 5 ∷ bare 10000 ∷ []) ≡ far_answer ∷ whole ∷ far_answer ∷ answer.Skipped ∷ [])
    × (answers_to (bare 5 ∷ bare 5 ∷ bare 10000 ∷ []) ≡ far_answer ∷ far_answer ∷ answer.Skipped ∷ [])
    × (answers_to (bare 6 ∷ take 11 (bare 5) ∷ bare 5 ∷ bare 10000 ∷ [])
    ≡ answer.Skipped ∷ answer.Refused (record { number = 2; index = 0 }) ∷ far_answer ∷ answer.Skipped ∷ [])
    × (answers_to (bare 0 ∷ bare 0xFFFFFFFF ∷ bare 10000 ∷ []) ≡ answer.Skipped ∷ far_answer ∷ answer.Skipped ∷ [])
    × (answers_to (bare 9901 ∷ bare 9900 ∷ bare 10000 ∷ []) ≡ late_answer ∷ far_answer ∷ answer.Skipped ∷ [])
unfolding to_bits num bits bits_at row_at header_word checksum_word anc_size anc_record headers_ok r_ok words_ok checksum_ok alignment_ok anc_checks read_anc read_run packet_read header_checks padding_checks payload_checks read_records read_packet read_content step
memories = (refl, refl, refl, refl, refl, refl, refl)

-- 10,000, 10,002, 10,002 and 5: the far arrival changes only the remembered number
abbrev arrivals : List (List ℕ)
arrivals = bare 5 ∷ bare 10002 ∷ bare 10002 ∷ bare 10000 ∷ []

-- and with 6 "counts return to zero", the restarting packet being the first
pub restarted : (state_after arrivals
    ≡ record {
      source = 1;
      payload_type = 112;
      phase = phase.Ready;
      heard = true;
      last = record { 0 = 10002 };
      timestamp = record { 0 = 0 };
      f = 0;
      records = 0;
      cells = 0;
      packets = 0;
      fresh = 2;
      late = 1;
      missing = 1;
      remembers = true;
      remembered = record { 0 = 6 };
    })
    × (state_after (bare 6 ∷ arrivals)
    ≡ record {
      source = 1;
      payload_type = 112;
      phase = phase.Ready;
      heard = true;
      last = record { 0 = 6 };
      timestamp = record { 0 = 0 };
      f = 0;
      records = 0;
      cells = 0;
      packets = 0;
      fresh = 1;
      late = 0;
      missing = 0;
      remembers = false;
      remembered = record { 0 = 0 };
    })
unfolding to_bits num bits bits_at row_at header_word checksum_word anc_size anc_record headers_ok r_ok words_ok checksum_ok alignment_ok anc_checks read_anc read_run packet_read header_checks padding_checks payload_checks read_records read_packet read_content step
restarted = (refl, refl)

-- A run that 10,000 and then FFFFFFFD left, and in which a field had been handed out.
abbrev earlier : Run
earlier =
    record {
      state = state_after (bare 0xFFFFFFFD ∷ bare 10000 ∷ []);
      store = store;
      handed = record { timestamp = 9; f = 3; records = 0; cells = 0; packets = 1; content = [] } ∷ [];
    }

-- FFFFFFFE, the first packet of a stream, restarts it; FFFFFFFF and 0 follow
abbrev restarting : Call
restarting = lend store 0

abbrev following : Calls
following = none before lend store 1 before lend store 2

restarts : Restarts earlier.state rfc8331 (nth sample.stream 0).part.octets (store_for (gathered earlier.state) earlier.store store)
unfolding to_bits num bits bits_at row_at header_word checksum_word anc_size anc_record headers_ok r_ok words_ok checksum_ok alignment_ok anc_checks read_anc read_run packet_read header_checks padding_checks payload_checks read_records read_packet read_content step
restarts =
    record {
      passes = refl;
      heard = refl;
      says = content_at sample.stream 0 (nth sample.stream 0);
      accepts = refl;
      is_far = refl;
      remembered = refl;
    }

opened-source : earlier.state.source ≡ 1
unfolding to_bits num bits bits_at row_at header_word checksum_word anc_size anc_record headers_ok r_ok words_ok checksum_ok alignment_ok anc_checks read_anc read_run packet_read header_checks padding_checks payload_checks read_records read_packet read_content step
opened-source = refl

opened-type : earlier.state.payload_type ≡ 112
unfolding to_bits num bits bits_at row_at header_word checksum_word anc_size anc_record headers_ok r_ok words_ok checksum_ok alignment_ok anc_checks read_anc read_run packet_read header_checks padding_checks payload_checks read_records read_packet read_content step
opened-type = refl

proper : Proper sample.stream (restarting and_then following)
proper = omega arith

near : Near (restarting and_then following)
near = omega arith

-- so demand 3 holds again
pub kept : Demand3After sample.stream earlier.handed (restarting and_then following) (run_from earlier sample.stream (restarting and_then following))
kept = demand3-again sample.stream sample.formed earlier restarting following opened-source opened-type restarts proper near

-- handed out is, behind the field from before, the field that wraps; and the counts are those of three packets
pub handed : (run_from earlier sample.stream (restarting and_then following)).handed
    ≡ earlier.handed ++ (record { timestamp = 2; f = 2; records = 1; cells = 9; packets = 2; content = 0 ∷ 9 ∷ 0 ∷ 0 ∷ 0 ∷ 0x41 ∷ 0x05 ∷ 0 ∷ 0 ∷ [] } ∷ [])
handed = kept.handed

pub counts : ((run_from earlier sample.stream (restarting and_then following)).state.fresh ≡ 3)
    × ((run_from earlier sample.stream (restarting and_then following)).state.late ≡ 0)
counts = (kept.fresh_count, kept.late)
