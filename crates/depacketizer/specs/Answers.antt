-- What the code returns: a stage, from checks; a decision, from what is gathered; an arrival, from a step.
use Rattle.rtp_strict_reader.specs.declared.packet.Outline.{Outline}
use Rattle.depacketizer.specs.declared.state.Depacketizer.{Depacketizer}
use Rattle.std.specs.Prelude.{ℕ, cond, List, [], ◌∷◌}
use Rattle.wire_spec.specs.declared.refusal.Refusal.{Refusal}
use Rattle.wire_spec.specs.Layout.{Layout}
use Rattle.wire_spec.specs.Packet.{Content}
use Rattle.wire_spec.specs.Result.{Result, Err, Ok, Checks}
use Rattle.rtp_strict_reader.specs.Answers.{checked_of, summary_of}
use Rattle.rtp_strict_reader.specs.declared.packet.Summary.{Summary}
use Rattle.depacketizer_spec.specs.declared.state.State.{State}
use Rattle.depacketizer_spec.specs.declared.state.Answer.TheVariants as answer
use Rattle.depacketizer_spec.specs.Step.{Carried, Gather, Step, after_with, f_of, gathered_cells, gathered_packets}
use Rattle.depacketizer_spec.specs.Step.{gathered_records, later, number_after, opened_checks, phase_of, remembering}
use Rattle.depacketizer_spec.specs.Step.{sound, timestamp_of}
use Rattle.depacketizer_sequence.specs.declared.place.NotFresh.{NotFresh}
use Rattle.depacketizer_sequence.specs.declared.place.NotFresh.TheVariants as not_fresh
use Rattle.depacketizer.specs.declared.decide.Decision.{Decision}
use Rattle.depacketizer.specs.declared.inspect.Inspected.{Inspected}
use Rattle.depacketizer.specs.declared.state.Arrival.{Arrival}

-- "An arrival passes 35, then 1 to 13, then 30, 31, 32": the first check that fails refuses it
abbrev pub stage_of : Checks → Result (Unit {0})
stage_of [] = Ok tt
stage_of (t ∷ ts) = cond t.0 (stage_of ts) (Err (record { number = t.1; index = 0 }))

-- what follows a stage; a refusal goes straight out
abbrev pub passing : {A : Type 0} → Result (Unit {0}) → (refuse : Refusal → A) → A → A
passing (Ok tt) refuse r = r
passing (Err x) refuse r = refuse x

-- a packet that was checked, with its summary
abbrev pub inspected_as : Result Outline → Summary → Result Inspected
inspected_as (Err x) m = Err x
inspected_as (Ok o) m = Ok (record { outline = o; summary = m })

-- what octets say, inspected: the refusal, or where the parts of the packet are and its summary
abbrev pub inspected_of : Layout → List ℕ → Result Content → Result Inspected
inspected_of L s (Err x) = Err x
inspected_of L s (Ok k) = inspected_as (checked_of L s (Ok k)) (summary_of k)

-- ".. then 1 to 13, then 30, 31": a packet of the opened source and payload type
abbrev pub from_opened : State → Result Inspected → Result Inspected
from_opened st (Err x) = Err x
from_opened st (Ok p) =
    passing
    (stage_of (opened_checks st.source st.payload_type p.summary.head.source p.summary.head.payload_type))
    Err
    (Ok (record { outline = p.outline; summary = p.summary }))

-- "An arrival passes 35, .."
abbrev pub admitted : State → (room : ℕ) → Result Inspected → Result Inspected
admitted st room i = passing (stage_of ((sound st room, 35) ∷ [])) Err (from_opened st i)

-- what a packet with this summary brings to a field
abbrev pub carried_by : Summary → Carried
carried_by s =
    record {
      marked = s.head.marker;
      timestamp = s.head.timestamp.0;
      f = s.head.f;
      records = s.records;
      cells = s.cells;
    }

-- what a fresh packet does, with what is then gathered flat, as a state has it
abbrev pub decision_of : Gather → Decision
decision_of x =
    record {
      answer = x.answer;
      phase = phase_of x.gathered;
      timestamp = record { 0 = timestamp_of x.gathered };
      f = f_of x.gathered;
      records = gathered_records x.gathered;
      cells = gathered_cells x.gathered;
      packets = gathered_packets x.gathered;
      append = x.append;
    }

-- the state after a fresh packet, from what was decided
abbrev pub after_of : State → (number : ℕ) → Decision → (missing : ℕ) → State
after_of st number d missing = after_with st number d.phase d.timestamp.0 d.f d.records d.cells d.packets missing

-- what `arrive` returns of a step
abbrev pub arrival_of : Step → Arrival
arrival_of x = record { state = record { state = x.state }; answer = x.answer }

-- 32 or 36: what an arrival does that is not fresh
abbrev pub refused_of : NotFresh → State → (number : ℕ) → Arrival
refused_of not_fresh.Late st n =
    record { state = record { state = later st }; answer = answer.Refused (record { number = 32; index = 0 }) }
refused_of not_fresh.Far st n =
    record { state = record { state = remembering st (number_after n) }; answer = answer.Refused (record { number = 36; index = 0 }) }

-- what `open` returns of a state just opened, or of the refusal
abbrev pub opened_of : Result State → Result Depacketizer
opened_of (Err x) = Err x
opened_of (Ok st) = Ok (record { state = st })
