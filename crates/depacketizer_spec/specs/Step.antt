-- What the depacketizer does with one arrival (01, "The keeper"; encoders that restart: 02, K11).
use Rattle.std.specs.Prelude.{Bool, true, false, cond, ◌&&◌, ◌||◌, List, [], ◌∷◌, ℕ, zero, suc, ◌+◌, ◌-◌, ◌^◌, ◌%◌, min, eqb, leb, ltb, ℤ, pos, negsuc, length}
use Rattle.wire_spec.specs.Bits.{splice}
use Rattle.wire_spec.specs.Layout.{Layout}
use Rattle.wire_spec.specs.Result.{Result, Err, Ok, Checks, judge, ◌then◌}
use Rattle.wire_spec.specs.Cells.{list_in, list_of}
use Rattle.wire_spec.specs.Packet.{Content, read_content}
use Rattle.wire_spec.specs.Writing.{max_field_records, max_field_cells, max_field_packets, max_type}
use Rattle.depacketizer_spec.specs.declared.state.State.{State}
use Rattle.depacketizer_spec.specs.declared.state.Phase.{Phase}
use Rattle.depacketizer_spec.specs.declared.state.Phase.TheVariants as phase
use Rattle.depacketizer_spec.specs.declared.state.Answer.{Answer}
use Rattle.depacketizer_spec.specs.declared.state.Answer.TheVariants as answer
use Rattle.depacketizer_spec.specs.declared.state.Field.{Field}

-- "Each stops at 2^64 - 1"
abbrev pub max_count : ℕ
max_count = 2 ^ 64 - 1

infixl 65 ◌⊞◌
-- a count increased
abbrev pub ◌⊞◌ : ℕ → ℕ → ℕ
a ⊞ b = min (a + b) max_count

-- "its number less the last fresh one modulo 2^32, read as a signed 32-bit number"
abbrev pub signed : ℕ → ℤ
signed n = cond (ltb n (2 ^ 31)) (pos n) (negsuc (2 ^ 32 - suc n))

-- the distance of a number from the last fresh one
abbrev pub distance : ℕ → ℕ → ℤ
distance last number = signed ((number + (2 ^ 32 - last)) % 2 ^ 32)

-- "ahead (2 to 2,999)" (RFC 3550, appendix A.1: MAX_DROPOUT less 1)
abbrev pub max_ahead : ℕ
max_ahead = 2999

-- "late (0 to -99)" (RFC 3550, appendix A.1: MAX_MISORDER less 1)
abbrev pub max_behind : ℕ
max_behind = 99

-- what a distance says: late, the next packet, ahead with so many missing before it, or far
pub data Class : Type 0 where
  late next far : Class
  ahead : ℕ → Class

-- "The distance now says next (1), ahead (2 to 2,999), late (0 to -99) or far (anything else)."
abbrev pub classify : ℤ → Class
classify (negsuc n) = cond (leb (suc n) max_behind) late far
classify (pos zero) = late
classify (pos (suc zero)) = next
classify (pos (suc (suc n))) = cond (leb (suc (suc n)) max_ahead) (ahead (suc n)) far

-- "The keeper is lost, ready or filling." What is gathered: nothing, and no field can start; nothing, and the next packet starts
-- one; part of a field
pub data Gathered : Type 0 where
  lost ready : Gathered
  filling : (timestamp f records cells packets : ℕ) → Gathered

-- "Only a filling keeper has gathered records."
abbrev pub gathered_in : Phase → (timestamp f records cells packets : ℕ) → Gathered
gathered_in phase.Lost t f r c n = lost
gathered_in phase.Ready t f r c n = ready
gathered_in phase.Filling t f r c n = filling t f r c n

-- what a state has gathered
abbrev pub gathered : State → Gathered
gathered st = gathered_in st.phase st.timestamp.0 st.f st.records st.cells st.packets

-- the phase of a state that has this gathered
abbrev pub phase_of : Gathered → Phase
phase_of lost = phase.Lost
phase_of ready = phase.Ready
phase_of (filling t f r c n) = phase.Filling

-- the timestamp of the field that is gathered; 0 where there is none, as for the next four
abbrev pub timestamp_of : Gathered → ℕ
timestamp_of lost = 0
timestamp_of ready = 0
timestamp_of (filling t f r c n) = t

-- its F
abbrev pub f_of : Gathered → ℕ
f_of lost = 0
f_of ready = 0
f_of (filling t f r c n) = f

-- its records that are gathered
abbrev pub gathered_records : Gathered → ℕ
gathered_records lost = 0
gathered_records ready = 0
gathered_records (filling t f r c n) = r

-- and their cells
abbrev pub gathered_cells : Gathered → ℕ
gathered_cells lost = 0
gathered_cells ready = 0
gathered_cells (filling t f r c n) = c

-- and the packets that they came in, with records or without: the index of the next (02, K13)
abbrev pub gathered_packets : Gathered → ℕ
gathered_packets lost = 0
gathered_packets ready = 0
gathered_packets (filling t f r c n) = n

-- What a packet brings to a field: whether it is marked, timestamp, F, and how many records in how many cells.
pub record Carried : Type 0 where
  pub marked : Bool
  pub timestamp : ℕ
  pub f : ℕ
  pub records : ℕ
  pub cells : ℕ

-- M (RFC 8331, section 2): the last packet of a field or frame
abbrev pub marked : Content → Bool
marked k = eqb k.marker 1

-- what a packet that says `k` brings
abbrev pub carried : Content → Carried
carried k =
    record {
      marked = marked k;
      timestamp = k.timestamp;
      f = k.f;
      records = length k.records;
      cells = length (list_of k.records);
    }

-- What a fresh packet does to what is gathered: the answer, what is gathered then, and whether its cells are appended.
pub record Gather : Type 0 where
  pub answer : Answer
  pub gathered : Gathered
  pub append : Bool

-- "After any marked fresh arrival the keeper is ready; after an unmarked one that isn't held it is lost."
abbrev pub dropped : Answer → (marker : Bool) → Gather
dropped a marker = record { answer = a; gathered = cond marker ready lost; append = false }

-- "with timestamp, F, records, cells used": the field that a packet completes, and its packets
abbrev pub field_with : Carried → (records cells packets : ℕ) → Field
field_with p r c n = record { timestamp = record { 0 = p.timestamp }; f = p.f; records = r; cells = c; packets = n }

-- "Started or joined, and marked (M): answer whole, .. Unmarked: held, ..
abbrev pub whole_if_marked : Bool → Field → Answer
whole_if_marked true x = answer.Whole x
whole_if_marked false x = answer.Held

-- .. now filling."
abbrev pub taken : Carried → (records cells packets : ℕ) → Gather
taken p r c n =
    record {
      answer = whole_if_marked p.marked (field_with p r c n);
      gathered = cond p.marked ready (filling p.timestamp p.f r c n);
      append = true;
    }

-- "A start or join that takes the field past .. records, .. cells or the store: answer overfull, the field dropped" (01; limits: 02, K2); "a
-- packet whose index would be larger, with records or without, makes the field overfull" (K13)
abbrev pub fits : (records cells packets room : ℕ) → Bool
fits r c n room = leb r max_field_records && (leb c max_field_cells && (leb c room && leb n max_field_packets))

-- whether it fits with a packet that joins `r` records in `c` cells of `n` packets
abbrev pub join_fits : (r c n : ℕ) → Carried → (room : ℕ) → Bool
join_fits r c n p room = fits (r + p.records) (c + p.cells) (n + 1) room

-- a packet takes the field to `r` records in `c` cells of `n` packets, which fit or not
abbrev pub join_if_fits : Bool → Carried → (r c n : ℕ) → Gather
join_if_fits true p r c n = taken p r c n
join_if_fits false p r c n = dropped answer.Overfull p.marked

-- a packet joins `r` records in `c` cells of `n` packets, in a store of so many cells
abbrev pub join : (r c n : ℕ) → Carried → (room : ℕ) → Gather
join r c n p room = join_if_fits (join_fits r c n p room) p (r + p.records) (c + p.cells) (n + 1)

-- "if timestamp or F differs, answer mixed, the gathered part dropped. Otherwise it joins."
abbrev pub join_if_same : Bool → (r c n : ℕ) → Carried → (room : ℕ) → Gather
join_if_same true r c n p room = join r c n p room
join_if_same false r c n p room = dropped answer.Mixed p.marked

-- distance 1: "when lost: skipped"; "when ready: starts a field"; "when filling": joins or is mixed
abbrev pub follow : Gathered → Carried → (room : ℕ) → Gather
follow lost p room = dropped answer.Skipped p.marked
follow ready p room = join 0 0 0 p room
follow (filling t f r c n) p room = join_if_same (eqb t p.timestamp && eqb f p.f) r c n p room

-- One step: the answer, the next state, and the store.
pub record Step : Type 0 where
  pub answer : Answer
  pub state : State
  pub store : List ℕ

-- the state after a fresh packet, with so many more missing, and what is then gathered flat. "Counts: fresh; late; missing, the sum
-- of distance - 1." "Any fresh arrival clears the memory."
abbrev pub after_with : State → (number : ℕ) → Phase → (timestamp f records cells packets missing : ℕ) → State
after_with st number p t f r c n missing =
    record {
      source = st.source;
      payload_type = st.payload_type;
      phase = p;
      heard = true;
      last = record { 0 = number };
      timestamp = record { 0 = t };
      f = f;
      records = r;
      cells = c;
      packets = n;
      fresh = st.fresh ⊞ 1;
      late = st.late;
      missing = st.missing ⊞ missing;
      remembers = false;
      remembered = record { 0 = 0 };
    }

-- the same, with what is then gathered
abbrev pub after : State → (number : ℕ) → Gathered → (missing : ℕ) → State
after st number g missing =
    after_with st number (phase_of g) (timestamp_of g) (f_of g) (gathered_records g) (gathered_cells g) (gathered_packets g) missing

-- 36 "changes only the remembered number"
abbrev pub remembering : State → ℕ → State
remembering st number =
    record {
      source = st.source;
      payload_type = st.payload_type;
      phase = st.phase;
      heard = st.heard;
      last = st.last;
      timestamp = st.timestamp;
      f = st.f;
      records = st.records;
      cells = st.cells;
      packets = st.packets;
      fresh = st.fresh;
      late = st.late;
      missing = st.missing;
      remembers = true;
      remembered = record { 0 = number };
    }

-- "Held and whole append their cells after the gathered ones; other answers write nothing." The cells have "the index of its packet within its
-- field, from 0" (02, K13).
abbrev pub appended : Bool → Gathered → Content → List ℕ → List ℕ
appended append g k store = cond append (splice store (gathered_cells g) (list_in (gathered_packets g) k.records)) store

-- a fresh packet that finds `g` gathered: what the state has, or lost where packets are missing before it
abbrev pub fresh_step : State → Gathered → ℕ → Content → List ℕ → Step
fresh_step st g missing k store =
    let x : Gather = follow g (carried k) (length store) in
    record { answer = x.answer; state = after st k.number x.gathered missing; store = appended x.append g k store }

-- "32 adds one to the late count"
abbrev pub later : State → State
later st =
    record {
      source = st.source;
      payload_type = st.payload_type;
      phase = st.phase;
      heard = st.heard;
      last = st.last;
      timestamp = st.timestamp;
      f = st.f;
      records = st.records;
      cells = st.cells;
      packets = st.packets;
      fresh = st.fresh;
      late = st.late ⊞ 1;
      missing = st.missing;
      remembers = st.remembers;
      remembered = st.remembered;
    }

-- 32: late
abbrev pub late_step : State → List ℕ → Step
late_step st store =
    record { answer = answer.Refused (record { number = 32; index = 0 }); state = later st; store = store }

-- "A keeper just opened is lost, has no last fresh number, and its counts are 0."
abbrev pub open_state : (source type : ℕ) → State
open_state source type =
    record {
      source = source;
      payload_type = type;
      phase = phase.Lost;
      heard = false;
      last = record { 0 = 0 };
      timestamp = record { 0 = 0 };
      f = 0;
      records = 0;
      cells = 0;
      packets = 0;
      fresh = 0;
      late = 0;
      missing = 0;
      remembers = false;
      remembered = record { 0 = 0 };
    }

-- "the number after it is remembered"
abbrev pub number_after : ℕ → ℕ
number_after number = (number + 1) % 2 ^ 32

-- 36: "A far arrival is refused, and the number after it is remembered."
abbrev pub far_step : State → (number : ℕ) → List ℕ → Step
far_step st number store =
    record { answer = answer.Refused (record { number = 36; index = 0 }); state = remembering st (number_after number); store = store }

-- a number is "the remembered number"
abbrev pub is_remembered : State → (number : ℕ) → Bool
is_remembered st number = st.remembers && eqb st.remembered.0 number

-- "the keeper restarts: counts return to zero, and it is treated as a first arrival": in a state just opened, which is lost
abbrev pub restart_step : State → Content → List ℕ → Step
restart_step st k store = fresh_step (open_state st.source st.payload_type) lost 0 k store

-- "If a far arrival has the remembered number, the keeper restarts"; any other is refused
abbrev pub far_or_restart : Bool → State → Content → List ℕ → Step
far_or_restart true st k store = restart_step st k store
far_or_restart false st k store = far_step st k.number store

-- "First, or distance over 1: answer skipped; what was gathered is dropped": as if lost
abbrev pub class_step : Class → State → Content → List ℕ → Step
class_step late st k store = late_step st store
class_step next st k store = fresh_step st (gathered st) 0 k store
class_step far st k store = far_or_restart (is_remembered st k.number) st k store
class_step (ahead n) st k store = fresh_step st lost n k store

-- "The first is always fresh."
abbrev pub packet_step : Bool → State → Content → List ℕ → Step
packet_step false st k store = fresh_step st lost 0 k store
packet_step true st k store = class_step (classify (distance st.last.0 k.number)) st k store

-- 30: "other source"; 31: "other payload type"; the opened ones, and those that a packet says
abbrev pub opened_checks : (source type said_source said_type : ℕ) → Checks
opened_checks source type said_source said_type = (eqb said_source source, 30) ∷ (eqb said_type type, 31) ∷ []

-- "1 to 13, then 30, 31": what the octets say, or the refusal
abbrev pub admit : Layout → (source type : ℕ) → List ℕ → Result Content
admit L source type octets =
    read_content L octets then λ k. judge 0 (opened_checks source type k.source k.type) (Ok k)

-- the step of an arrival that is refused, or admitted
abbrev pub admitted_step : State → Result Content → List ℕ → Step
admitted_step st (Err x) store = record { answer = answer.Refused x; state = st; store = store }
admitted_step st (Ok k) store = packet_step st.heard st k store

-- a field is gathered
abbrev pub is_filling : Phase → Bool
is_filling phase.Lost = false
is_filling phase.Ready = false
is_filling phase.Filling = true

-- nothing is gathered, and no field can start
abbrev pub is_lost : Phase → Bool
is_lost phase.Lost = true
is_lost phase.Ready = false
is_lost phase.Filling = false

-- 35 of the packets: ".. none when filling or any when not" (02, K13)
abbrev pub packets_ok : Phase → (packets : ℕ) → Bool
packets_ok phase.Lost n = eqb n 0
packets_ok phase.Ready n = eqb n 0
packets_ok phase.Filling n = leb 1 n

-- 35: "keeper state says over .. records, over .. cells, more cells than the store has, records or cells when not filling, or ready
-- or filling before a first arrival" (01; limits: 02, K2); "35 also if the state says over 4,096 packets, .." (K13)
abbrev pub sound : State → ℕ → Bool
sound st room =
    fits st.records st.cells st.packets room
    && (packets_ok st.phase st.packets
    && ((is_filling st.phase || (eqb st.records 0 && eqb st.cells 0)) && (st.heard || is_lost st.phase)))

-- "An arrival passes 35, then 1 to 13, then 30, 31, ..": what it says, or the refusal
abbrev pub admission : State → Layout → (room : ℕ) → List ℕ → Result Content
admission st L room octets = judge 0 ((sound st room, 35) ∷ []) (admit L st.source st.payload_type octets)

-- ".. 32" or 36, "in the place of 32": one arrival, of octets in a layout that the caller tells (02, K3). "Lent memory is unchanged, and so
-- is the keeper's state, but 32 adds one to the late count."
unfoldable pub step : State → Layout → List ℕ → List ℕ → Step
step st L octets store = admitted_step st (admission st L (length store) octets) store

-- "Opened with source and payload type (24 if over 127)."
abbrev pub open_of : (source type : ℕ) → Result State
open_of source type = judge 0 ((leb type max_type, 24) ∷ []) (Ok (open_state source type))
