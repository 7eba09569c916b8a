-- What each call of the outlet's C boundary gives: as the library's definitions say, where the rows are long enough and the state's numbers are a state.
use Rattle.wire_spec.specs.Result.{Result, Ok, Err}
use Rattle.egress_spec.specs.declared.state.HandedOut.{HandedOut}
use Rattle.std.specs.Prelude.{Bool, cond, ◌&&◌, List, [], ◌∷◌, ℕ, leb, length}
use Rattle.egress_spec.specs.declared.state.State.{State}
use Rattle.egress_spec.specs.Places.{open_state}
use Rattle.egress_spec.specs.Step as step
use Rattle.capi_egress_state.specs.Row.{is_state, numbers_of, row_size, state_at}
use Rattle.capi_answer.specs.Rows.{Reply, accepted_reply, answer_size, refused_reply, row_reply, row_too_short}

-- `jibhotran_outlet_open`: its number, and the numbers that it writes to the state's row
abbrev pub open_number : (state : List ℕ) → ℕ
open_number state = cond (leb row_size (length state)) 0 row_too_short

abbrev pub open_numbers : (state : List ℕ) → List ℕ
open_numbers state = cond (leb row_size (length state)) (numbers_of open_state) []

-- are both rows long enough
abbrev pub rows_fit : (state answer : ℕ) → Bool
rows_fit state answer = leb row_size state && leb answer_size answer

-- What an offer or a take gives: the reply, the numbers that it writes to the state's row, and the memory or the octets that it is lent.
pub record Given : Type 0 where
  pub reply : Reply
  pub numbers : List ℕ
  pub lent : List ℕ

-- "A refusal changes nothing."
abbrev pub unchanged : Reply → (lent : List ℕ) → Given
unchanged reply lent = record { reply = reply; numbers = []; lent = lent }

-- a row too short; numbers that no state has, "or a number out of range"
abbrev pub at_state : (state answer lent : List ℕ) → Given → Given
at_state state answer lent x =
    cond (rows_fit (length state) (length answer)) (cond (is_state state) x (unchanged (refused_reply (record { number = 64; index = 0 })) lent)) (unchanged row_reply lent)

-- an offer copied in, or refused; `memory` is what the library leaves
abbrev pub offered_by : Result (Unit {0}) → State → (memory : List ℕ) → Given
offered_by (Ok _) next memory = record { reply = accepted_reply []; numbers = numbers_of next; lent = memory }
offered_by (Err x) next memory = unchanged (refused_reply x) memory

abbrev pub offered_at : State → (channel : ℕ) (packet memory : List ℕ) → Given
offered_at st c p m =
    let r = step.offer_of st c (length p) (length m) in
    offered_by (step.offered_of st r).answer (step.offered_of st r).state (step.memory_after st r p m)

-- `jibhotran_outlet_offer`
abbrev pub offer : (state : List ℕ) (channel : ℕ) (packet memory answer : List ℕ) → Given
offer state c p m answer = at_state state answer m (offered_at (state_at state) c p m)

-- a packet handed out: its channel, and its octets
abbrev pub taken_reply : (channel octets : ℕ) → Reply
taken_reply c n = accepted_reply (c ∷ n ∷ [])

abbrev pub taken_by : Result HandedOut → State → (out : List ℕ) → Given
taken_by (Ok p) next out = record { reply = taken_reply p.channel p.octets.0; numbers = numbers_of next; lent = out }
taken_by (Err x) next out = unchanged (refused_reply x) out

abbrev pub taken_at : State → (memory out : List ℕ) → Given
taken_at st m out =
    let r = step.take_of st (length m) (length out) in
    taken_by (step.taken_of st r).answer (step.taken_of st r).state (step.out_after st m r out)

-- `jibhotran_outlet_take`
abbrev pub take : (state memory out answer : List ℕ) → Given
take state m out answer = at_state state answer out (taken_at (state_at state) m out)
