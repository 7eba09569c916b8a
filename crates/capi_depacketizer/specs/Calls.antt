-- What each call gives, and what the lent memory holds then: as the library's definitions say, where the rows are long enough.
use Rattle.wire_spec.specs.Result.{Result, Ok, Err}
use Rattle.depacketizer.specs.declared.state.Depacketizer.{Depacketizer}
use Rattle.depacketizer_spec.specs.declared.state.State.{State}
use Rattle.std.specs.Prelude.{Bool, cond, ◌&&◌, List, [], ℕ, leb, length, Option, Some, None}
use Rattle.wire_spec.specs.Layout.{Layout}
use Rattle.depacketizer.specs.Answers.{opened_of}
use Rattle.depacketizer_spec.specs.Step.{Step, step, open_of}
use Rattle.capi_state.specs.State.{state_size}
use Rattle.capi_state.specs.State.{numbers_of, state_in}
use Rattle.capi_answer.specs.Rows.{Reply, accepted_reply, answer_size, is_layout, layout_of, layout_reply, refused_reply, row_reply}
use Rattle.capi_depacketizer.specs.Rows.{arrival_reply}

-- are both rows long enough
abbrev pub rows_fit : (state answer : ℕ) → Bool
rows_fit state answer = leb state_size state && leb answer_size answer

-- what a call gives where both rows are long enough, and otherwise
abbrev pub given_both : {A : Type 0} → (state answer : List ℕ) → A → A → A
given_both state answer x y = cond (rows_fit (length state) (length answer)) x y

-- opened: nothing in the answer
abbrev pub opened_reply : Result Depacketizer → Reply
opened_reply (Err x) = refused_reply x
opened_reply (Ok d) = accepted_reply []

-- opened: the numbers of the state
abbrev pub opened_numbers : Result Depacketizer → List ℕ
opened_numbers (Err x) = []
opened_numbers (Ok d) = numbers_of d.state

-- opened: the state in the row, where another stood before
abbrev pub opened_in : Result Depacketizer → Option State → Option State
opened_in (Err x) old = old
opened_in (Ok d) old = Some d.state

-- `jibhotran_open`: its reply
abbrev pub open_reply : (source type : ℕ) → (state answer : List ℕ) → Reply
open_reply source type state answer = given_both state answer (opened_reply (opened_of (open_of source type))) row_reply

-- the numbers that it writes to the state's row
abbrev pub open_numbers : (source type : ℕ) → (state answer : List ℕ) → List ℕ
open_numbers source type state answer = given_both state answer (opened_numbers (opened_of (open_of source type))) []

-- the state that then stands in the row
abbrev pub state_opened : (source type : ℕ) → (state answer : List ℕ) → Option State
state_opened source type state answer = given_both state answer (opened_in (opened_of (open_of source type)) (state_in state)) (state_in state)

-- what an arrival gives: the reply, the numbers that it writes to the state's row, and the store
pub record Arrived : Type 0 where
  pub reply : Reply
  pub numbers : List ℕ
  pub store : List ℕ

-- a step of the library, as numbers
abbrev pub stepped : Step → Arrived
stepped x = record { reply = arrival_reply x.answer; numbers = numbers_of x.state; store = x.store }

-- an arrival at the state that stands in a row; 35 where there is none
abbrev pub arrived_at : Layout → Option State → (octets store : List ℕ) → Arrived
arrived_at L None octets store = record { reply = refused_reply (record { number = 35; index = 0 }); numbers = []; store = store }
arrived_at L (Some s) octets store = stepped (step s L octets store)

-- the state after an arrival
abbrev pub state_after : Layout → Option State → (octets store : List ℕ) → Option State
state_after L None octets store = None
state_after L (Some s) octets store = Some (step s L octets store).state

-- nothing arrived
abbrev pub no_arrival : Reply → (store : List ℕ) → Arrived
no_arrival reply store = record { reply = reply; numbers = []; store = store }

-- `jibhotran_arrive`: what it gives
abbrev pub arrive : (layout : ℕ) (state octets store answer : List ℕ) → Arrived
arrive layout state octets store answer =
    given_both state answer (cond (is_layout layout) (arrived_at (layout_of layout) (state_in state) octets store) (no_arrival layout_reply store)) (no_arrival row_reply store)

-- the state that then stands in the row: the library's next one
abbrev pub state_arrived : (layout : ℕ) (state octets store answer : List ℕ) → Option State
state_arrived layout state octets store answer =
    given_both state answer (cond (is_layout layout) (state_after (layout_of layout) (state_in state) octets store) (state_in state)) (state_in state)
