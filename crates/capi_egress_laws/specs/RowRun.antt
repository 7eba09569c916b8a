-- Calls of the outlet's C boundary one behind the other, by what they return and leave (02, K10).
use Rattle.std.specs.Prelude.{◌≡◌, cond, List, [], ◌∷◌, ℕ, ◌<◌, ◌≤◌, eqb, length, get_or, take}
use Rattle.wire_spec.specs.Bits.{overwrite}
use Rattle.egress_spec.specs.Queues.{Call, offering, taking, Answer, copied, handed, no}
use Rattle.egress_spec.specs.Laws.{SoundState}
use Rattle.capi_egress_state.specs.Row.{state_at}
use Rattle.capi_egress.specs.Calls as calls

-- a call, and the row that it is lent for its answer
pub record RowCall : Type 0 where
  pub call : Call
  pub answer : List ℕ

abbrev pub calls_of : List RowCall → List Call
calls_of [] = []
calls_of (k ∷ ks) = k.call ∷ calls_of ks

-- what a call leaves: the state's row, the memory, what was lent for a packet (an offer's packet is only read), the answer's row; and its number
pub record RowCalled : Type 0 where
  pub state : List ℕ
  pub memory : List ℕ
  pub lent : List ℕ
  pub answer : List ℕ
  pub number : ℕ

-- as the contracts of `jibhotran_outlet_offer` and `jibhotran_outlet_take` say
abbrev pub given_to : (state memory : List ℕ) → Call → (answer : List ℕ) → calls.Given
given_to state m (offering c p) answer = calls.offer state c p m answer
given_to state m (taking out) answer = calls.take state m out answer

abbrev pub leaves : (state memory : List ℕ) → Call → (answer : List ℕ) → calls.Given → RowCalled
leaves state m (offering c p) answer g =
    record { state = overwrite g.numbers state; memory = g.lent; lent = p; answer = overwrite g.reply.row answer; number = g.reply.number }
leaves state m (taking out) answer g =
    record { state = overwrite g.numbers state; memory = m; lent = g.lent; answer = overwrite g.reply.row answer; number = g.reply.number }

abbrev pub row_call : (state memory : List ℕ) → RowCall → RowCalled
row_call state m k = leaves state m k.call k.answer (given_to state m k.call k.answer)

-- what a C caller has of it: 0, and of a take the channel and the packet by the answer's first two numbers; or the number, with the index in the answer
abbrev pub heard : Call → RowCalled → Answer
heard (offering c p) r = cond (eqb r.number 0) copied (no (record { number = r.number; index = get_or r.answer 0 0 }))
heard (taking out) r =
    cond (eqb r.number 0) (handed (get_or r.answer 0 0) (take (get_or r.answer 1 0) r.lent)) (no (record { number = r.number; index = get_or r.answer 0 0 }))

-- "Memory and state are handed on unaltered from call to call."
abbrev pub row_answers : (state memory : List ℕ) → List RowCall → List Answer
row_answers state m [] = []
row_answers state m (k ∷ ks) = heard k.call (row_call state m k) ∷ row_answers (row_call state m k).state (row_call state m k).memory ks

-- the row that `jibhotran_outlet_open` leaves
abbrev pub opened_row : List ℕ → List ℕ
opened_row state = overwrite (calls.open_numbers state) state

-- none of 64's cases, of a row: "64 lent memory not 65,536 octets, or a state with over eight held, a held length outside 1 to 1,024, a slot held twice or a number out of
-- range"; a length is a number of 16 bits, held or not
pub record RowSound (state m : List ℕ) : Type 0 where
  pub memory : length m ≡ 65536
  pub sound : SoundState (state_at state)
  pub lengths : (k : ℕ) → k < 64 → get_or (state_at state).lengths k 0 ≤ 65535
