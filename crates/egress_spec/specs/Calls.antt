-- Calls one behind the other, by what the entry points return (02, K10).
use Rattle.wire_spec.specs.Result.{Result, Ok, Err}
use Rattle.egress_spec.specs.declared.state.HandedOut.{HandedOut}
use Rattle.std.specs.Prelude.{List, [], ◌∷◌, ◌++◌, ℕ, length, take, drop}
use Rattle.egress_spec.specs.declared.state.State.{State}
use Rattle.egress_spec.specs.Queues.{Call, offering, taking, Answer, copied, handed, no}
use Rattle.egress_spec.specs.Places.{open_state}
use Rattle.egress_spec.specs.Step.{offer_of, offered_of, memory_after, take_of, taken_of, out_after}

-- what a caller has of an answer: of a take the channel and the packet, which are the first octets of what was lent
abbrev pub offer_heard : Result (Unit {0}) → Answer
offer_heard (Ok _) = copied
offer_heard (Err x) = no x

abbrev pub take_heard : Result HandedOut → (out : List ℕ) → Answer
take_heard (Ok p) out = handed p.channel (take p.octets.0 out)
take_heard (Err x) out = no x

-- What one call leaves, and what it is answered. `lent` is the packet of an offer, and what is lent for one by a take.
pub record Called : Type 0 where
  pub state : State
  pub memory : List ℕ
  pub lent : List ℕ
  pub answer : Answer

abbrev pub lent_to : Call → List ℕ
lent_to (offering c p) = p
lent_to (taking out) = out

-- one call of `offer` or `take`, as their contracts say
abbrev pub call : State → List ℕ → Call → Called
call st m (offering c p) =
    record {
      state = (offered_of st (offer_of st c (length p) (length m))).state;
      memory = memory_after st (offer_of st c (length p) (length m)) p m;
      lent = p;
      answer = offer_heard (offered_of st (offer_of st c (length p) (length m))).answer;
    }
call st m (taking out) =
    record {
      state = (taken_of st (take_of st (length m) (length out))).state;
      memory = m;
      lent = out_after st m (take_of st (length m) (length out)) out;
      answer = take_heard (taken_of st (take_of st (length m) (length out))).answer (out_after st m (take_of st (length m) (length out)) out);
    }

-- "Memory and state are handed on unaltered from call to call."
abbrev pub answers_from : State → List ℕ → List Call → List Answer
answers_from st m [] = []
answers_from st m (k ∷ ks) = (call st m k).answer ∷ answers_from (call st m k).state (call st m k).memory ks

-- "From an outlet just opened"
abbrev pub answers_of : (memory : List ℕ) → List Call → List Answer
answers_of m ks = answers_from open_state m ks

-- the answers to further calls, behind others
abbrev pub answers_behind : (memory : List ℕ) (before later : List Call) → List Answer
answers_behind m before later = drop (length before) (answers_of m (before ++ later))
