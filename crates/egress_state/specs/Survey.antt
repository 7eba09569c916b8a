-- What the code tells of a state before it is changed.
use Rattle.std.specs.Prelude.{◌≡◌, true, false, ℕ, ◌*◌, ◌≤◌, ◌<◌, get_or}
use Rattle.egress_spec.specs.declared.state.State.{State}
use Rattle.egress_spec.specs.Queues.{slot_count, slot_size, channels, max_held}
use Rattle.egress_spec.specs.Places.{slot_at, used_below}
use Rattle.egress_spec.specs.Step.{admits, head_place, head_length}
use Rattle.egress_state.specs.declared.survey.Seen.{Seen}
use Rattle.egress_state.specs.declared.place.Stored.{Stored}

-- what a survey tells
pub record SeenOf (st : State) (memory : ℕ) (r : Seen) : Type 0 where
  pub sound : r.sound ≡ admits st memory
  pub used : r.sound ≡ true → (s : ℕ) → s < slot_count → get_or r.used s false ≡ used_below st slot_count s

-- a channel that holds a packet, in a sound state
pub record Heads (st : State) (c : ℕ) : Type 0 where
  pub channel : c < channels
  pub count : 0 < get_or st.counts c 0
  pub head : get_or st.heads c 0 < max_held
  pub slot : slot_at st (head_place st c) < slot_count
  pub most : head_length st c ≤ slot_size

abbrev pub head_of : State → ℕ → Stored
head_of st c = record { from = slot_size * get_or st.slots (head_place st c) 0; octets = head_length st c }
