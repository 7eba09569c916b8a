-- The queues that a state and its memory stand for.
use mathlib.Core.Path.{◌≡◌}
use mathlib.Core.Bool.{true}
use mathlib.Core.List.{List, [], ◌∷◌}
use Prim.Native.Nat.{ℕ, zero, suc, ◌<◌}
use lib.ListN.{get_or, length}
use Rattle.egress_spec.specs.declared.state.State.{State}
use Rattle.egress_spec.specs.Queues.{Model, channels, slot_count, memory_size}
use Rattle.egress_spec.specs.Places.{sound}
use Rattle.egress_spec.specs.Step.{place_of, packet_at}

-- `n` packets of channel `c` from packet `i` on
abbrev pub queue_from : State → List ℕ → (c n i : ℕ) → List (List ℕ)
queue_from st m c zero i = []
queue_from st m c (suc n) i = packet_at st m (place_of st c i) ∷ queue_from st m c n (suc i)

-- A state and its memory stand for eight queues and a pointer.
pub record Agrees (st : State) (m : List ℕ) (q : Model) : Type 0 where
  pub sound : sound st ≡ true
  pub heads : length st.heads ≡ channels
  pub counts : length st.counts ≡ channels
  pub slots : length st.slots ≡ slot_count
  pub lengths : length st.lengths ≡ slot_count
  pub memory : length m ≡ memory_size
  pub next : st.next ≡ q.next
  pub queues : (c : ℕ) → c < channels → queue_from st m c (get_or st.counts c 0) 0 ≡ q.queue c
