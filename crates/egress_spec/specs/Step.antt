-- What one call does to state, memory and what is lent for a packet (02, K10).
use Rattle.std.specs.Prelude.{Bool, cond, ◌&&◌, List, [], ◌∷◌, ℕ, zero, suc, ◌+◌, ◌-◌, ◌*◌, ◌%◌, eqb, leb, ltb, get_or, take, drop, set}
use Rattle.wire_spec.specs.Bits.{overwrite, splice}
use Rattle.wire_spec.specs.Result.{Result, Err, Ok, judge}
use Rattle.egress_spec.specs.declared.state.State.{State}
use Rattle.egress_spec.specs.declared.state.Offered.{Offered}
use Rattle.egress_spec.specs.declared.state.Taken.{Taken}
use Rattle.egress_spec.specs.Queues.{channels, max_held, slot_count, slot_size, memory_size, last_channel, offer_checks, behind}
use Rattle.egress_spec.specs.Places.{used_below, sound}

-- "64 lent memory not 65,536 octets, or a state with .."
abbrev pub admits : State → (memory : ℕ) → Bool
admits st memory = eqb memory memory_size && sound st

-- the first number from `s` on, of `n`, that fails
unfoldable pub seek : ℕ → (ℕ → Bool) → ℕ → ℕ
seek zero f s = s
seek (suc n) f s = cond (f s) (seek n f (suc s)) s

-- the slot that an offer is copied to: the first that no place holds
abbrev pub free_slot : State → ℕ
free_slot st = seek slot_count (used_below st slot_count) 0

-- the place of a channel's packet `i` behind its head
abbrev pub place_of : State → ℕ → ℕ → ℕ
place_of st c i = max_held * c + (get_or st.heads c 0 + i) % max_held

-- the state with one more packet at the end of a channel's queue
abbrev pub kept_state : State → (channel slot length : ℕ) → State
kept_state st c s n =
    record {
      heads = st.heads;
      counts = set st.counts c (get_or st.counts c 0 + 1);
      slots = set st.slots (place_of st c (get_or st.counts c 0)) s;
      lengths = set st.lengths (place_of st c (get_or st.counts c 0)) n;
      next = st.next;
    }

-- "Refusals, in order: 64 ..; 60 ..; 61 ..; 62 .."
abbrev pub offer_of : State → (channel size memory : ℕ) → Result State
offer_of st c n memory = judge 0 ((admits st memory, 64) ∷ offer_checks c n (get_or st.counts c 0)) (Ok (kept_state st c (free_slot st) n))

-- "A refusal changes nothing."
abbrev pub offered_of : State → Result State → Offered
offered_of st (Err x) = record { state = st; answer = Err x }
offered_of st (Ok n) = record { state = n; answer = Ok tt }

-- the memory with the packet in the free slot
abbrev pub memory_after : State → Result State → (packet memory : List ℕ) → List ℕ
memory_after st (Err x) p m = m
memory_after st (Ok n) p m = splice m (slot_size * free_slot st) p

-- whose turn it is: the first of `n` channels from `c` on, in a circle, that holds a packet; 8 where none does
unfoldable pub turn_of : ℕ → List ℕ → ℕ → ℕ
turn_of zero counts c = channels
turn_of (suc n) counts c = cond (ltb 0 (get_or counts c 0)) c (turn_of n counts (behind c))

-- the state without the head of a channel's queue
abbrev pub left_state : State → ℕ → State
left_state st c =
    record {
      heads = set st.heads c (behind (get_or st.heads c 0));
      counts = set st.counts c (get_or st.counts c 0 - 1);
      slots = st.slots;
      lengths = st.lengths;
      next = behind c;
    }

abbrev pub turn_for : State → ℕ
turn_for st = turn_of channels st.counts st.next

-- the place of a channel's head, its length, and the octets of a place
abbrev pub head_place : State → ℕ → ℕ
head_place st c = max_held * c + get_or st.heads c 0

abbrev pub head_length : State → ℕ → ℕ
head_length st c = get_or st.lengths (head_place st c) 0

abbrev pub packet_at : State → List ℕ → ℕ → List ℕ
packet_at st m k = take (get_or st.lengths k 0) (drop (slot_size * get_or st.slots k 0) m)

-- "for a take, 64, then 63 nothing waits, then 23": the channel that is served
abbrev pub take_of : State → (memory room : ℕ) → Result ℕ
take_of st memory room =
    judge 0 ((admits st memory, 64) ∷ (leb (turn_for st) last_channel, 63) ∷ (leb (head_length st (turn_for st)) room, 23) ∷ [])
    (Ok (turn_for st))

-- "A refusal changes nothing.", the turn included
abbrev pub taken_of : State → Result ℕ → Taken
taken_of st (Err x) = record { state = st; answer = Err x }
taken_of st (Ok c) =
    record { state = left_state st c; answer = Ok (record { channel = c; octets = record { 0 = head_length st c } }) }

-- only the packet's octets are written
abbrev pub out_after : State → List ℕ → Result ℕ → List ℕ → List ℕ
out_after st m (Err x) out = out
out_after st m (Ok c) out = overwrite (packet_at st m (head_place st c)) out
