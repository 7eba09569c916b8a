-- What a state holds, and when it is sound (02, K10: refusal 64). A slot number is in range whether it is held or not; a length is looked at where it is held.
use Rattle.std.specs.Prelude.{Bool, true, false, not, ◌&&◌, ◌||◌, ℕ, zero, suc, ◌+◌, ◌-◌, ◌/◌, ◌%◌, eqb, leb, ltb, get_or, replicate}
use Rattle.egress_spec.specs.declared.state.State.{State}
use Rattle.egress_spec.specs.Queues.{channels, max_held, slot_count, slot_size}

-- an outlet just opened
abbrev pub open_state : State
open_state =
    record {
      heads = replicate channels 0;
      counts = replicate channels 0;
      slots = replicate slot_count 0;
      lengths = replicate slot_count 0;
      next = 0;
    }

-- whether a packet is held at place `k`, by its channel's head and count
abbrev pub held_at : (k head count : ℕ) → Bool
held_at k h n = ltb ((k % max_held + max_held - h) % max_held) n

abbrev pub held : State → ℕ → Bool
held st k = held_at k (get_or st.heads (k / max_held) 0) (get_or st.counts (k / max_held) 0)

abbrev pub slot_at : State → ℕ → ℕ
slot_at st k = get_or st.slots k 0

-- "a held length outside 1 to 1,024"
abbrev pub length_fits : ℕ → Bool
length_fits n = leb 1 n && leb n slot_size

-- whether slot `s` is held at a place below `k`
unfoldable pub used_below : State → ℕ → ℕ → Bool
used_below st zero s = false
used_below st (suc k) s = (held st k && eqb s (slot_at st k)) || used_below st k s

-- "a slot held twice"
abbrev pub place_ok : State → ℕ → Bool
place_ok st k = not (held st k) || (length_fits (get_or st.lengths k 0) && not (used_below st k (slot_at st k)))

-- every number below `n` passes
unfoldable pub all_upto : (ℕ → Bool) → ℕ → Bool
all_upto f zero = true
all_upto f (suc k) = all_upto f k && f k

-- "over eight held", "a number out of range"
abbrev pub channel_fits : (head count : ℕ) → Bool
channel_fits h n = leb h 7 && leb n max_held

abbrev pub channel_ok : State → ℕ → Bool
channel_ok st c = channel_fits (get_or st.heads c 0) (get_or st.counts c 0)

abbrev pub slot_ok : State → ℕ → Bool
slot_ok st k = ltb (slot_at st k) slot_count

abbrev pub numbers_ok : State → Bool
numbers_ok st = all_upto (channel_ok st) channels && (ltb st.next channels && all_upto (slot_ok st) slot_count)

abbrev pub sound : State → Bool
sound st = numbers_ok st && all_upto (place_ok st) slot_count
