-- The outlet's state as a row of 145 numbers: heads, counts, slots and lengths, channel by channel, and the next channel (02, K10).
use Rattle.std.specs.Prelude.{◌≡◌, Bool, true, ◌&&◌, List, [], ◌∷◌, ◌++◌, ℕ, ◌+◌, ◌-◌, ◌*◌, ◌%◌, ◌^◌, ◌≤◌, ◌<◌, leb, length, get_or, take, drop, set}
use Rattle.egress_spec.specs.declared.state.State.{State}
use Rattle.egress_spec.specs.Queues.{channels, max_held, slot_count}

-- where the counts, the slots, the lengths and the next channel stand
abbrev pub counts_at : ℕ
counts_at = channels

abbrev pub slots_at : ℕ
slots_at = counts_at + channels

abbrev pub lengths_at : ℕ
lengths_at = slots_at + slot_count

abbrev pub next_at : ℕ
next_at = lengths_at + slot_count

-- numbers that a state needs
abbrev pub row_size : ℕ
row_size = next_at + 1

-- so many numbers of a row from an index on
abbrev pub part : List ℕ → (at count : ℕ) → List ℕ
part row at n = take n (drop at row)

-- the numbers of a row as a state
abbrev pub state_at : List ℕ → State
state_at row =
    record {
      heads = part row 0 channels;
      counts = part row counts_at channels;
      slots = part row slots_at slot_count;
      lengths = part row lengths_at slot_count;
      next = get_or row next_at 0;
    }

-- the numbers of a state
abbrev pub numbers_of : State → List ℕ
numbers_of s = (((s.heads ++ s.counts) ++ s.slots) ++ s.lengths) ++ (s.next ∷ [])

-- the largest numbers of 8 and of 16 bits
abbrev pub max8 : ℕ
max8 = 2 ^ 8 - 1

abbrev pub max16 : ℕ
max16 = 2 ^ 16 - 1

-- each number is at most `most`
unfoldable pub all_fit : ℕ → List ℕ → Bool
all_fit most [] = true
all_fit most (n ∷ ns) = leb n most && all_fit most ns

-- a number that fits so many bits exactly if each of the others does
abbrev pub Joined : List ℕ → ℕ → Type 0
Joined ns all = (bits : ℕ) → leb all (2 ^ bits - 1) ≡ all_fit (2 ^ bits - 1) ns

-- "a number out of range": is each one that its value can have
abbrev pub fits : State → Bool
fits s = all_fit max8 s.heads && (all_fit max8 s.counts && (all_fit max8 s.slots && (all_fit max16 s.lengths && leb s.next max8)))

abbrev pub is_state : List ℕ → Bool
is_state row = fits (state_at row)

-- the place of a channel's last packet, or of the one that left last
abbrev pub last_place : State → ℕ → ℕ
last_place s c = max_held * c + (get_or s.heads c 0 + get_or s.counts c 0 + max_held - 1) % max_held

-- `new` differs from `old` at index `k` at most
abbrev pub SetAt : (old new : List ℕ) → ℕ → Type 0
SetAt old new k = new ≡ set old k (get_or new k 0)

-- What a call for a channel leaves differs from the state in the row in no other numbers than these.
pub record ChangedAt (row : List ℕ) (s : State) (c : ℕ) : Type 0 where
  pub long : row_size ≤ length row
  pub channel : c < channels
  pub head : get_or s.heads c 0 < max_held
  pub count : get_or s.counts c 0 ≤ max_held
  pub heads : SetAt (part row 0 channels) s.heads c
  pub counts : SetAt (part row counts_at channels) s.counts c
  pub slots : SetAt (part row slots_at slot_count) s.slots (last_place s c)
  pub lengths : SetAt (part row lengths_at slot_count) s.lengths (last_place s c)
