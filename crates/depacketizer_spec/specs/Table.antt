-- THE TABLE OF AN ARRIVAL (01, "The keeper"; 02, K2, K11 and K13): which answer is given when, and what it leaves, over every state, octets
-- and store. In other words than the definition of a step; each limit is its number.
use Rattle.std.specs.Prelude.{◌≡◌, true, false, List, ◌++◌, ◌↔◌, ℕ, ◌+◌, ◌-◌, ◌^◌, ◌%◌, ◌≤◌, ◌<◌, min, length, take, drop}
use Rattle.wire_spec.specs.declared.refusal.Refusal.{Refusal}
use Rattle.wire_spec.specs.Layout.{Layout}
use Rattle.wire_spec.specs.Result.{Result, Err, Ok}
use Rattle.wire_spec.specs.Cells.{list_in, list_of}
use Rattle.wire_spec.specs.Packet.{Content, read_content}
use Rattle.depacketizer_spec.specs.declared.state.State.{State}
use Rattle.depacketizer_spec.specs.declared.state.Phase.TheVariants as phase
use Rattle.depacketizer_spec.specs.declared.state.Answer.{Answer}
use Rattle.depacketizer_spec.specs.declared.state.Answer.TheVariants as answer
use Rattle.depacketizer_spec.specs.Step.{Step}
use Rattle.depacketizer_spec.specs.Laws.{IsFresh}

-- 35: "keeper state says over 4,095 records, over 36,864 cells, more cells than the store has, .., over 4,096 packets, none when filling or any
-- when not", "records or cells when not filling, or ready or filling before a first arrival"
pub data Named35 (st : State) (room : ℕ) : Type 0 where
  over_records : 4095 < st.records → Named35 st room
  over_cells : 36864 < st.cells → Named35 st room
  over_store : room < st.cells → Named35 st room
  over_packets : 4096 < st.packets → Named35 st room
  no_packet : st.phase ≡ phase.Filling → st.packets ≡ 0 → Named35 st room
  unfilled : (st.phase ≡ phase.Filling → ⊥) → 0 < st.records + st.cells + st.packets → Named35 st room
  unheard : st.heard ≡ false → (st.phase ≡ phase.Lost → ⊥) → Named35 st room

-- an arrival that says `k`, of the opened source and type
pub record Own (st : State) (L : Layout) (octets store : List ℕ) (k : Content) : Type 0 where
  pub passes : Named35 st (length store) → ⊥
  pub reads : read_content L octets ≡ Ok k
  pub source : k.source ≡ st.source
  pub type : k.type ≡ st.payload_type

-- a number is `d` after another, modulo 2^32
abbrev pub After : (last number d : ℕ) → Type 0
After last number d = number % 2 ^ 32 ≡ (last + d) % 2 ^ 32

-- "late (0 to -99)": the last fresh one is up to 99 after it
abbrev pub IsLate : (last number : ℕ) → Type 0
IsLate last number = (b : ℕ) × (b ≤ 99) × After number last b

-- "far (anything else)": 3,000 or more ahead, 100 or more behind
abbrev pub IsFar : (last number : ℕ) → Type 0
IsFar last number = (d : ℕ) × (3000 ≤ d) × (d + 100 ≤ 2 ^ 32) × After last number d

-- "has the remembered number"
abbrev pub Remembers : State → (number : ℕ) → Type 0
Remembers st number = (st.remembers ≡ true) × (st.remembered.0 ≡ number)

-- a refusal "returns its number and an index": 0
abbrev pub no : ℕ → Refusal
no n = record { number = n; index = 0 }

-- "Lent memory is unchanged, and so is the keeper's state"
abbrev pub Kept : State → List ℕ → Refusal → Step → Type 0
Kept st store r x = x ≡ record { answer = answer.Refused r; state = st; store = store }

-- all but the late count and the remembered number
pub record Same (st x : State) : Type 0 where
  pub source : x.source ≡ st.source
  pub type : x.payload_type ≡ st.payload_type
  pub phase : x.phase ≡ st.phase
  pub heard : x.heard ≡ st.heard
  pub last : x.last ≡ st.last
  pub timestamp : x.timestamp ≡ st.timestamp
  pub f : x.f ≡ st.f
  pub records : x.records ≡ st.records
  pub cells : x.cells ≡ st.cells
  pub packets : x.packets ≡ st.packets
  pub fresh : x.fresh ≡ st.fresh
  pub missing : x.missing ≡ st.missing

-- "Each stops at 2^64 - 1."
abbrev pub stopped : ℕ → ℕ
stopped n = min n (2 ^ 64 - 1)

-- "32 adds one to the late count", and changes nothing else
pub record Lates (st : State) (lent : List ℕ) (x : Step) : Type 0 where
  pub answer : x.answer ≡ answer.Refused (no 32)
  pub state : Same st x.state
  pub late : x.state.late ≡ stopped (st.late + 1)
  pub remembers : x.state.remembers ≡ st.remembers
  pub remembered : x.state.remembered ≡ st.remembered
  pub store : x.store ≡ lent

-- 36: "the number after it is remembered", "it changes only the remembered number"
pub record Fars (st : State) (number : ℕ) (lent : List ℕ) (x : Step) : Type 0 where
  pub answer : x.answer ≡ answer.Refused (no 36)
  pub state : Same st x.state
  pub late : x.state.late ≡ st.late
  pub remembers : x.state.remembers ≡ true
  pub remembered : x.state.remembered.0 ≡ (number + 1) % 2 ^ 32
  pub store : x.store ≡ lent

-- the counts after a fresh arrival, and its number; "any fresh arrival clears the memory"
pub record Counts (st : State) (number a b c : ℕ) (x : State) : Type 0 where
  pub source : x.source ≡ st.source
  pub type : x.payload_type ≡ st.payload_type
  pub heard : x.heard ≡ true
  pub last : x.last.0 ≡ number
  pub fresh : x.fresh ≡ a
  pub late : x.late ≡ b
  pub missing : x.missing ≡ c
  pub forgets : x.remembers ≡ false
  pub forgotten : x.remembered.0 ≡ 0

-- "Only a filling keeper has gathered records."
pub record Empty (x : State) : Type 0 where
  pub timestamp : x.timestamp.0 ≡ 0
  pub f : x.f ≡ 0
  pub records : x.records ≡ 0
  pub cells : x.cells ≡ 0
  pub packets : x.packets ≡ 0

-- skipped, mixed and overfull: "after any marked fresh arrival the keeper is ready; after an unmarked one that isn't held it is lost", "other answers
-- write nothing"
pub record Drops (a : Answer) (k : Content) (lent : List ℕ) (x : Step) : Type 0 where
  pub answer : x.answer ≡ a
  pub ready : k.marker ≡ 1 → x.state.phase ≡ phase.Ready
  pub lost : (k.marker ≡ 1 → ⊥) → x.state.phase ≡ phase.Lost
  pub empty : Empty x.state
  pub store : x.store ≡ lent

-- "past 4,095 records, 36,864 cells or the store", and 4,096 packets: not
pub record Allowed (r c n room : ℕ) : Type 0 where
  pub records : r ≤ 4095
  pub cells : c ≤ 36864
  pub lent : c ≤ room
  pub packets : n ≤ 4096

-- "Held and whole append their cells after the gathered ones": with the packet's index, the cells before and behind as lent
abbrev pub Appends : Content → (cells packets : ℕ) → List ℕ → Step → Type 0
Appends k c n store x =
    x.store ≡ take c store ++ (list_in n k.records ++ drop (c + length (list_in n k.records)) store)

-- "Unmarked: held, now filling", with so much gathered
pub record Holds (k : Content) (r c n : ℕ) (x : Step) : Type 0 where
  pub answer : x.answer ≡ answer.Held
  pub phase : x.state.phase ≡ phase.Filling
  pub timestamp : x.state.timestamp.0 ≡ k.timestamp
  pub f : x.state.f ≡ k.f
  pub records : x.state.records ≡ r
  pub cells : x.state.cells ≡ c
  pub packets : x.state.packets ≡ n

-- "marked (M): answer whole, with timestamp, F, records, cells used", and packets
pub record Completes (k : Content) (r c n : ℕ) (x : Step) : Type 0 where
  pub answer : x.answer
      ≡ answer.Whole (record { timestamp = record { 0 = k.timestamp }; f = k.f; records = r; cells = c; packets = n })
  pub ready : x.state.phase ≡ phase.Ready
  pub empty : Empty x.state

-- a start or a join, behind `r` records in `c` cells of `n` packets: overfull exactly where it is not allowed, whole exactly where it is and is marked
pub data Takes (k : Content) (r c n : ℕ) (store : List ℕ) (x : Step) : Type 0 where
  overfull : (Allowed (r + length k.records) (c + length (list_of k.records)) (n + 1) (length store) → ⊥)
      → Drops answer.Overfull k store x → Takes k r c n store x
  held : Allowed (r + length k.records) (c + length (list_of k.records)) (n + 1) (length store) → (k.marker ≡ 1 → ⊥)
      → Holds k (r + length k.records) (c + length (list_of k.records)) (n + 1) x → Appends k c n store x → Takes k r c n store x
  whole : Allowed (r + length k.records) (c + length (list_of k.records)) (n + 1) (length store) → k.marker ≡ 1
      → Completes k (r + length k.records) (c + length (list_of k.records)) (n + 1) x → Appends k c n store x → Takes k r c n store x

-- distance 1: "when lost: skipped"; "when ready: starts a field"; "when filling: if timestamp or F differs, answer mixed, the gathered part dropped.
-- Otherwise it joins."
pub data Follows (st : State) (k : Content) (store : List ℕ) (x : Step) : Type 0 where
  skips : st.phase ≡ phase.Lost → Drops answer.Skipped k store x → Follows st k store x
  starts : st.phase ≡ phase.Ready → Takes k 0 0 0 store x → Follows st k store x
  mixes : st.phase ≡ phase.Filling → ((st.timestamp.0 ≡ k.timestamp) × (st.f ≡ k.f) → ⊥) → Drops answer.Mixed k store x → Follows st k store x
  joins : st.phase ≡ phase.Filling → st.timestamp.0 ≡ k.timestamp → st.f ≡ k.f → Takes k st.records st.cells st.packets store x
      → Follows st k store x

-- "An arrival passes 35, then 1 to 13, then 30, 31, 32", or 36. One of these is so, and no two can be.
pub data Told (st : State) (L : Layout) (octets store : List ℕ) (x : Step) : Type 0 where
  unsound : Named35 st (length store) → Kept st store (no 35) x → Told st L octets store x
  unread : (Named35 st (length store) → ⊥) → (r : Refusal) → read_content L octets ≡ Err r → Kept st store r x → Told st L octets store x
  other_source : (Named35 st (length store) → ⊥) → (k : Content) → read_content L octets ≡ Ok k → (k.source ≡ st.source → ⊥)
      → Kept st store (no 30) x → Told st L octets store x
  other_type : (Named35 st (length store) → ⊥) → (k : Content) → read_content L octets ≡ Ok k → k.source ≡ st.source
      → (k.type ≡ st.payload_type → ⊥) → Kept st store (no 31) x → Told st L octets store x
  late : (k : Content) → Own st L octets store k → st.heard ≡ true → IsLate st.last.0 k.number → Lates st store x → Told st L octets store x
  far : (k : Content) → Own st L octets store k → st.heard ≡ true → IsFar st.last.0 k.number → (Remembers st k.number → ⊥)
      → Fars st k.number store x → Told st L octets store x
  first : (k : Content) → Own st L octets store k → st.heard ≡ false
      → Counts st k.number (stopped (st.fresh + 1)) st.late (stopped st.missing) x.state → Drops answer.Skipped k store x
      → Told st L octets store x
  next : (k : Content) → Own st L octets store k → st.heard ≡ true → After st.last.0 k.number 1
      → Counts st k.number (stopped (st.fresh + 1)) st.late (stopped st.missing) x.state → Follows st k store x → Told st L octets store x
  ahead : (k : Content) → Own st L octets store k → st.heard ≡ true → (d : ℕ) → 2 ≤ d → d ≤ 2999 → After st.last.0 k.number d
      → Counts st k.number (stopped (st.fresh + 1)) st.late (stopped (st.missing + (d - 1))) x.state → Drops answer.Skipped k store x
      → Told st L octets store x
  restarts : (k : Content) → Own st L octets store k → st.heard ≡ true → IsFar st.last.0 k.number → Remembers st k.number
      → Counts st k.number 1 0 0 x.state → Drops answer.Skipped k store x → Told st L octets store x

-- what is fresh: "The first is always fresh"; distance 1 to 2,999; far, with the remembered number
pub data FreshNow (st : State) (number : ℕ) : Type 0 where
  first : st.heard ≡ false → FreshNow st number
  ahead : st.heard ≡ true → (d : ℕ) → 1 ≤ d → d ≤ 2999 → After st.last.0 number d → FreshNow st number
  restart : st.heard ≡ true → IsFar st.last.0 number → Remembers st number → FreshNow st number

-- what is skipped: "First, or distance over 1 .. Distance 1 when lost"
pub data SkippedNow (st : State) (number : ℕ) : Type 0 where
  first : st.heard ≡ false → SkippedNow st number
  lost : st.heard ≡ true → After st.last.0 number 1 → st.phase ≡ phase.Lost → SkippedNow st number
  ahead : st.heard ≡ true → (d : ℕ) → 2 ≤ d → d ≤ 2999 → After st.last.0 number d → SkippedNow st number
  restart : st.heard ≡ true → IsFar st.last.0 number → Remembers st number → SkippedNow st number

-- what starts a field, or joins the one that is filled: behind `r` records in `c` cells of `n` packets
pub data Enters (st : State) (k : Content) (r c n : ℕ) : Type 0 where
  starts : st.phase ≡ phase.Ready → r ≡ 0 → c ≡ 0 → n ≡ 0 → Enters st k r c n
  joins : st.phase ≡ phase.Filling → st.timestamp.0 ≡ k.timestamp → st.f ≡ k.f → r ≡ st.records → c ≡ st.cells → n ≡ st.packets
      → Enters st k r c n

-- at distance 1
pub record Following (st : State) (L : Layout) (octets store : List ℕ) (k : Content) : Type 0 where
  pub own : Own st L octets store k
  pub heard : st.heard ≡ true
  pub next : After st.last.0 k.number 1

-- what a packet takes its field to
abbrev pub AllowedWith : Content → (r c n : ℕ) → List ℕ → Type 0
AllowedWith k r c n store = Allowed (r + length k.records) (c + length (list_of k.records)) (n + 1) (length store)

-- when a fresh arrival gets an answer
abbrev pub Answered : State → Layout → (octets store : List ℕ) → Answer → Type 0
Answered st L octets store answer.Skipped = (k : Content) × Own st L octets store k × SkippedNow st k.number
Answered st L octets store answer.Mixed =
    (k : Content) × Following st L octets store k × (st.phase ≡ phase.Filling) × ((st.timestamp.0 ≡ k.timestamp) × (st.f ≡ k.f) → ⊥)
Answered st L octets store answer.Overfull =
    (k : Content) × (r : ℕ) × (c : ℕ) × (n : ℕ) × Following st L octets store k × Enters st k r c n × (AllowedWith k r c n store → ⊥)
Answered st L octets store answer.Held =
    (k : Content) × (r : ℕ) × (c : ℕ) × (n : ℕ) × Following st L octets store k × Enters st k r c n × AllowedWith k r c n store × (k.marker ≡ 1 → ⊥)
Answered st L octets store (answer.Whole y) =
    (k : Content) × (r : ℕ) × (c : ℕ) × (n : ℕ) × Following st L octets store k × Enters st k r c n × AllowedWith k r c n store × (k.marker ≡ 1)
    × (y ≡ record { timestamp = record { 0 = k.timestamp }; f = k.f; records = r + length k.records; cells = c + length (list_of k.records); packets = n + 1 })
Answered st L octets store (answer.Refused x) = ⊥

-- EACH REFUSAL EXACTLY WHEN, what is fresh, and each other answer exactly when. The reader's refusals give way to 35 alone.
pub record Exactly (st : State) (L : Layout) (octets store : List ℕ) (x : Step) : Type 0 where
  pub by35 : (x.answer ≡ answer.Refused (no 35)) ↔ Named35 st (length store)
  pub by_reader : (r : Refusal) → read_content L octets ≡ Err r → (x.answer ≡ answer.Refused r) ↔ (Named35 st (length store) → ⊥)
  pub by30 : (x.answer ≡ answer.Refused (no 30))
      ↔ ((Named35 st (length store) → ⊥) × (k : Content) × (read_content L octets ≡ Ok k) × (k.source ≡ st.source → ⊥))
  pub by31 : (x.answer ≡ answer.Refused (no 31))
      ↔ ((Named35 st (length store) → ⊥) × (k : Content) × (read_content L octets ≡ Ok k) × (k.source ≡ st.source) × (k.type ≡ st.payload_type → ⊥))
  pub by32 : (x.answer ≡ answer.Refused (no 32))
      ↔ ((k : Content) × Own st L octets store k × (st.heard ≡ true) × IsLate st.last.0 k.number)
  pub by36 : (x.answer ≡ answer.Refused (no 36))
      ↔ ((k : Content) × Own st L octets store k × (st.heard ≡ true) × IsFar st.last.0 k.number × (Remembers st k.number → ⊥))
  pub fresh : IsFresh x.answer ↔ ((k : Content) × Own st L octets store k × FreshNow st k.number)
  pub answered : (a : Answer) → IsFresh a → (x.answer ≡ a) ↔ Answered st L octets store a

-- "Opened with source and payload type (24 if over 127)." "A keeper just opened is lost, has no last fresh number, and its counts are 0."
pub record Opens (s t : ℕ) (r : Result State) : Type 0 where
  pub refuses : (r ≡ Err (no 24)) ↔ (127 < t)
  pub opens : t ≤ 127 → (st : State) × (r ≡ Ok st) × (st.source ≡ s) × (st.payload_type ≡ t) × (st.phase ≡ phase.Lost) × (st.heard ≡ false) × (st.last.0 ≡ 0)
      × (st.remembers ≡ false) × (st.remembered.0 ≡ 0) × (st.fresh ≡ 0) × (st.late ≡ 0) × (st.missing ≡ 0) × Empty st
