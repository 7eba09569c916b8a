-- Demand 3 (00, demand 3; 01, "The keeper", its last two paragraphs): what is sent, what arrives, what a run is, and what is to be handed out.
use Rattle.std.specs.Prelude.{◌≡◌, Bool, true, false, cond, ◌&&◌, ◌||◌, List, [], ◌∷◌, ◌++◌, ◌⊎◌, ℕ, zero, suc, ◌+◌, ◌-◌, ◌^◌, ◌%◌, ◌≤◌, ◌<◌, min, eqb, length, take, get_or}
use Rattle.wire_spec.specs.declared.refusal.Refusal.{Refusal}
use Rattle.wire_spec.specs.Layout.{Layout}
use Rattle.wire_spec.specs.Result.{Err, Ok}
use Rattle.wire_spec.specs.Anc.{Record, Each}
use Rattle.wire_spec.specs.Cells.{list_in, all_below}
use Rattle.wire_spec.specs.Packet.{Content, read_content}
use Rattle.wire_spec.specs.Writing.{max_field_records, max_field_cells, max_field_packets}
use Rattle.depacketizer_spec.specs.declared.state.State.{State}
use Rattle.depacketizer_spec.specs.declared.state.Answer.{Answer}
use Rattle.depacketizer_spec.specs.declared.state.Answer.TheVariants as answer
use Rattle.depacketizer_spec.specs.Step.{max_count, max_ahead, max_behind, Gathered, lost, ready, filling, gathered, Step, step, admit, open_state, sound, classify, distance, far, is_remembered}

-- What one packet carries: its octets, and the records in them.
pub record Part : Type 0 where
  pub octets : List ℕ
  pub records : List Record

-- "A well-formed field: one or more accepted packets .., one timestamp and F, only the last marked": a part to a packet
pub record Field : Type 0 where
  pub timestamp : ℕ
  pub f : ℕ
  pub first : Part
  pub rest : List Part

-- the parts of a field, in order
abbrev pub parts : Field → List Part
parts x = x.first ∷ x.rest

-- records, "the sums over the field's packets"
abbrev pub record_count : List Part → ℕ
record_count [] = 0
record_count (p ∷ ps) = length p.records + record_count ps

-- the cells of the parts' records, joined in order; the first part has index `k`: "it is the packet's index in that field" (02, K13)
abbrev pub cells_from : ℕ → List Part → List ℕ
cells_from k [] = []
cells_from k (p ∷ ps) = list_in k p.records ++ cells_from (suc k) ps

-- of a field's parts, from its first
abbrev pub joined_cells : List Part → List ℕ
joined_cells ps = cells_from 0 ps

-- A packet as sent: its field, its part, and the field's parts before and behind it.
pub record Sent : Type 0 where
  pub field : Field
  pub before : List Part
  pub part : Part
  pub behind : List Part

-- "only the last marked"
abbrev pub is_last : Sent → Bool
is_last x = elim x.behind [ [] ↦ true | p ∷ ps ↦ false ]

-- the packets of a field for its parts behind `before`
abbrev pub sent_of : Field → List Part → List Part → List Sent
sent_of x before [] = []
sent_of x before (p ∷ ps) =
    record { field = x; before = before; part = p; behind = ps } ∷ sent_of x (before ++ (p ∷ [])) ps

-- all packets, in sending order
abbrev pub sent : List Field → List Sent
sent [] = []
sent (x ∷ xs) = sent_of x [] (parts x) ++ sent xs

-- A stream, "all in one layout" (02, K3): the opened source and type, the number of the first packet sent, and the fields.
pub record Stream : Type 0 where
  pub layout : Layout
  pub source : ℕ
  pub type : ℕ
  pub start : ℕ
  pub fields : List Field

-- what packet `i` says: "numbered in sequence modulo 2^32"
abbrev pub content_at : Stream → ℕ → Sent → Content
content_at s i x =
    record {
      source = s.source;
      type = s.type;
      marker = cond (is_last x) 1 0;
      number = (s.start + i) % 2 ^ 32;
      timestamp = x.field.timestamp;
      f = x.field.f;
      records = x.part.records;
    }

-- only for `no_packet`
abbrev pub no_part : Part
no_part = record { octets = []; records = [] }

-- only for `get_or`, past the last packet
abbrev pub no_packet : Sent
no_packet =
    record { field = record { timestamp = 0; f = 0; first = no_part; rest = [] }; before = []; part = no_part; behind = [] }

-- packet `i` of the stream, from 0
abbrev pub nth : Stream → ℕ → Sent
nth s i = get_or (sent s.fields) i no_packet

-- "within the limits", of packets too: "a limit for demand 3 too" (02, K13)
abbrev pub Within : Field → Type 0
Within x =
    (record_count (parts x) ≤ max_field_records) × (length (joined_cells (parts x)) ≤ max_field_cells) × (length (parts x) ≤ max_field_packets)

-- "A sender sends at most 2,147,483,648 packets, .., in well-formed fields": "accepted packets of the opened source and type, numbered in
-- sequence, one timestamp and F, only the last marked": what the reader says of each, without the depacketizer's own checks
pub record WellFormedStream (s : Stream) : Type 0 where
  pub few : length (sent s.fields) ≤ 2 ^ 31
  pub within : Each Within s.fields
  pub accepts : (i : ℕ) → i < length (sent s.fields) → read_content s.layout (nth s i).part.octets ≡ Ok (content_at s i (nth s i))

-- An arrival: packet `i` of the stream, or other octets, told any layout.
pub data Arriving : Type 0 where
  other : Layout → List ℕ → Arriving
  packet : ℕ → Arriving

-- octets that the reader refuses, or that say another source or type
abbrev pub Foreign : (source type : ℕ) → Layout → List ℕ → Type 0
Foreign source type L o =
    ((x : Refusal) × (read_content L o ≡ Err x))
    ⊎ ((k : Content) × (read_content L o ≡ Ok k) × ((k.source ≡ source → ⊥) ⊎ (k.type ≡ type → ⊥)))

-- "the other octets among it are refused by 1 to 13, 30 or 31", and 15 and 16, "counted with 1 to 13" (02, K3 and K5)
abbrev pub OfStream : Stream → Arriving → Type 0
OfStream s (other L o) = Foreign s.source s.type L o
OfStream s (packet i) = i < length (sent s.fields)

-- a store that the fields fit
abbrev pub Fits : List ℕ → Field → Type 0
Fits store x = length (joined_cells (parts x)) ≤ length store

-- A call: what arrives, and the store that is lent where the depacketizer is not filling.
pub record Call : Type 0 where
  pub arriving : Arriving
  pub store : List ℕ

-- The calls in order: none, or some and then one more.
infixl 20 ◌before◌
pub data Calls : Type 0 where
  none : Calls
  ◌before◌ : Calls → Call → Calls

-- every call is proper: an arrival of the stream, and "any store that the fields fit"
abbrev pub Proper : Stream → Calls → Type 0
Proper s none = Unit {0}
Proper s (cs before c) = Proper s cs × OfStream s c.arriving × Each (Fits c.store) s.fields

-- A field handed out: what the answer says, and the cells that the store then begins with.
pub record Handed : Type 0 where
  pub timestamp : ℕ
  pub f : ℕ
  pub records : ℕ
  pub cells : ℕ
  pub packets : ℕ
  pub content : List ℕ

-- "A field is handed out by the answer whole"
abbrev pub handed_by : Answer → List ℕ → List Handed
handed_by answer.Skipped store = []
handed_by answer.Held store = []
handed_by answer.Mixed store = []
handed_by answer.Overfull store = []
handed_by (answer.Whole x) store =
    record {
      timestamp = x.timestamp.0;
      f = x.f;
      records = x.records;
      cells = x.cells;
      packets = x.packets;
      content = take x.cells store;
    } ∷ []
handed_by (answer.Refused x) store = []

-- What a run leaves: the state, the store, and the fields handed out, the latest last.
pub record Run : Type 0 where
  pub state : State
  pub store : List ℕ
  pub handed : List Handed

-- "While the keeper is filling, a call is lent the store as the call before left it, ..; otherwise any store"
abbrev pub store_for : Gathered → (left offered : List ℕ) → List ℕ
store_for lost left offered = offered
store_for ready left offered = offered
store_for (filling t f r c n) left offered = left

-- "An arrival of a sent packet has exactly that packet's octets."
abbrev pub octets_of : Stream → Arriving → List ℕ
octets_of s (other L o) = o
octets_of s (packet i) = (nth s i).part.octets

-- "with that layout told at every arrival of a sent packet" (02, K3)
abbrev pub layout_of : Stream → Arriving → Layout
layout_of s (other L o) = L
layout_of s (packet i) = s.layout

-- a run with one step more
abbrev pub done : Run → Step → Run
done r x = record { state = x.state; store = x.store; handed = r.handed ++ handed_by x.answer x.store }

-- the step of a call
abbrev pub call_step : Stream → Run → Call → Step
call_step s r c = step r.state (layout_of s c.arriving) (octets_of s c.arriving) (store_for (gathered r.state) r.store c.store)

-- "Each call gets the state that the call before returned": a run that goes on from another
abbrev pub run_from : Run → Stream → Calls → Run
run_from r s none = r
run_from r s (cs before c) = done (run_from r s cs) (call_step s (run_from r s cs) c)

-- a run of "a keeper just opened", with a store that it was lent and the fields that were handed out before
abbrev pub open_run : Stream → (store : List ℕ) → List Handed → Run
open_run s store earlier = record { state = open_state s.source s.type; store = store; handed = earlier }

-- "given to a keeper just opened"
abbrev pub run : Stream → Calls → Run
run s cs = run_from (open_run s [] []) s cs

-- a list of packets, with the one that arrives put first
abbrev pub listed : Arriving → List ℕ → List ℕ
listed (other L o) l = l
listed (packet i) l = i ∷ l

-- The sent packets that arrived, the latest first.
abbrev pub arrived : Calls → List ℕ
arrived none = []
arrived (cs before c) = listed c.arriving (arrived cs)

-- "An arrival of a sent packet is fresh if sent later than every such arrival before it": by the order of sending
abbrev pub listed_fresh : Arriving → (arrived fresh : List ℕ) → List ℕ
listed_fresh (other L o) js l = l
listed_fresh (packet i) js l = cond (all_below i js) (i ∷ l) l

-- the fresh arrivals, the latest first
abbrev pub fresh : Calls → List ℕ
fresh none = []
fresh (cs before c) = listed_fresh c.arriving (arrived cs) (fresh cs)

-- packet `i` is in a list
abbrev pub elem : ℕ → List ℕ → Bool
elem i [] = false
elem i (j ∷ js) = eqb i j || elem i js

-- "all its packets .. are among the fresh arrivals"
abbrev pub all_from : ℕ → List Part → List ℕ → Bool
all_from k [] l = true
all_from k (p ∷ ps) l = elem k l && all_from (suc k) ps l

-- "and the one sent just before them": "the first sent has no packet before it and is never handed out"
abbrev pub one_before : ℕ → List ℕ → Bool
one_before zero l = false
one_before (suc k) l = elem k l

-- "As sent means: the answer has the field's timestamp and F, its records and cells used are the sums over the field's packets,
-- and the store then begins with the cells of their records, joined in order." The answer tells the field's packets too, with records or without.
abbrev pub as_sent : Field → Handed
as_sent x =
    record {
      timestamp = x.timestamp;
      f = x.f;
      records = record_count (parts x);
      cells = length (joined_cells (parts x));
      packets = length (parts x);
      content = joined_cells (parts x);
    }

-- a field as sent, where the test holds
abbrev pub only_if : Bool → Field → List Handed
only_if true x = as_sent x ∷ []
only_if false x = []

-- "A field is handed out exactly when all its packets, and the one sent just before them, are among the fresh arrivals: once, in
-- sending order, as sent. Nothing else is handed out." The fresh packets are `l`, and packet `k` is the first of the fields.
abbrev pub expected : ℕ → List Field → List ℕ → List Handed
expected k [] l = []
expected k (x ∷ xs) l = only_if (one_before k l && all_from k (parts x) l) x ++ expected (k + length (parts x)) xs l

-- the first fresh arrival: the last of a list that has the latest first
abbrev pub earliest : ℕ → List ℕ → ℕ
earliest m [] = m
earliest m (j ∷ js) = earliest j js

-- "the sent packets from the first fresh arrival to the last, both included, or 0 if none is fresh"
abbrev pub span : List ℕ → ℕ
span [] = 0
span (m ∷ l) = suc m - earliest m l

-- "Demand 3 now needs that no arrival of a sent packet in the run lies over 2,999 ahead of the last fresh one, or 100 or more behind" (02,
-- K11). The fresh packets before it are `l`; the first has none before it.
abbrev pub NearLast : Arriving → (fresh : List ℕ) → Type 0
NearLast (other L o) l = Unit {0}
NearLast (packet i) [] = Unit {0}
NearLast (packet i) (m ∷ l) = (i ≤ m + max_ahead) × (m ≤ i + max_behind)

-- and so does each of the calls
abbrev pub Near : Calls → Type 0
Near none = Unit {0}
Near (cs before c) = Near cs × NearLast c.arriving (fresh cs)

-- Demand 3 of a run `r` that made these calls, where `earlier` had been handed out before them.
pub record Demand3After (s : Stream) (earlier : List Handed) (cs : Calls) (r : Run) : Type 0 where
  -- "A field is handed out exactly when .."
  pub handed : r.handed ≡ earlier ++ expected 0 s.fields (fresh cs)
  -- "The fresh count is the number of fresh arrivals."
  pub fresh_count : r.state.fresh ≡ length (fresh cs)
  -- "Fresh + missing = the sent packets from the first fresh arrival to the last, .."
  pub missing : r.state.fresh + r.state.missing ≡ span (fresh cs)
  -- "Late equals the arrivals of sent packets that aren't fresh, or 2^64 - 1 if they are more."
  pub late : r.state.late ≡ min (length (arrived cs) - length (fresh cs)) max_count

-- Demand 3. It is said of every list of calls, so of every first part of one: a field is handed out at the call that completes it.
abbrev pub Demand3 : Type 0
Demand3 = (s : Stream) → WellFormedStream s → (cs : Calls) → Proper s cs → Near cs → Demand3After s [] cs (run s cs)

-- A call that restarts: "a far arrival has the remembered number".
pub record Restarts (st : State) (L : Layout) (octets store : List ℕ) : Type 0 where
  pub passes : sound st (length store) ≡ true
  pub heard : st.heard ≡ true
  pub says : Content
  pub accepts : admit L st.source st.payload_type octets ≡ Ok says
  pub is_far : classify (distance st.last.0 says.number) ≡ far
  pub remembered : is_remembered st says.number ≡ true

-- "treated as a first arrival": what a restarting call does is what it does in a state just opened
abbrev pub RestartOpens : Type 0
RestartOpens = (st : State) (L : Layout) (octets store : List ℕ) → Restarts st L octets store
    → step st L octets store ≡ step (open_state st.source st.payload_type) L octets store

-- one call, and then others
infixl 20 ◌and_then◌
abbrev pub ◌and_then◌ : Call → Calls → Calls
c and_then none = none before c
c and_then (cs before d) = (c and_then cs) before d

-- a call restarts a run of the opened source and type
pub record RestartsRun (s : Stream) (r : Run) (c : Call) : Type 0 where
  pub source : r.state.source ≡ s.source
  pub type : r.state.payload_type ≡ s.type
  pub restarts : Restarts r.state (layout_of s c.arriving) (octets_of s c.arriving) (store_for (gathered r.state) r.store c.store)

-- "it holds again from the restarting packet on, as from a keeper just opened": whatever the run `r` was before, and so after each restart
abbrev pub Demand3Again : Type 0
Demand3Again = (s : Stream) → WellFormedStream s → (r : Run) (c : Call) (cs : Calls)
    → r.state.source ≡ s.source → r.state.payload_type ≡ s.type
    → Restarts r.state (layout_of s c.arriving) (octets_of s c.arriving) (store_for (gathered r.state) r.store c.store)
    → Proper s (c and_then cs) → Near (c and_then cs)
    → Demand3After s r.handed (c and_then cs) (run_from r s (c and_then cs))
