-- ANY OCTETS, from any sender: what a depacketizer hands out is what one run of its fresh packets says, whatever else arrived.
-- (00: "It then joined what was left: half of one field with half of the next, each packet with a good checksum.")
use Rattle.std.specs.Prelude.{◌≡◌, List, [], ◌∷◌, ◌++◌, ℕ, ◌+◌, ◌^◌, ◌%◌, ◌≤◌, length}
use Rattle.wire_spec.specs.Bits.{Below}
use Rattle.wire_spec.specs.Layout.{Layout}
use Rattle.wire_spec.specs.Result.{Result, Err, Ok}
use Rattle.wire_spec.specs.Anc.{Each}
use Rattle.wire_spec.specs.Packet.{Content, read_content}
use Rattle.wire_spec.specs.Writing.{max_field_records, max_field_cells, max_field_packets}
use Rattle.depacketizer_spec.specs.declared.state.Answer.{Answer}
use Rattle.depacketizer_spec.specs.declared.state.Answer.TheVariants as answer
use Rattle.depacketizer_spec.specs.Step.{Step, gathered, open_state, step}
use Rattle.depacketizer_spec.specs.Laws.{IsFresh}
use Rattle.depacketizer_spec.specs.Stream.{Part, record_count, joined_cells, Handed, Run, done, handed_by, store_for}

-- A call: octets, the layout that is told of them, and the store that is lent where the depacketizer is not filling.
pub record Offer : Type 0 where
  pub layout : Layout
  pub octets : List ℕ
  pub store : List ℕ

-- the step of a call, behind a run
abbrev pub offer_step : Run → Offer → Step
offer_step r c = step r.state c.layout c.octets (store_for (gathered r.state) r.store c.store)

-- a depacketizer just opened, and the calls, the latest first: as `Stream.run`, but of any octets
abbrev pub run_of : (source type : ℕ) → List Offer → Run
run_of source type [] = record { state = open_state source type; store = []; handed = [] }
run_of source type (c ∷ cs) = done (run_of source type cs) (offer_step (run_of source type cs) c)

-- A packet that was heard: its octets, the layout that was told of them, and what they say in it.
pub record Heard : Type 0 where
  pub layout : Layout
  pub octets : List ℕ
  pub says : Content

-- "accepted", "of the opened source and type": by the reader, without the depacketizer's own checks
abbrev pub Accepted : (source type : ℕ) → Heard → Type 0
Accepted source type p = (read_content p.layout p.octets ≡ Ok p.says) × (p.says.source ≡ source) × (p.says.type ≡ type)

-- what octets say
abbrev pub said_by : Layout → List ℕ → Result Content → List Heard
said_by L o (Err x) = []
said_by L o (Ok k) = record { layout = L; octets = o; says = k } ∷ []

-- a fresh packet's answer is not a refusal
abbrev pub if_fresh : Answer → List Heard → List Heard
if_fresh answer.Skipped l = l
if_fresh answer.Held l = l
if_fresh answer.Mixed l = l
if_fresh answer.Overfull l = l
if_fresh (answer.Whole x) l = l
if_fresh (answer.Refused x) l = []

abbrev pub heard_by : Layout → List ℕ → Answer → List Heard
heard_by L o a = if_fresh a (said_by L o (read_content L o))

-- THE FRESH PACKETS of the calls, in the order of their arrival
abbrev pub fresh_of : (source type : ℕ) → List Offer → List Heard
fresh_of source type [] = []
fresh_of source type (c ∷ cs) = fresh_of source type cs ++ heard_by c.layout c.octets (offer_step (run_of source type cs) c).answer

-- "numbered in sequence modulo 2^32"
abbrev pub InSequence : List Heard → Type 0
InSequence [] = Unit {0}
InSequence (p ∷ []) = Unit {0}
InSequence (p ∷ q ∷ l) = (q.says.number ≡ (p.says.number + 1) % 2 ^ 32) × InSequence (q ∷ l)

-- "one timestamp and F"
abbrev pub OfField : (timestamp f : ℕ) → Heard → Type 0
OfField t f p = (p.says.timestamp ≡ t) × (p.says.f ≡ f)

-- "only the last marked"
abbrev pub OnlyLastMarked : List Heard → Type 0
OnlyLastMarked [] = ⊥
OnlyLastMarked (p ∷ []) = p.says.marker ≡ 1
OnlyLastMarked (p ∷ q ∷ l) = (p.says.marker ≡ 0) × OnlyLastMarked (q ∷ l)

-- what each carries
abbrev pub parts_of : List Heard → List Part
parts_of [] = []
parts_of (p ∷ l) = record { octets = p.octets; records = p.says.records } ∷ parts_of l

-- ONE FIELD'S PACKETS `ps`, the latest of the fresh ones: accepted, of the opened source and type, numbered in sequence; with one timestamp and F, only the last marked;
-- within the limits; and the packet before the first is marked, and numbered just before it.
pub record OneField (source type : ℕ) (fresh : List Heard) (t f : ℕ) (ps : List Heard) : Type 0 where
  pub before : List Heard
  pub lead : Heard
  pub ends : fresh ≡ before ++ (lead ∷ ps)
  pub accepts : Each (Accepted source type) (lead ∷ ps)
  pub sequence : InSequence (lead ∷ ps)
  pub leads : lead.says.marker ≡ 1
  pub marks : OnlyLastMarked ps
  pub one : Each (OfField t f) ps
  pub few_records : record_count (parts_of ps) ≤ max_field_records
  pub few_cells : length (joined_cells (parts_of ps)) ≤ max_field_cells
  pub few_packets : length ps ≤ max_field_packets

-- a field that says what they say: their records, joined in order
abbrev pub joined_of : (t f : ℕ) → List Heard → Handed
joined_of t f ps =
    record {
      timestamp = t;
      f = f;
      records = record_count (parts_of ps);
      cells = length (joined_cells (parts_of ps));
      packets = length ps;
      content = joined_cells (parts_of ps);
    }

-- a field that was handed out is what the latest of the fresh packets say
abbrev pub Vouched : (source type : ℕ) → List Heard → Handed → Type 0
Vouched source type fresh x = (t f : ℕ) × (ps : List Heard) × OneField source type fresh t f ps × (x ≡ joined_of t f ps)

-- or the latest at some earlier time
abbrev pub VouchedIn : (source type : ℕ) → List Heard → Handed → Type 0
VouchedIn source type fresh x = (front behind : List Heard) × (fresh ≡ front ++ behind) × Vouched source type front x

abbrev pub Octets : Offer → Type 0
Octets c = Below 256 c.octets

-- NO HALVES ARE JOINED: whatever octets arrive, every field that is handed out is what such packets say, which arrived one after the other among the fresh ones.
abbrev pub NoHalvesJoined : Type 0
NoHalvesJoined = (source type : ℕ) (cs : List Offer) → Each Octets cs → Each (VouchedIn source type (fresh_of source type cs)) (run_of source type cs).handed

-- and it is handed out at the call of the last of them
abbrev pub HandedAtLast : Type 0
HandedAtLast = (source type : ℕ) (c : Offer) (cs : List Offer) → Each Octets (c ∷ cs)
    → let z : Step = offer_step (run_of source type cs) c in
    Each (Vouched source type (fresh_of source type (c ∷ cs))) (handed_by z.answer z.store)

-- a store that any field fits
abbrev pub Roomy : Offer → Type 0
Roomy c = max_field_cells ≤ length c.store

-- NOR IS ONE LOST: with such stores, where a call's packet is fresh and the latest of the fresh ones are one field's packets, the call hands out that field
abbrev pub NoneLost : Type 0
NoneLost = (source type : ℕ) (c : Offer) (cs : List Offer) → Each Octets (c ∷ cs) → Each Roomy (c ∷ cs)
    → let z : Step = offer_step (run_of source type cs) c in
    IsFresh z.answer → (t f : ℕ) (ps : List Heard) → OneField source type (fresh_of source type (c ∷ cs)) t f ps → handed_by z.answer z.store ≡ joined_of t f ps ∷ []
