-- The same fields, however they were cut into packets (02, K8).
use Rattle.std.specs.Prelude.{◌≡◌, List, [], ◌∷◌, ◌++◌, ℕ, zero, suc, ◌+◌, ◌-◌, ◌^◌, ◌%◌, length}
use Rattle.wire_spec.specs.Result.{Ok}
use Rattle.wire_spec.specs.Anc.{Record, Each}
use Rattle.wire_spec.specs.Cells.{Lists}
use Rattle.wire_spec.specs.Packet.{Content, read_content}
use Rattle.depacketizer_spec.specs.Stream.{Part, Field, parts, sent, Stream, WellFormedStream, Fits, other, packet, Calls, none, ◌before◌, run, Handed, as_sent}

-- "joined records"
abbrev pub joined : List Part → List Record
joined [] = []
joined (p ∷ ps) = p.records ++ joined ps

-- "whose fields have the same timestamps, F and joined records"
abbrev pub SameFields : List Field → List Field → Type 0
SameFields [] [] = Unit {0}
SameFields [] (y ∷ ys) = ⊥
SameFields (x ∷ xs) [] = ⊥
SameFields (x ∷ xs) (y ∷ ys) =
    (x.timestamp ≡ y.timestamp) × (x.f ≡ y.f) × (joined (parts x) ≡ joined (parts y)) × SameFields xs ys

-- "one accepted marked packet of the opened source and type, numbered just before it"
pub record Leads (s : Stream) (octets : List ℕ) : Type 0 where
  pub says : Content
  pub accepts : read_content s.layout octets ≡ Ok says
  pub source : says.source ≡ s.source
  pub type : says.type ≡ s.type
  pub marked : says.marker ≡ 1
  pub number : says.number ≡ (s.start + (2 ^ 32 - 1)) % 2 ^ 32

-- "Deliver each entirely, in order, .. after one": that packet, told the stream's layout, then the first `n` of
-- the stream, each with the store that is lent
abbrev pub in_order : Stream → (lead : List ℕ) → (stores : ℕ → List ℕ) → ℕ → Calls
in_order s lead stores zero = none before record { arriving = other s.layout lead; store = stores 0 }
in_order s lead stores (suc n) = in_order s lead stores n before record { arriving = packet n; store = stores (suc n) }

-- What is asked of one delivery. "Both must fit the limits and the store."
pub record Delivery (s : Stream) : Type 0 where
  pub formed : WellFormedStream s
  pub lead : List ℕ
  pub leads : Leads s lead
  pub stores : ℕ → List ℕ
  pub fit : (i : ℕ) → Each (Fits (stores (suc i))) s.fields

-- what it hands out
abbrev pub delivered : (s : Stream) → Delivery s → List Handed
delivered s d = (run s (in_order s d.lead d.stores (length (sent s.fields)))).handed

-- every field as sent
abbrev pub all_as_sent : List Field → List Handed
all_as_sent [] = []
all_as_sent (x ∷ xs) = as_sent x ∷ all_as_sent xs

abbrev pub DeliveredWhole : Type 0
DeliveredWhole = (s : Stream) (d : Delivery s) → delivered s d ≡ all_as_sent s.fields

-- "K8's equality reads apart from this cell" (02, K13), and from the number of packets, which tells the cut: two fields handed out that are else
-- equal, the cells of both those of the same records
pub record Alike (x y : Handed) : Type 0 where
  pub timestamp : x.timestamp ≡ y.timestamp
  pub f : x.f ≡ y.f
  pub records : x.records ≡ y.records
  pub cells : x.cells ≡ y.cells
  pub said : List Record
  pub left : Lists said x.content
  pub right : Lists said y.content

abbrev pub AllAlike : List Handed → List Handed → Type 0
AllAlike [] [] = Unit {0}
AllAlike [] (y ∷ ys) = ⊥
AllAlike (x ∷ xs) [] = ⊥
AllAlike (x ∷ xs) (y ∷ ys) = Alike x y × AllAlike xs ys

-- "Then the handed out fields are equal, one by one."
abbrev pub CutAlike : Type 0
CutAlike = (s t : Stream) → SameFields s.fields t.fields → (d : Delivery s) (e : Delivery t) → AllAlike (delivered s d) (delivered t e)
