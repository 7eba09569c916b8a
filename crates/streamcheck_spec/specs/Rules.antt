-- The rules that a stream has to keep (02, K12): what each finding means, said of the packets of the whole frames, by their indices.
use Rattle.std.specs.Prelude.{◌≡◌, Bool, true, List, ◌∷◌, ◌⊎◌, ℕ, ◌+◌, ◌%◌, ◌^◌, ◌<◌, ◌≤◌, length, drop}
use Rattle.wire_spec.specs.declared.refusal.Refusal.{Refusal}
use Rattle.anc_record.specs.declared.location.Line.TheVariants as line
use Rattle.anc_record.specs.declared.location.Offset.TheVariants as offset
use Rattle.wire_spec.specs.Layout.{Layout}
use Rattle.anc_record.specs.Location.{line_of, offset_of}
use Rattle.wire_spec.specs.Result.{Result, Err, Ok}
use Rattle.wire_spec.specs.Anc.{Record}
use Rattle.wire_spec.specs.Packet.{Packet, content, read_packet}
use Rattle.streamcheck_spec.specs.declared.finding.Finding.{Finding}
use Rattle.streamcheck_spec.specs.declared.finding.Finding.TheVariants as finding

-- the element with index `i`: what the first `i` leave begins with it
abbrev pub At : {A : Type 0} → List A → ℕ → A → Type 0
At {A} xs i x = (rest : List A) × (drop i xs ≡ x ∷ rest)

-- the packet number, and the one after a number
abbrev pub number_of : Packet → ℕ
number_of k = (content k).number

abbrev pub following : ℕ → ℕ
following n = (n + 1) % 2 ^ 32

-- "a mark"
abbrev pub Marked : Packet → Type 0
Marked k = k.marker ≡ 1

-- "records with plain line and offset"
pub record Plain (r : Record) : Type 0 where
  pub line : (x : ℕ) × (line_of r.line ≡ line.Number x)
  pub offset : (x : ℕ) × (offset_of r.offset ≡ offset.Number x)

-- "line, then offset": `r` belongs before `q`. "equal places are in order"
abbrev pub Lower : Record → Record → Type 0
Lower r q = (r.line < q.line) ⊎ ((r.line ≡ q.line) × (r.offset < q.offset))

-- record `a` of packet `h` comes before record `b` of packet `i`
abbrev pub Before : (h a i b : ℕ) → Type 0
Before h a i b = (h < i) ⊎ ((h ≡ i) × (a < b))

module _ (L : Layout) (ps : List (List ℕ)) where
  -- "(1 to 13, 15 or 16, strictly)": packet `i` is read so
  pub record Reads (i : ℕ) (answer : Result Packet) : Type 0 where
    pub octets : List ℕ
    pub at : At ps i octets
    pub reading : read_packet L octets ≡ answer

  -- "the first accepted"
  pub record First (j : ℕ) (k : Packet) : Type 0 where
    pub accepts : Reads j (Ok k)
    pub least : (h : ℕ) → h < j → (l : Packet) → Reads h (Ok l) → ⊥

  -- packet `i` is accepted, `o` being what the first accepted says
  pub record Compared (i : ℕ) (k o : Packet) : Type 0 where
    pub accepts : Reads i (Ok k)
    pub origin : ℕ
    pub first : First origin o

  -- "30 or 31 against the first accepted"
  pub record OtherSource (i : ℕ) : Type 0 where
    pub here : Packet
    pub there : Packet
    pub compared : Compared i here there
    pub source : here.source ≡ there.source → ⊥

  pub record OtherType (i : ℕ) : Type 0 where
    pub here : Packet
    pub there : Packet
    pub compared : Compared i here there
    pub source : here.source ≡ there.source
    pub type : here.type ≡ there.type → ⊥

  -- "refused (1 to 13, 15 or 16, strictly; 30 or 31 against the first accepted; ..)"
  abbrev pub Refuses : ℕ → Refusal → Type 0
  Refuses i x =
      Reads i (Err x)
      ⊎ (OtherSource i × (x ≡ record { number = 30; index = 0 }))
      ⊎ (OtherType i × (x ≡ record { number = 31; index = 0 }))

  -- "not refused"
  pub record Sound (i : ℕ) (k : Packet) : Type 0 where
    pub opening : Packet
    pub compared : Compared i k opening
    pub source : k.source ≡ opening.source
    pub type : k.type ≡ opening.type

  -- "Each packet is compared with the last one not refused"
  pub record Previous (i h : ℕ) (k : Packet) : Type 0 where
    pub before : h < i
    pub sound : Sound h k
    pub greatest : (m : ℕ) → h < m → m < i → (l : Packet) → Sound m l → ⊥

  -- packet `i` and the one that it is compared with
  pub record Pair (i : ℕ) (k l : Packet) : Type 0 where
    pub sound : Sound i k
    pub h : ℕ
    pub previous : Previous i h l

  -- "number not the next"
  pub record NumberNotNext (i : ℕ) : Type 0 where
    pub here : Packet
    pub last : Packet
    pub pair : Pair i here last
    pub number : number_of here ≡ following (number_of last) → ⊥

  -- "timestamp or F changed before a mark"
  pub record ChangedBeforeMark (i : ℕ) : Type 0 where
    pub here : Packet
    pub last : Packet
    pub pair : Pair i here last
    pub unmarked : Marked last → ⊥
    pub differs : (here.timestamp ≡ last.timestamp → ⊥) ⊎ (here.f ≡ last.f → ⊥)

  -- "reserved bits set"
  pub record ReservedBitsSet (i : ℕ) : Type 0 where
    pub here : Packet
    pub sound : Sound i here
    pub reserved : here.reserved ≡ 0 → ⊥

  -- a plain record: the one with index `a` of the packet `h`, not refused
  pub record PlainAt (h a : ℕ) (r : Record) : Type 0 where
    pub packet : Packet
    pub sound : Sound h packet
    pub at : At packet.records a r
    pub plain : Plain r

  -- "a field ends at a mark": no mark from packet `h` on and before packet `i`
  abbrev pub SameField : (h i : ℕ) → Type 0
  SameField h i = (m : ℕ) → h ≤ m → m < i → (k : Packet) → Sound m k → Marked k → ⊥

  -- "the plain record before" the place of record `b` of packet `i`, "within a field"
  pub record PlainBefore (h a : ℕ) (q : Record) (i b : ℕ) : Type 0 where
    pub plain : PlainAt h a q
    pub before : Before h a i b
    pub field : SameField h i
    pub nearest : (m c : ℕ) (z : Record) → Before h a m c → Before m c i b → PlainAt m c z → ⊥

  -- record `b` of packet `i` is "out of raster order within a field (line, then offset, against the plain record before)"
  pub record OutOfOrderAt (i b : ℕ) : Type 0 where
    pub r : Record
    pub here : PlainAt i b r
    pub h : ℕ
    pub a : ℕ
    pub q : Record
    pub last : PlainBefore h a q i b
    pub lower : Lower r q

  -- "records with plain line and offset out of raster order within a field"
  abbrev pub OutOfRasterOrder : ℕ → Type 0
  OutOfRasterOrder i = (b : ℕ) × OutOfOrderAt i b

  -- packet `i` breaks the rule; `broken` says that the last frame is broken off: "the frame's index from 0"
  abbrev pub Breaks : (broken : Bool) → ℕ → Finding → Type 0
  Breaks broken i (finding.Refused x) = Refuses i x
  Breaks broken i finding.Cut = (broken ≡ true) × (i ≡ length ps)
  Breaks broken i finding.Number = NumberNotNext i
  Breaks broken i finding.Change = ChangedBeforeMark i
  Breaks broken i finding.Reserved = ReservedBitsSet i
  Breaks broken i finding.Raster = OutOfRasterOrder i
