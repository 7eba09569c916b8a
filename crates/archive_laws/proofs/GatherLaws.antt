-- What is gathered: fresh packets behind a marked one, numbered in sequence; and what one more makes of them.
-- By the cells that it appends.
use mathlib.Core.Path.{◌≡◌, refl, ap, sym, subst, ◌∙◌}
use mathlib.Core.Bool.{Bool, true, false, cond}
use mathlib.Core.List.{List, [], ◌∷◌, ◌++◌, append-nil, append_assoc}
use Prim.Native.Nat.{ℕ, zero, suc, ◌+◌, ◌-◌, ◌^◌, ◌%◌, ◌*◌, ◌<◌, ◌≤◌}
use native.Mathlib.Omega.{arith}
use borrow.Author.Tests.{leb-true, eqb-true, eqb-false}
use lib.Dec.{leb, ltb}
use lib.IntN.{ℤ, pos, negsuc}
use lib.ListN.{length, take, length-append}
use Rattle.wire_spec.specs.Bits.{Below, splice}
use Rattle.wire_spec.specs.Layout.{Layout}
use Rattle.wire_spec.specs.Result.{Ok}
use Rattle.wire_spec.specs.Anc.{Each}
use Rattle.wire_spec.specs.Cells.{list_in}
use Rattle.wire_spec.specs.Packet.{Content, Packet, WellFormedPacket, read_content}
use Rattle.wire_spec.specs.Writing.{max_field_records, max_field_cells, max_field_packets}
use Rattle.wire_spec.proofs.ListLaws.{each_snoc, length-splice, take-splice}
use Rattle.wire_spec.proofs.CellLaws.{length-in}
use Rattle.wire_spec.proofs.ResultLaws.{accepted-inj, and-true, judge-accepts, then-accepts}
use Rattle.wire_spec.proofs.Demand2.{acceptance}
use Rattle.depacketizer_spec.specs.Step.{Carried, Gathered, admit, ahead, carried, classify, distance, far, filling, join_fits, late, lost, marked, max_ahead, max_behind, next, opened_checks, ready, signed}
use Rattle.depacketizer_spec.specs.Stream.{Part, record_count, cells_from, joined_cells, store_for}
use Rattle.depacketizer_spec.proofs.PlaceLaws.{records-append, cells-append}
use Rattle.fieldsave_laws.proofs.StoreLaws.{payload-fit}
use Rattle.archive_laws.specs.Any.{Accepted, Heard, InSequence, OfField, OnlyLastMarked, Vouched, parts_of}

abbrev pub Unmarked : Heard → Type 0
Unmarked p = p.says.marker ≡ 0

-- WHAT PASSES 30 AND 31 is of the opened source and type
pub takes-own : (L : Layout) (source type : ℕ) (o : List ℕ) (k : Content) → admit L source type o ≡ Ok k → Accepted source type (record { layout = L; octets = o; says = k })
takes-own L source type o k h =
    let a = then-accepts (read_content L o) _ k h in
    let b = judge-accepts 0 (opened_checks source type a.0.source a.0.type) (Ok a.0) k a.2 in
    let is : a.0 ≡ k = accepted-inj b.1 in
    (a.1 ∙ b.1, ap (λ (x : Content). x.source) (sym is) ∙ eqb-true a.0.source source b.0.0, ap (λ (x : Content). x.type) (sym is) ∙ eqb-true a.0.type type b.0.1.0)

-- LISTS of packets that grow by one
abbrev pub last_of : Heard → List Heard → Heard
last_of p [] = p
last_of p (q ∷ l) = last_of q l

pub last_snoc : (x : Heard) (l : List Heard) (p : Heard) → last_of x (l ++ (p ∷ [])) ≡ p
last_snoc x [] p = refl
last_snoc x (y ∷ l) p = last_snoc y l p

sequence-snoc : (x : Heard) (l : List Heard) (p : Heard) → InSequence (x ∷ l) → p.says.number ≡ ((last_of x l).says.number + 1) % 2 ^ 32 → InSequence (x ∷ (l ++ (p ∷ [])))
sequence-snoc x [] p h e = (e, tt)
sequence-snoc x (y ∷ l) p h e = (h.0, sequence-snoc y l p h.1 e)

-- unmarked ones, and then a marked one
pub marks-snoc : (l : List Heard) (p : Heard) → Each Unmarked l → p.says.marker ≡ 1 → OnlyLastMarked (l ++ (p ∷ []))
marks-snoc [] p h m = m
marks-snoc (q ∷ []) p h m = (h.0, m)
marks-snoc (q ∷ r ∷ l) p h m = (h.0, marks-snoc (r ∷ l) p h.1 m)

abbrev pub part_of : Heard → Part
part_of p = record { octets = p.octets; records = p.says.records }

pub parts-snoc : (l : List Heard) (p : Heard) → parts_of (l ++ (p ∷ [])) ≡ parts_of l ++ (part_of p ∷ [])
parts-snoc [] p = refl
parts-snoc (q ∷ l) p = ap (λ (ps : List Part). part_of q ∷ ps) (parts-snoc l p)

pub parts-length : (l : List Heard) → length (parts_of l) ≡ length l
parts-length [] = refl
parts-length (p ∷ l) = ap suc (parts-length l)

-- THE NEXT NUMBER is the one that follows
pos-is : {a b : ℕ} → pos a ≡ pos b → a ≡ b
pos-is e = cc

next-class : (z : ℤ) → classify z ≡ next → z ≡ pos 1
next-class (negsuc n) e = go (leb (suc n) max_behind) e
  where
    go : (b : Bool) → cond b late far ≡ next → negsuc n ≡ pos 1
    go true e = let o : ◌≡◌ {A = ℕ} 0 1 = cc in absurd (omega arith)
    go false e = let o : ◌≡◌ {A = ℕ} 0 1 = cc in absurd (omega arith)
next-class (pos zero) e = let o : ◌≡◌ {A = ℕ} 0 1 = cc in absurd (omega arith)
next-class (pos (suc zero)) e = refl
next-class (pos (suc (suc n))) e = go (leb (suc (suc n)) max_ahead) e
  where
    go : (b : Bool) → cond b (ahead (suc n)) far ≡ next → pos (suc (suc n)) ≡ pos 1
    go true e = let o : ◌≡◌ {A = ℕ} 0 1 = cc in absurd (omega arith)
    go false e = let o : ◌≡◌ {A = ℕ} 0 1 = cc in absurd (omega arith)

signed-one : (n : ℕ) → signed n ≡ pos 1 → n ≡ 1
signed-one n e = go (ltb n (2 ^ 31)) e
  where
    go : (b : Bool) → cond b (pos n) (negsuc (2 ^ 32 - suc n)) ≡ pos 1 → n ≡ 1
    go true e = pos-is e
    go false e = let o : ◌≡◌ {A = ℕ} 0 1 = cc in absurd (omega arith)

pub next-number : (last number : ℕ) → last < 2 ^ 32 → number < 2 ^ 32 → classify (distance last number) ≡ next → number ≡ (last + 1) % 2 ^ 32
next-number last number a b e =
    let d = signed-one ((number + (2 ^ 32 - last)) % 2 ^ 32) (next-class (distance last number) e) in
    omega (arith, a, b, d)

-- WHAT A PACKET SAYS has a number of 32 bits, and a mark that is 0 or 1
abbrev pub Sized : Content → Type 0
Sized k = (k.number < 2 ^ 32) × (k.marker < 2)

packet-sized : (L : Layout) (k : Packet) → WellFormedPacket L k → (k.extended * 65536 + k.sequence < 2 ^ 32) × (k.marker < 2)
packet-sized L k h = omega (arith, h.fit, payload-fit L k h.fit)

pub read-sized : (L : Layout) (o : List ℕ) → Below 256 o → (k : Content) → read_content L o ≡ Ok k → Sized k
read-sized L o below k e =
    let a = (acceptance L o below k).0 e in
    subst Sized a.3 (packet-sized L a.0 a.1)

pub mark-is : (k : Content) → marked k ≡ true → k.marker ≡ 1
mark-is k e = eqb-true k.marker 1 e

pub no-mark-is : (k : Content) → k.marker < 2 → marked k ≡ false → k.marker ≡ 0
no-mark-is k h e = let n = eqb-false k.marker 1 e in omega (arith, h, n)

-- WHAT IS GATHERED: fresh packets behind a marked one, the last of which has the number `last`
pub record Gathering (source type : ℕ) (fresh : List Heard) (store : List ℕ) (last t f r c n : ℕ) : Type 0 where
  pub before : List Heard
  pub lead : Heard
  pub held : List Heard
  pub ends : fresh ≡ before ++ (lead ∷ held)
  pub accepts : Each (Accepted source type) (lead ∷ held)
  pub sequence : InSequence (lead ∷ held)
  pub leads : lead.says.marker ≡ 1
  pub unmarked : Each Unmarked held
  pub one : Each (OfField t f) held
  pub records : r ≡ record_count (parts_of held)
  pub cells : c ≡ length (joined_cells (parts_of held))
  pub packets : n ≡ length held
  pub content : take c store ≡ joined_cells (parts_of held)
  pub inside : c ≤ length store
  pub final : (last_of lead held).says.number ≡ last
  pub small : last < 2 ^ 32

abbrev pub Gathers : (source type : ℕ) → List Heard → List ℕ → ℕ → Gathered → Type 0
Gathers source type fresh store last lost = Unit {0}
Gathers source type fresh store last ready = (t f : ℕ) → Gathering source type fresh store last t f 0 0 0
Gathers source type fresh store last (filling t f r c n) = Gathering source type fresh store last t f r c n

-- a store that is lent where nothing is gathered may be any
pub lent-gathers : (source type : ℕ) (fresh left offered : List _) (last : ℕ) (g : Gathered) → Gathers source type fresh left last g → Gathers source type fresh (store_for g left offered) last g
lent-gathers source type fresh left offered last lost h = tt
lent-gathers source type fresh left offered last ready h = λ t f.
    let g = h t f in
    record {
      before = g.before;
      lead = g.lead;
      held = g.held;
      ends = g.ends;
      accepts = g.accepts;
      sequence = g.sequence;
      leads = g.leads;
      unmarked = g.unmarked;
      one = g.one;
      records = g.records;
      cells = g.cells;
      packets = g.packets;
      content = g.content;
      inside = omega arith;
      final = g.final;
      small = g.small;
    }
lent-gathers source type fresh left offered last (filling t f r c n) h = h

-- A PACKET JOINS THEM, numbered next, with their timestamp and F
module _ (source type : ℕ) (fresh : List Heard) (store : List ℕ) (last t f r c n : ℕ) (g : Gathering source type fresh store last t f r c n) (h : Heard) (a : Accepted source type h) (follows : h.says.number ≡ (last + 1) % 2 ^ 32)
    (sized : Sized h.says) (one_time : h.says.timestamp ≡ t) (one-f : h.says.f ≡ f) where
  abbrev k : Content
  k = h.says

  abbrev p : Carried
  p = carried k

  abbrev here : List ℕ
  here = splice store c (list_in n k.records)

  abbrev all : List Heard
  all = g.held ++ (h ∷ [])

  new-ends : fresh ++ (h ∷ []) ≡ g.before ++ (g.lead ∷ all)
  new-ends = ap (λ (l : List Heard). l ++ (h ∷ [])) g.ends ∙ append_assoc g.before (g.lead ∷ g.held) (h ∷ [])

  new-accepts : Each (Accepted source type) (g.lead ∷ all)
  new-accepts = (g.accepts.0, each_snoc (Accepted source type) g.held h g.accepts.1 a)

  new-sequence : InSequence (g.lead ∷ all)
  new-sequence = sequence-snoc g.lead g.held h g.sequence (follows ∙ ap (λ (m : ℕ). (m + 1) % 2 ^ 32) (sym g.final))

  new-one : Each (OfField t f) all
  new-one = each_snoc (OfField t f) g.held h g.one (one_time, one-f)

  pub new-records : r + p.records ≡ record_count (parts_of all)
  new-records = ap (λ (m : ℕ). m + p.records) g.records ∙ (let e = records-append (parts_of g.held) (part_of h ∷ []) in omega (arith, e)) ∙ ap record_count (sym (parts-snoc g.held h))

  cells_are : joined_cells (parts_of all) ≡ joined_cells (parts_of g.held) ++ list_in n k.records
  cells_are =
      let m : 0 + length (parts_of g.held) ≡ n = omega (arith, parts-length g.held, g.packets) in
      ap joined_cells (parts-snoc g.held h) ∙ cells-append 0 (parts_of g.held) (part_of h ∷ [])
      ∙ ap (λ (j : ℕ). joined_cells (parts_of g.held) ++ cells_from j (part_of h ∷ [])) m
      ∙ ap (λ (l : List ℕ). joined_cells (parts_of g.held) ++ l) (append-nil (list_in n k.records))

  pub new-cells : c + p.cells ≡ length (joined_cells (parts_of all))
  new-cells = omega (arith, ap length cells_are, length-append (joined_cells (parts_of g.held)) (list_in n k.records), length-in n k.records, g.cells)

  pub new-packets : n + 1 ≡ length all
  new-packets = omega (arith, g.packets, length-append g.held (h ∷ []))

  pub new-content : take (c + p.cells) here ≡ joined_cells (parts_of all)
  new-content =
      ap (λ (m : ℕ). take (c + m) here) (sym (length-in n k.records)) ∙ take-splice store c (list_in n k.records) g.inside
      ∙ ap (λ (l : List ℕ). l ++ list_in n k.records) g.content ∙ sym cells_are

  module _ (ok : join_fits r c n (carried h.says) (length store) ≡ true) where
    within : (r + p.records ≤ max_field_records) × (c + p.cells ≤ max_field_cells) × (c + p.cells ≤ length store) × (n + 1 ≤ max_field_packets)
    within =
        let x = and-true (leb (r + p.records) max_field_records) _ ok in
        let y = and-true (leb (c + p.cells) max_field_cells) _ x.1 in
        let z = and-true (leb (c + p.cells) (length store)) (leb (n + 1) max_field_packets) y.1 in
        (leb-true (r + p.records) max_field_records x.0, leb-true (c + p.cells) max_field_cells y.0, leb-true (c + p.cells) (length store) z.0, leb-true (n + 1) max_field_packets z.1)

    pub new-inside : c + p.cells ≤ length here
    new-inside = omega (arith, within.2, length-splice store c (list_in n k.records) (omega (arith, within.2, length-in n k.records)))

    -- unmarked, it is held
    pub joins : k.marker ≡ 0 → Gathering source type (fresh ++ (h ∷ [])) here k.number t f (r + p.records) (c + p.cells) (n + 1)
    joins m =
        record {
          before = g.before;
          lead = g.lead;
          held = all;
          ends = new-ends;
          accepts = new-accepts;
          sequence = new-sequence;
          leads = g.leads;
          unmarked = each_snoc Unmarked g.held h g.unmarked m;
          one = new-one;
          records = new-records;
          cells = new-cells;
          packets = new-packets;
          content = new-content;
          inside = new-inside;
          final = ap (λ (x : Heard). x.says.number) (last_snoc g.lead g.held h);
          small = sized.0;
        }

    -- marked, the field is handed out
    pub completes : k.marker ≡ 1
        → Vouched source type (fresh ++ (h ∷ []))
        (record { timestamp = k.timestamp; f = k.f; records = r + p.records; cells = c + p.cells; packets = n + 1; content = take (c + p.cells) here })
    completes m = (
      t,
      f,
      all,
      record {
        before = g.before;
        lead = g.lead;
        ends = new-ends;
        accepts = new-accepts;
        sequence = new-sequence;
        leads = g.leads;
        marks = marks-snoc g.held h g.unmarked m;
        one = new-one;
        few_records = omega (arith, new-records, within.0);
        few_cells = omega (arith, new-cells, within.1);
        few_packets = omega (arith, new-packets, within.3);
      },
      λ i. record { timestamp = one_time i; f = one-f i; records = new-records i; cells = new-cells i; packets = new-packets i; content = new-content i },
    )
