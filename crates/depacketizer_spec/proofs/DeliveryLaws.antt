-- A stream delivered entirely, in order, is handed out entirely; so two that are cut differently hand out the same, apart from the index.
-- By recursion on the packets delivered: each finds the parts before it gathered.
use mathlib.Core.Path.{◌≡◌, refl, ◌∙◌, ap, ap₂, sym, subst}
use mathlib.Core.Bool.{Bool, true, false, true≢false}
use mathlib.Core.List.{List, [], ◌∷◌, ◌++◌, append_assoc, append-nil}
use Prim.Native.Nat.{ℕ, zero, suc, ◌+◌, ◌-◌, ◌^◌, ◌%◌, ◌≤◌, ◌<◌}
use native.Mathlib.Omega.{arith}
use native.Mathlib.Nat.{add-zero, zero-add, not-suc-le-zero}
use native.Mathlib.Numerals.{add-one}
use lib.Dec.{eqb}
use lib.ListN.{length, drop, length-append}
use borrow.Author.Tests.{le-leb}
use Rattle.wire_spec.specs.Anc.{Record, Each}
use Rattle.wire_spec.specs.Cells.{list_in, list_of, Lists}
use Rattle.wire_spec.specs.Packet.{Content}
use Rattle.wire_spec.specs.Writing.{max_field_packets}
use Rattle.wire_spec.proofs.CellLaws.{lists-in, lists-append, lists_length}
use Rattle.depacketizer_spec.specs.declared.state.Answer.TheVariants as answer
use Rattle.depacketizer_spec.specs.Step.{Gathered, lost, ready, gathered, gathered_records, gathered_cells, gathered_packets, Gather, follow, carried, dropped, after, appended, fresh_step, packet_step, class_step, classify, distance, admit, admitted_step, sound, open_state}
use Rattle.depacketizer_spec.specs.Stream.{Part, Field, parts, record_count, cells_from, joined_cells, Sent, is_last, sent, sent_of, Stream, content_at, Within, Fits, WellFormedStream, other, packet, Call, none, ◌before◌, Run, done, call_step, run, Handed, as_sent, only_if}
use Rattle.depacketizer_spec.specs.Delivery.{joined, SameFields, Leads, in_order, Delivery, delivered, all_as_sent, DeliveredWhole, Alike, AllAlike, CutAlike}
use Rattle.depacketizer_spec.proofs.NumberLaws.{admit-own}
use Rattle.depacketizer_spec.proofs.DistanceLaws.{distance-ahead}
use Rattle.depacketizer_spec.proofs.WalkLaws.{packet_at, at_drop, length-sent}
use Rattle.depacketizer_spec.proofs.PlaceLaws.{up_to, entering, leaving, Holds, part_at, field_at, followed-at, followed-holds}
use Rattle.depacketizer_spec.proofs.JoinLaws.{Joined, leaving-fits, part-joins}
use Rattle.depacketizer_spec.proofs.StepLaws.{sound-step}
use Rattle.depacketizer_spec.proofs.FitLaws.{sound_in, sound-heard}
use Rattle.depacketizer_spec.proofs.RunInvariant.{sound-gathered, store-holds, store_in}
use Rattle.depacketizer_spec.proofs.FreshLaws.{gathered-after}

-- what the first `n` packets leave gathered, their field's cells, and what they hand out
abbrev gathered_at : List Sent → ℕ → Gathered
gathered_at ps zero = ready
gathered_at ps (suc m) = leaving (packet_at ps m)

abbrev cells_at : List Sent → ℕ → List ℕ
cells_at ps zero = []
cells_at ps (suc m) = joined_cells (up_to (packet_at ps m))

abbrev whole_before : List Sent → ℕ → List Handed
whole_before ps zero = []
whole_before ps (suc m) = whole_before ps m ++ only_if (is_last (packet_at ps m)) (packet_at ps m).field

record Delivering (s : Stream) (i : ℕ) (r : Run) : Type 0 where
  source : r.state.source ≡ s.source
  type : r.state.payload_type ≡ s.type
  heard : r.state.heard ≡ true
  last : r.state.last.0 ≡ (s.start + (2 ^ 32 - 1) + i) % 2 ^ 32
  records : r.state.records ≡ gathered_records (gathered r.state)
  cells : r.state.cells ≡ gathered_cells (gathered r.state)
  packets : r.state.packets ≡ gathered_packets (gathered r.state)
  gathers : gathered r.state ≡ gathered_at (sent s.fields) i
  holds : Holds s.fields (gathered r.state) r.store (cells_at (sent s.fields) i)
  handed : r.handed ≡ whole_before (sent s.fields) i

-- a packet finds the parts before it gathered, and their cells
enters : (xs : List Field) (i : ℕ) (store : List ℕ) → i < length (sent xs)
    → Holds xs (gathered_at (sent xs) i) store (cells_at (sent xs) i)
    → (gathered_at (sent xs) i ≡ entering (packet_at (sent xs) i))
    × Holds xs (entering (packet_at (sent xs) i)) store (joined_cells (packet_at (sent xs) i).before)
enters [] i store b h = absurd (not-suc-le-zero b)
enters (x ∷ xs) zero store b h = (refl, tt)
enters (x ∷ xs) (suc m) store b h =
    let f = followed-at (x ∷ xs) m b in
    (f.0, followed-holds (x ∷ xs) (packet_at (sent (x ∷ xs)) m) (packet_at (sent (x ∷ xs)) (suc m)) store f h)

at-fits : (s : Stream) (i : ℕ) (store : List ℕ) → WellFormedStream s → i ≤ length (sent s.fields) → Each (Fits store) s.fields
    → sound_in (gathered_at (sent s.fields) i) true (length store) ≡ true
at-fits s zero store w b e = rw (le-leb 0 (length store) (omega arith))
at-fits s (suc m) store w b e =
    sound-heard (leaving (packet_at (sent s.fields) m)) (length store)
    (leaving-fits (packet_at (sent s.fields) m) store (part_at s.fields m b) (field_at Within s.fields m w.within b)
    (field_at (Fits store) s.fields m e b))

module _ (s : Stream) (i : ℕ) (r : Run) (offered : List ℕ) (w : WellFormedStream s) (e : Each (Fits offered) s.fields) (v : Delivering s i r) (b : i < length (sent s.fields)) where
  abbrev ps : List Sent
  ps = sent s.fields

  abbrev x : Sent
  x = packet_at ps i

  abbrev k : Content
  k = content_at s i x

  abbrev store : List ℕ
  store = store_in r offered

  abbrev z : Gather
  z = follow (entering x) (carried k) (length store)

  abbrev call : Call
  call = record { arriving = packet i; store = offered }

  lends : Holds s.fields (gathered r.state) store (cells_at ps i) × Each (Fits store) s.fields
  lends = store-holds s.fields (gathered r.state) r.store offered (cells_at ps i) v.holds e

  enter : (gathered_at ps i ≡ entering x) × Holds s.fields (entering x) store (joined_cells x.before)
  enter = enters s.fields i store b (subst (λ (q : Gathered). Holds s.fields q store (cells_at ps i)) v.gathers lends.0)

  passes : sound r.state (length store) ≡ true
  passes =
      sound-gathered r.state (length store) v.records v.cells v.packets
      ∙ ap₂ (λ (g : Gathered) (h : Bool). sound_in g h (length store)) v.gathers v.heard
      ∙ at-fits s i store w (omega arith) lends.1

  next-number : (s.start + i) % 2 ^ 32 ≡ (s.start + (2 ^ 32 - 1) + (i + 1)) % 2 ^ 32
  next-number = omega arith

  follows : packet_step r.state.heard r.state k store ≡ fresh_step r.state (entering x) 0 k store
  follows =
      ap (λ (t : Bool). packet_step t r.state k store) v.heard
      ∙ ap₂ (λ (a c : ℕ). class_step (classify (distance a c)) r.state k store) v.last next-number
      ∙ rw (distance-ahead (s.start + (2 ^ 32 - 1)) i 1 (omega arith))
      (ap (λ (g : Gathered). fresh_step r.state g 0 k store) (v.gathers ∙ enter.0))

  steps : call_step s r call ≡ fresh_step r.state (entering x) 0 k store
  steps =
      sound-step r.state s.layout x.part.octets store passes
      ∙ ap₂ (λ (source type : ℕ). admitted_step r.state (admit s.layout source type x.part.octets) store) v.source v.type
      ∙ ap (λ (q : _). admitted_step r.state q store) (admit-own s.layout s.source s.type _ _ (w.accepts i b) refl refl)
      ∙ follows

  joins : Joined s.fields x z (appended z.append (entering x) k store)
  joins = part-joins x store (part_at s.fields i b) (field_at Within s.fields i w.within b) (field_at (Fits store) s.fields i lends.1 b) s i s.fields lends.1 enter.1

  delivering-next : Delivering s (suc i) (done r (call_step s r call))
  delivering-next =
      rw steps
      (record {
        source = v.source;
        type = v.type;
        heard = refl;
        last = let q : (s.start + i) % 2 ^ 32 ≡ (s.start + (2 ^ 32 - 1) + suc i) % 2 ^ 32 = omega arith in q;
        records = ap gathered_records (sym (gathered-after z.gathered));
        cells = ap gathered_cells (sym (gathered-after z.gathered));
        packets = ap gathered_packets (sym (gathered-after z.gathered));
        gathers = gathered-after z.gathered ∙ joins.gathered;
        holds = subst (λ (g : Gathered). Holds s.fields g (appended z.append (entering x) k store) (joined_cells (up_to x))) (sym (gathered-after z.gathered)) joins.holds;
        handed = ap₂ (λ (p q : List Handed). p ++ q) v.handed joins.handed;
      })

-- after the leading packet
delivering-first : (s : Stream) (o offered : List ℕ) → Leads s o
    → Delivering s 0 (run s (none before record { arriving = other s.layout o; store = offered }))
delivering-first s o offered h = rw steps (go (carried h.says).marked (ap (λ (n : ℕ). eqb n 1) h.marked))
  where
    steps : call_step s (run s none) (record { arriving = other s.layout o; store = offered }) ≡ fresh_step (open_state s.source s.type) lost 0 h.says offered
    steps =
        sound-step (open_state s.source s.type) s.layout o offered (rw (le-leb 0 (length offered) (omega arith)))
        ∙ ap (λ (q : _). admitted_step (open_state s.source s.type) q offered) (admit-own s.layout s.source s.type o h.says h.accepts h.source h.type)

    go : (b : Bool) → b ≡ true
        → Delivering s 0 (record { state = after (open_state s.source s.type) h.says.number (dropped answer.Skipped b).gathered 0; store = offered; handed = [] })
    go true q =
        record {
          source = refl;
          type = refl;
          heard = refl;
          last = h.number ∙ (let q : (s.start + (2 ^ 32 - 1)) % 2 ^ 32 ≡ (s.start + (2 ^ 32 - 1) + 0) % 2 ^ 32 = omega arith in q);
          records = refl;
          cells = refl;
          packets = refl;
          gathers = refl;
          holds = tt;
          handed = refl;
        }
    go false q = absurd (true≢false (sym q))

delivering : (s : Stream) (d : Delivery s) (i : ℕ) → i ≤ length (sent s.fields) → Delivering s i (run s (in_order s d.lead d.stores i))
delivering s d zero b = delivering-first s d.lead (d.stores 0) d.leads
delivering s d (suc i) b =
    delivering-next s i (run s (in_order s d.lead d.stores i)) (d.stores (suc i)) d.formed (d.fit i) (delivering s d i (omega arith)) b

-- field by field
field-whole : (ps : List Sent) (x : Field) (b : List Part) (q : Part) (qs : List Part) (rest : List Sent) (k : ℕ)
    → drop k ps ≡ sent_of x b (q ∷ qs) ++ rest
    → (whole_before ps (k + suc (length qs)) ≡ whole_before ps k ++ (as_sent x ∷ [])) × (drop (k + suc (length qs)) ps ≡ rest)
field-whole ps x b q [] rest k e =
    let p = at_drop ps k _ _ e in
    rw (add-one k) (rw p.0, p.1)
field-whole ps x b q (q' ∷ qs) rest k e =
    let p = at_drop ps k _ _ e in
    let more : k + suc (suc (length qs)) ≡ suc k + suc (length qs) = omega arith in
    let ih = field-whole ps x (b ++ (q ∷ [])) q' qs rest (suc k) p.1 in
    let same : whole_before ps (suc k) ≡ whole_before ps k = rw p.0 (append-nil _) in
    rw more (ih.0 ∙ ap (λ (l : List Handed). l ++ (as_sent x ∷ [])) same, ih.1)

fields-whole : (ps : List Sent) (xs : List Field) (k : ℕ) → drop k ps ≡ sent xs
    → whole_before ps (k + length (sent xs)) ≡ whole_before ps k ++ all_as_sent xs
fields-whole ps [] k e = rw (add-zero k) (sym (append-nil _))
fields-whole ps (x ∷ xs) k e =
    let p = field-whole ps x [] x.first x.rest (sent xs) k e in
    let ih = fields-whole ps xs (k + suc (length x.rest)) p.1 in
    let more : k + length (sent (x ∷ xs)) ≡ k + suc (length x.rest) + length (sent xs) =
    rw (length-append (sent_of x [] (parts x)) (sent xs), length-sent x [] (parts x)) (omega arith) in
    rw more (ih ∙ rw p.0 (append_assoc (whole_before ps k) _ _))

-- every field is handed out as sent
pub delivered-whole : DeliveredWhole
delivered-whole s d =
    let n = length (sent s.fields) in
    (delivering s d n (omega arith)).handed
    ∙ ap (whole_before (sent s.fields)) (sym (zero-add n))
    ∙ fields-whole (sent s.fields) s.fields 0 refl

records-joined : (ps : List Part) → record_count ps ≡ length (joined ps)
records-joined [] = refl
records-joined (p ∷ ps) = rw (length-append p.records (joined ps), records-joined ps)

-- the cells of parts are those of their records, apart from the index
pub cells-joined : (k : ℕ) (ps : List Part) → k + length ps ≤ max_field_packets → Lists (joined ps) (cells_from k ps)
cells-joined k [] h = refl
cells-joined k (p ∷ ps) h =
    lists-append p.records (joined ps) (list_in k p.records) (cells_from (suc k) ps) (lists-in k (omega arith) p.records)
    (cells-joined (suc k) ps (omega arith))

-- a field as sent is its joined records, apart from the index
pub field-said : (x : Field) → Within x → Lists (joined (parts x)) (joined_cells (parts x))
field-said x w = cells-joined 0 (parts x) (omega (arith, w.2))

cells-said : (x : Field) → Within x → length (joined_cells (parts x)) ≡ length (list_of (joined (parts x)))
cells-said x w = lists_length (joined (parts x)) (joined_cells (parts x)) (field-said x w)

field_alike : (x y : Field) → Within x → Within y → x.timestamp ≡ y.timestamp → x.f ≡ y.f → joined (parts x) ≡ joined (parts y)
    → Alike (as_sent x) (as_sent y)
field_alike x y v w t f e =
    record {
      timestamp = t;
      f = f;
      records = records-joined (parts x) ∙ ap length e ∙ sym (records-joined (parts y));
      cells = cells-said x v ∙ ap (λ (rs : List Record). length (list_of rs)) e ∙ sym (cells-said y w);
      said = joined (parts x);
      left = field-said x v;
      right = subst (λ (rs : List Record). Lists rs (joined_cells (parts y))) (sym e) (field-said y w);
    }

same_sent : (xs ys : List Field) → Each Within xs → Each Within ys → SameFields xs ys → AllAlike (all_as_sent xs) (all_as_sent ys)
same_sent [] [] v w h = tt
same_sent [] (y ∷ ys) v w h = absurd h
same_sent (x ∷ xs) [] v w h = absurd h
same_sent (x ∷ xs) (y ∷ ys) v w h =
    (field_alike x y v.0 w.0 h.0 h.1 h.2, same_sent xs ys v.1 w.1 h.3)

-- "Then the handed out fields are equal, one by one."
pub cut-alike : CutAlike
cut-alike s t h d e =
    subst (λ (l : List Handed). AllAlike l (delivered t e)) (sym (delivered-whole s d))
    (subst (AllAlike (all_as_sent s.fields)) (sym (delivered-whole t e))
    (same_sent s.fields t.fields d.formed.within e.formed.within h))
