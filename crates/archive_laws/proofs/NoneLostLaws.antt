-- With stores that any field fits, no field is lost whose packets are the latest of the fresh ones.
-- What they leave gathered is told by them, whatever was gathered before: the invariant of `AnyLaws` the other way round.
use mathlib.Core.Path.{◌≡◌, refl, ap, ap₂, sym, subst, ◌∙◌}
use mathlib.Core.Bool.{Bool, true, false, true≢false, cond, ◌&&◌}
use mathlib.Core.List.{List, [], ◌∷◌, ◌++◌, append-nil, append_assoc, nil≢cons, head-eq_of_cons-eq, tail-eq_of_cons-eq}
use Prim.Native.Nat.{ℕ, ◌+◌, ◌-◌, ◌^◌, ◌%◌, ◌<◌, ◌≤◌}
use native.Mathlib.Omega.{arith}
use borrow.Author.Tests.{le-leb, eq-eqb, ne_eqb}
use lib.Dec.{eqb}
use lib.ListN.{length, take, length-append}
use Rattle.wire_spec.specs.declared.refusal.Refusal.{Refusal}
use Rattle.wire_spec.specs.Bits.{Below, splice}
use Rattle.wire_spec.specs.Layout.{Layout}
use Rattle.wire_spec.specs.Result.{Result, Err, Ok}
use Rattle.wire_spec.specs.Anc.{Each}
use Rattle.wire_spec.specs.Cells.{list_in}
use Rattle.wire_spec.specs.Packet.{Content, read_content}
use Rattle.wire_spec.specs.Writing.{max_field_records, max_field_cells, max_field_packets}
use Rattle.wire_spec.proofs.ResultLaws.{and_both, judge-accepts}
use Rattle.depacketizer_spec.specs.declared.state.State.{State}
use Rattle.depacketizer_spec.specs.declared.state.Answer.TheVariants as answer
use Rattle.depacketizer_spec.specs.Step.{Carried, Class, Gather, Gathered, Step, admission, admit, admitted_step, ahead, appended, carried, class_step, classify, distance, far, far_or_restart, filling, follow, fresh_step, gathered, is_remembered, join, join_fits, join_if_fits, join_if_same, late, lost, marked, next, open_state, packet_step, ready, sound, step, taken}
use Rattle.depacketizer_spec.specs.Laws.{IsFresh}
use Rattle.depacketizer_spec.specs.Stream.{Part, record_count, cells_from, joined_cells, Run, handed_by, store_for}
use Rattle.depacketizer_spec.proofs.CheckLaws.{length-after}
use Rattle.depacketizer_spec.proofs.DistanceLaws.{distance-ahead}
use Rattle.depacketizer_spec.proofs.StepLaws.{follow-answers, passed}
use Rattle.depacketizer_spec.proofs.FreshLaws.{gathered-after}
use Rattle.depacketizer_spec.proofs.PlaceLaws.{cells-append, records-append}
use Rattle.archive_laws.specs.Any.{Accepted, Heard, InSequence, NoneLost, Octets, OfField, Offer, OneField, OnlyLastMarked, Roomy, fresh_of, heard_by, if_fresh, joined_of, offer_step, parts_of, run_of, said_by}
use Rattle.archive_laws.proofs.GatherLaws.{Gathering, Sized, Unmarked, last_of, new-cells, new-content, new-packets, new-records, part_of, parts-snoc, read-sized, takes-own}
use Rattle.archive_laws.proofs.AnyLaws.{holds, if-fresh, keeps}

-- LISTS from their end
pub snoc-inj : (xs ys : List Heard) (x y : Heard) → xs ++ (x ∷ []) ≡ ys ++ (y ∷ []) → (xs ≡ ys) × (x ≡ y)
snoc-inj [] [] x y e = (refl, head-eq_of_cons-eq e)
snoc-inj [] (z ∷ []) x y e = absurd (nil≢cons (tail-eq_of_cons-eq e))
snoc-inj [] (z ∷ w ∷ ys) x y e = absurd (nil≢cons (tail-eq_of_cons-eq e))
snoc-inj (z ∷ []) [] x y e = absurd (nil≢cons (sym (tail-eq_of_cons-eq e)))
snoc-inj (z ∷ w ∷ xs) [] x y e = absurd (nil≢cons (sym (tail-eq_of_cons-eq e)))
snoc-inj (z ∷ xs) (w ∷ ys) x y e =
    let ih = snoc-inj xs ys x y (tail-eq_of_cons-eq e) in
    (ap₂ ◌∷◌ (head-eq_of_cons-eq e) ih.0, ih.1)

abbrev pub Snoc : List Heard → Type 0
Snoc l = (front : List Heard) × (p : Heard) × (l ≡ front ++ (p ∷ []))

pub snoc-view : (x : Heard) (l : List Heard) → Snoc (x ∷ l)
snoc-view x [] = ([], x, refl)
snoc-view x (y ∷ l) = let v = snoc-view y l in (x ∷ v.0, v.1, ap (λ (m : List Heard). x ∷ m) v.2)

last_view : (x : Heard) (l : List Heard) → (front : List Heard) × (x ∷ l ≡ front ++ (last_of x l ∷ []))
last_view x [] = ([], refl)
last_view x (y ∷ l) = let v = last_view y l in (x ∷ v.0, ap (λ (m : List Heard). x ∷ m) v.1)

each-front : {A : Type 0} (P : A → Type 0) (l : List A) (x : A) → Each P (l ++ (x ∷ [])) → Each P l × P x
each-front P [] x h = (tt, h.0)
each-front P (y ∷ l) x h = let q = each-front P l x h.1 in ((h.0, q.0), q.1)

sequence-front : (x : Heard) (l : List Heard) (p : Heard) → InSequence (x ∷ (l ++ (p ∷ []))) → InSequence (x ∷ l) × (p.says.number ≡ ((last_of x l).says.number + 1) % 2 ^ 32)
sequence-front x [] p h = (tt, h.0)
sequence-front x (y ∷ l) p h = let q = sequence-front y l p h.1 in ((h.0, q.0), q.1)

pub marks-front : (l : List Heard) (p : Heard) → OnlyLastMarked (l ++ (p ∷ [])) → Each Unmarked l × (p.says.marker ≡ 1)
marks-front [] p h = (tt, h)
marks-front (q ∷ []) p h = ((h.0, tt), h.1)
marks-front (q ∷ r ∷ l) p h = let m = marks-front (r ∷ l) p h.1 in ((h.0, m.0), m.1)

-- A FIELD BEGUN: packets behind a marked one that are gathered, if they fit
pub record Begun (source type : ℕ) (lead : Heard) (held : List Heard) (t f : ℕ) : Type 0 where
  pub accepts : Each (Accepted source type) (lead ∷ held)
  pub sequence : InSequence (lead ∷ held)
  pub leads : lead.says.marker ≡ 1
  pub unmarked : Each Unmarked held
  pub one : Each (OfField t f) held
  pub few_records : record_count (parts_of held) ≤ max_field_records
  pub few_cells : length (joined_cells (parts_of held)) ≤ max_field_cells
  pub few_packets : length held ≤ max_field_packets

-- what they leave gathered
abbrev pub gathering_of : (t f : ℕ) → List Heard → Gathered
gathering_of t f [] = ready
gathering_of t f (p ∷ l) = filling t f (record_count (parts_of (p ∷ l))) (length (joined_cells (parts_of (p ∷ l)))) (length (p ∷ l))

pub record Has (g : Gathered) (store : List ℕ) (t f : ℕ) (held : List Heard) : Type 0 where
  pub is : g ≡ gathering_of t f held
  pub content : take (length (joined_cells (parts_of held))) store ≡ joined_cells (parts_of held)

-- the fresh packets tell the last number, and what is gathered
pub record Complete (source type : ℕ) (fresh : List Heard) (st : State) (store : List ℕ) : Type 0 where
  pub latest : (before : List Heard) (p : Heard) → fresh ≡ before ++ (p ∷ []) → (st.heard ≡ true) × (st.last.0 ≡ p.says.number) × (p.says.number < 2 ^ 32)
  pub gathers : (before : List Heard) (lead : Heard) (held : List Heard) (t f : ℕ) → fresh ≡ before ++ (lead ∷ held) → Begun source type lead held t f → Has (gathered st) store t f held

-- ONE PACKET MORE of a field that is begun
gathering-snoc : (t f : ℕ) (l : List Heard) (p : Heard)
    → gathering_of t f (l ++ (p ∷ [])) ≡ filling t f (record_count (parts_of (l ++ (p ∷ [])))) (length (joined_cells (parts_of (l ++ (p ∷ []))))) (length (l ++ (p ∷ [])))
gathering-snoc t f [] p = refl
gathering-snoc t f (q ∷ l) p = refl

appends-here : (t f : ℕ) (held : List Heard) (k : Content) (store : List ℕ)
    → appended true (gathering_of t f held) k store ≡ splice store (length (joined_cells (parts_of held))) (list_in (length held) k.records)
appends-here t f [] k store = refl
appends-here t f (p ∷ l) k store = refl

module _ (source type : ℕ) (store : List ℕ) (room : max_field_cells ≤ length store) (lead : Heard) (held : List Heard) (t f : ℕ) (b : Begun source type lead held t f)
    (content : take (length (joined_cells (parts_of held))) store ≡ joined_cells (parts_of held)) (small : (last_of lead held).says.number < 2 ^ 32)
    (h : Heard) (a : Accepted source type h) (sized : Sized h.says) (follows : h.says.number ≡ ((last_of lead held).says.number + 1) % 2 ^ 32) (one_time : h.says.timestamp ≡ t) (one-f : h.says.f ≡ f)
    (few_records : record_count (parts_of (held ++ (h ∷ []))) ≤ max_field_records) (few_cells : length (joined_cells (parts_of (held ++ (h ∷ [])))) ≤ max_field_cells) (few_packets : length (held ++ (h ∷ [])) ≤ max_field_packets) where
  abbrev k : Content
  k = h.says

  abbrev p : Carried
  p = carried k

  abbrev all : List Heard
  all = held ++ (h ∷ [])

  abbrev r : ℕ
  r = record_count (parts_of held)

  abbrev c : ℕ
  c = length (joined_cells (parts_of held))

  abbrev n : ℕ
  n = length held

  abbrev last : ℕ
  last = (last_of lead held).says.number

  abbrev gathering : Gathering source type (lead ∷ held) store last t f r c n
  gathering =
      record {
        before = [];
        lead = lead;
        held = held;
        ends = refl;
        accepts = b.accepts;
        sequence = b.sequence;
        leads = b.leads;
        unmarked = b.unmarked;
        one = b.one;
        records = refl;
        cells = refl;
        packets = refl;
        content = content;
        inside = omega (arith, room, b.few_cells);
        final = refl;
        small = small;
      }

  records-are : r + p.records ≡ record_count (parts_of all)
  records-are = new-records source type (lead ∷ held) store last t f r c n gathering h a follows sized one_time one-f

  cells_are : c + p.cells ≡ length (joined_cells (parts_of all))
  cells_are = new-cells source type (lead ∷ held) store last t f r c n gathering h a follows sized one_time one-f

  packets-are : n + 1 ≡ length all
  packets-are = new-packets source type (lead ∷ held) store last t f r c n gathering h a follows sized one_time one-f

  content-is : take (c + p.cells) (splice store c (list_in n k.records)) ≡ joined_cells (parts_of all)
  content-is = new-content source type (lead ∷ held) store last t f r c n gathering h a follows sized one_time one-f

  ok : join_fits r c n p (length store) ≡ true
  ok =
      and_both (le-leb (r + p.records) max_field_records (omega (arith, records-are, few_records)))
      (and_both (le-leb (c + p.cells) max_field_cells (omega (arith, cells_are, few_cells)))
      (and_both (le-leb (c + p.cells) (length store) (omega (arith, cells_are, few_cells, room))) (le-leb (n + 1) max_field_packets (omega (arith, packets-are, few_packets)))))

  joined-here : follow (gathering_of t f held) p (length store) ≡ taken p (r + p.records) (c + p.cells) (n + 1)
  joined-here = go held refl
    where
      go : (l : List Heard) → held ≡ l → follow (gathering_of t f l) p (length store) ≡ taken p (record_count (parts_of l) + p.records) (length (joined_cells (parts_of l)) + p.cells) (length l + 1)
      go [] e =
          let q : join_fits 0 0 0 p (length store) ≡ true = subst (λ (l : List Heard). join_fits (record_count (parts_of l)) (length (joined_cells (parts_of l))) (length l) p (length store) ≡ true) e ok in
          ap (λ (x : Bool). join_if_fits x p (0 + p.records) (0 + p.cells) (0 + 1)) q
      go (y ∷ l) e =
          let q : join_fits (record_count (parts_of (y ∷ l))) (length (joined_cells (parts_of (y ∷ l)))) (length (y ∷ l)) p (length store) ≡ true =
          subst (λ (l : List Heard). join_fits (record_count (parts_of l)) (length (joined_cells (parts_of l))) (length l) p (length store) ≡ true) e ok in
          ap (λ (x : Bool). join_if_same x (record_count (parts_of (y ∷ l))) (length (joined_cells (parts_of (y ∷ l)))) (length (y ∷ l)) p (length store))
          (and_both (eq-eqb t k.timestamp (sym one_time)) (eq-eqb f k.f (sym one-f)))
          ∙ ap (λ (x : Bool). join_if_fits x p (record_count (parts_of (y ∷ l)) + p.records) (length (joined_cells (parts_of (y ∷ l))) + p.cells) (length (y ∷ l) + 1)) q

  abbrev z : Gather
  z = follow (gathering_of t f held) p (length store)

  abbrev left : List ℕ
  left = appended z.append (gathering_of t f held) k store

  left_is : left ≡ splice store c (list_in n k.records)
  left_is = ap (λ (x : Gather). appended x.append (gathering_of t f held) k store) joined-here ∙ appends-here t f held k store

  -- unmarked, it is gathered
  grows : marked k ≡ false → Has z.gathered left t f all
  grows m =
      record {
        is =
            ap (λ (x : Gather). x.gathered) joined-here
            ∙ ap (λ (x : Bool). cond x ready (filling k.timestamp k.f (r + p.records) (c + p.cells) (n + 1))) m
            ∙ (λ i. filling (one_time i) (one-f i) (records-are i) (cells_are i) (packets-are i))
            ∙ sym (gathering-snoc t f held h);
        content = ap₂ (λ (x : ℕ) (l : List ℕ). take x l) (sym cells_are) left_is ∙ content-is;
      }

  -- marked, all are handed out
  hands_out : marked k ≡ true → handed_by z.answer left ≡ joined_of t f all ∷ []
  hands_out m =
      ap₂ (λ (x : Gather) (l : List ℕ). handed_by x.answer l) joined-here left_is
      ∙ rw m
      (λ i. record { timestamp = one_time i; f = one-f i; records = records-are i; cells = cells_are i; packets = packets-are i; content = content-is i } ∷ [])

-- the packets before the last of them
record Front (source type : ℕ) (lead : Heard) (front : List Heard) (h : Heard) (t f : ℕ) : Type 0 where
  pub begun : Begun source type lead front t f
  pub follows : h.says.number ≡ ((last_of lead front).says.number + 1) % 2 ^ 32
  pub one : OfField t f h

fewer-cells : (l : List Heard) (p : Heard) → length (joined_cells (parts_of l)) ≤ length (joined_cells (parts_of (l ++ (p ∷ []))))
fewer-cells l p =
    let e = ap (λ (ps : List Part). length (joined_cells ps)) (parts-snoc l p) ∙ ap length (cells-append 0 (parts_of l) (part_of p ∷ []))
    ∙ length-append (joined_cells (parts_of l)) (cells_from (0 + length (parts_of l)) (part_of p ∷ [])) in
    omega (arith, e)

fewer-records : (l : List Heard) (p : Heard) → record_count (parts_of l) ≤ record_count (parts_of (l ++ (p ∷ [])))
fewer-records l p = let e = ap record_count (parts-snoc l p) ∙ records-append (parts_of l) (part_of p ∷ []) in omega (arith, e)

fewer-packets : (l : List Heard) (p : Heard) → length l ≤ length (l ++ (p ∷ []))
fewer-packets l p = omega (arith, length-append l (p ∷ []))

front_of : (source type : ℕ) (lead : Heard) (front : List Heard) (h : Heard) (t f : ℕ) → Each (Accepted source type) (lead ∷ (front ++ (h ∷ []))) → InSequence (lead ∷ (front ++ (h ∷ [])))
    → lead.says.marker ≡ 1 → Each Unmarked front → Each (OfField t f) (front ++ (h ∷ [])) → record_count (parts_of (front ++ (h ∷ []))) ≤ max_field_records
    → length (joined_cells (parts_of (front ++ (h ∷ [])))) ≤ max_field_cells → length (front ++ (h ∷ [])) ≤ max_field_packets → Front source type lead front h t f
front_of source type lead front h t f a s m u o fr fc fp =
    let x = sequence-front lead front h s in
    let y = each-front (OfField t f) front h o in
    record {
      begun =
          record {
            accepts = (a.0, (each-front (Accepted source type) front h a.1).0);
            sequence = x.0;
            leads = m;
            unmarked = u;
            one = y.0;
            few_records = omega (arith, fewer-records front h, fr);
            few_cells = omega (arith, fewer-cells front h, fc);
            few_packets = omega (arith, fewer-packets front h, fp);
          };
      follows = x.1;
      one = y.1;
    }

-- a marked fresh packet leaves the depacketizer ready
taken-ready : (p : Carried) (r c n : ℕ) → p.marked ≡ true → (taken p r c n).gathered ≡ ready
taken-ready p r c n e = rw e

join-ready : (r c n : ℕ) (p : Carried) (room : ℕ) → p.marked ≡ true → (join r c n p room).gathered ≡ ready
join-ready r c n p room e = go (join_fits r c n p room)
  where
    go : (b : Bool) → (join_if_fits b p (r + p.records) (c + p.cells) (n + 1)).gathered ≡ ready
    go true = taken-ready p (r + p.records) (c + p.cells) (n + 1) e
    go false = rw e

marked-ready : (g : Gathered) (p : Carried) (room : ℕ) → p.marked ≡ true → (follow g p room).gathered ≡ ready
marked-ready lost p room e = rw e
marked-ready ready p room e = join-ready 0 0 0 p room e
marked-ready (filling t f r c n) p room e = go (eqb t p.timestamp && eqb f p.f)
  where
    go : (b : Bool) → (join_if_same b r c n p room).gathered ≡ ready
    go true = join-ready r c n p room e
    go false = rw e

-- WHAT A FRESH PACKET LEAVES, if it finds gathered what the packets before it tell
pub record Full (source type : ℕ) (fresh : List Heard) (z : Step) : Type 0 where
  pub complete : Complete source type fresh z.state z.store
  pub none-lost : IsFresh z.answer → (t f : ℕ) (ps : List Heard) → OneField source type fresh t f ps → handed_by z.answer z.store ≡ joined_of t f ps ∷ []

abbrev Suits : (source type : ℕ) (fresh : List Heard) (store : List ℕ) (number : ℕ) → Gathered → Type 0
Suits source type fresh store number found = (before : List Heard) (lead : Heard) (held : List Heard) (t f : ℕ) → fresh ≡ before ++ (lead ∷ held) → Begun source type lead held t f
    → number ≡ ((last_of lead held).says.number + 1) % 2 ^ 32 → Has found store t f held

module _ (source type : ℕ) (fresh : List Heard) (store : List ℕ) (room : max_field_cells ≤ length store) (h : Heard) (a : Accepted source type h) (sized : Sized h.says)
    (small : (before : List Heard) (p : Heard) → fresh ≡ before ++ (p ∷ []) → p.says.number < 2 ^ 32) (from : State) (found : Gathered) (missing : ℕ) (suits : Suits source type fresh store h.says.number found) where
  abbrev said : Content
  said = h.says

  abbrev after-it : Step
  after-it = fresh_step from found missing said store

  split : (before : List Heard) (lead : Heard) (front : List Heard) (q : Heard) → fresh ++ (h ∷ []) ≡ before ++ (lead ∷ (front ++ (q ∷ []))) → (fresh ≡ before ++ (lead ∷ front)) × (h ≡ q)
  split before lead front q e = snoc-inj fresh (before ++ (lead ∷ front)) h q (e ∙ sym (append_assoc before (lead ∷ front) (q ∷ [])))

  last-small : (before : List Heard) (lead : Heard) (front : List Heard) → fresh ≡ before ++ (lead ∷ front) → (last_of lead front).says.number < 2 ^ 32
  last-small before lead front e =
      let v = last_view lead front in
      small (before ++ v.0) (last_of lead front) (e ∙ ap (λ (l : List Heard). before ++ l) v.1 ∙ sym (append_assoc before v.0 (last_of lead front ∷ [])))

  -- the last of a field that is begun
  grown : (before : List Heard) (lead : Heard) (front : List Heard) (t f : ℕ) → fresh ≡ before ++ (lead ∷ front) → Begun source type lead (front ++ (h ∷ [])) t f → Has (follow found (carried said) (length store)).gathered after-it.store t f (front ++ (h ∷ []))
  grown before lead front t f e b =
      let u = each-front Unmarked front h b.unmarked in
      let x = front_of source type lead front h t f b.accepts b.sequence b.leads u.0 b.one b.few_records b.few_cells b.few_packets in
      let y = suits before lead front t f e x.begun x.follows in
      let m : marked said ≡ false = ne_eqb said.marker 1 (λ q. omega (arith, u.1)) in
      subst (λ (g : Gathered). Has (follow g (carried said) (length store)).gathered (appended (follow g (carried said) (length store)).append g said store) t f (front ++ (h ∷ []))) (sym y.is)
      (grows source type store room lead front t f x.begun y.content (last-small before lead front e) h a sized x.follows x.one.0 x.one.1 b.few_records b.few_cells b.few_packets m)

  state-has : (t f : ℕ) (l : List Heard) → Has (follow found (carried said) (length store)).gathered after-it.store t f l → Has (gathered after-it.state) after-it.store t f l
  state-has t f l x = record { is = gathered-after (follow found (carried said) (length store)).gathered ∙ x.is; content = x.content }

  gathers-on : (before : List Heard) (lead : Heard) (held : List Heard) (t f : ℕ) → fresh ++ (h ∷ []) ≡ before ++ (lead ∷ held) → Begun source type lead held t f → Has (gathered after-it.state) after-it.store t f held
  gathers-on before lead [] t f e b =
      let q = (snoc-inj fresh before h lead e).1 in
      let m : marked said ≡ true = eq-eqb said.marker 1 (ap (λ (x : Heard). x.says.marker) q ∙ b.leads) in
      state-has t f [] (record { is = marked-ready found (carried said) (length store) m; content = refl })
  gathers-on before lead (q ∷ l) t f e b =
      let v = snoc-view q l in
      let s = split before lead v.0 v.1 (e ∙ ap (λ (x : List Heard). before ++ (lead ∷ x)) v.2) in
      let is : q ∷ l ≡ v.0 ++ (h ∷ []) = v.2 ∙ ap (λ (x : Heard). v.0 ++ (x ∷ [])) (sym s.1) in
      state-has t f (q ∷ l) (subst (Has (follow found (carried said) (length store)).gathered after-it.store t f) (sym is) (grown before lead v.0 t f s.0 (subst (λ (x : List Heard). Begun source type lead x t f) is b)))

  hands_on : (t f : ℕ) (ps : List Heard) → OneField source type (fresh ++ (h ∷ [])) t f ps → handed_by after-it.answer after-it.store ≡ joined_of t f ps ∷ []
  hands_on t f [] o = absurd o.marks
  hands_on t f (q ∷ l) o =
      let v = snoc-view q l in
      let s = split o.before o.lead v.0 v.1 (o.ends ∙ ap (λ (x : List Heard). o.before ++ (o.lead ∷ x)) v.2) in
      let is : q ∷ l ≡ v.0 ++ (h ∷ []) = v.2 ∙ ap (λ (x : Heard). v.0 ++ (x ∷ [])) (sym s.1) in
      let w = subst (λ (x : List Heard). OneField source type (fresh ++ (h ∷ [])) t f x) is o in
      let m = marks-front v.0 h w.marks in
      let x = front_of source type w.lead v.0 h t f w.accepts w.sequence w.leads m.0 w.one w.few_records w.few_cells w.few_packets in
      let e = (split w.before w.lead v.0 h w.ends).0 in
      let y = suits w.before w.lead v.0 t f e x.begun x.follows in
      let hands = hands_out source type store room w.lead v.0 t f x.begun y.content (last-small w.before w.lead v.0 e) h a sized x.follows x.one.0 x.one.1 w.few_records w.few_cells w.few_packets
      (eq-eqb said.marker 1 m.1) in
      subst (λ (g : Gathered). handed_by (follow g (carried said) (length store)).answer (appended (follow g (carried said) (length store)).append g said store) ≡ joined_of t f (v.0 ++ (h ∷ [])) ∷ []) (sym y.is) hands
      ∙ ap (λ (x : List Heard). joined_of t f x ∷ []) (sym is)

  fresh-full : Full source type (fresh ++ (h ∷ [])) after-it
  fresh-full =
      record {
        complete =
            record {
              latest = λ before p e.
                  let q = (snoc-inj fresh before h p e).1 in
                  (refl, ap (λ (x : Heard). x.says.number) q, subst (λ (x : Heard). x.says.number < 2 ^ 32) q sized.0);
              gathers = gathers-on;
            };
        none-lost = λ i t f ps o. hands_on t f ps o;
      }

-- EVERY STEP keeps it so: a packet numbered next finds what is gathered, and no other suits
next-is : (last number : ℕ) → last < 2 ^ 32 → number ≡ (last + 1) % 2 ^ 32 → classify (distance last number) ≡ next
next-is last number h e =
    let a : last ≡ (last + 0) % 2 ^ 32 = omega (arith, h) in
    let b : number ≡ (last + (0 + 1)) % 2 ^ 32 = e in
    ap₂ (λ (x y : ℕ). classify (distance x y)) a b ∙ ap classify (distance-ahead last 0 1 (omega arith))

module _ (source type : ℕ) (fresh : List Heard) (L : Layout) (octets store : List ℕ) (room : max_field_cells ≤ length store) (below : Below 256 octets) (st : State) (is-source : st.source ≡ source) (is-type : st.payload_type ≡ type)
    (v : Complete source type fresh st store) where
  abbrev Filled : Step → Type 0
  Filled z = Full source type (fresh ++ heard_by L octets z.answer) z

  -- a refusal adds none
  refused_full : (z : Step) → ((l : List Heard) → if_fresh z.answer l ≡ []) → (x : Refusal) → z.answer ≡ answer.Refused x → Complete source type fresh z.state z.store → Filled z
  refused_full z none x e c =
      subst (λ (l : List Heard). Full source type l z) (sym (ap (λ (l : List Heard). fresh ++ l) (none (said_by L octets (read_content L octets))) ∙ append-nil fresh))
      (record { complete = c; none-lost = λ i. absurd (i x e) })

  -- the last fresh packet before it
  last-heard : (before : List Heard) (lead : Heard) (held : List Heard) → fresh ≡ before ++ (lead ∷ held)
      → (st.heard ≡ true) × (st.last.0 ≡ (last_of lead held).says.number) × ((last_of lead held).says.number < 2 ^ 32)
  last-heard before lead held e =
      let w = last_view lead held in
      v.latest (before ++ w.0) (last_of lead held) (e ∙ ap (λ (l : List Heard). before ++ l) w.1 ∙ sym (append_assoc before w.0 (last_of lead held ∷ [])))

  module _ (k : Content) (admits : admit L st.source st.payload_type octets ≡ Ok k) (reads : read_content L octets ≡ Ok k) where
    abbrev heard : Heard
    heard = record { layout = L; octets = octets; says = k }

    takes : Accepted source type heard
    takes = takes-own L source type octets k (ap₂ (λ (x y : ℕ). admit L x y octets) (sym is-source) (sym is-type) ∙ admits)

    fresh_step_lem : (from : State) (found : Gathered) (missing : ℕ) → Suits source type fresh store k.number found → Filled (fresh_step from found missing k store)
    fresh_step_lem from found missing s =
        let z = follow found (carried k) (length store) in
        let grows-to : fresh ++ heard_by L octets z.answer ≡ fresh ++ (heard ∷ []) =
        ap (λ (m : List Heard). fresh ++ m) (if-fresh z.answer (said_by L octets (read_content L octets)) (follow-answers found (carried k) (length store)) ∙ ap (said_by L octets) reads) in
        subst (λ (m : List Heard). Full source type m (fresh_step from found missing k store)) (sym grows-to)
        (fresh-full source type fresh store room heard takes (read-sized L octets below k reads) (λ before p e. (v.latest before p e).2) from found missing s)

    -- a packet of another class is not numbered next
    none-suits : (c : Class) → classify (distance st.last.0 k.number) ≡ c → (c ≡ next → ⊥) → Suits source type fresh store k.number lost
    none-suits c e n before lead held t f is b follows =
        let w = last-heard before lead held is in
        absurd (n (sym e ∙ next-is st.last.0 k.number (omega (arith, w.1, w.2)) (follows ∙ ap (λ (x : ℕ). (x + 1) % 2 ^ 32) (sym w.1))))

    far-step : (b : Bool) → classify (distance st.last.0 k.number) ≡ far → Filled (far_or_restart b st k store)
    far-step true e = fresh_step_lem (open_state st.source st.payload_type) lost 0 (none-suits far e (λ x. let o : ◌≡◌ {A = ℕ} 0 1 = cc in absurd (omega arith)))
    far-step false e = refused_full (far_or_restart false st k store) (λ l. refl) _ refl (record { latest = v.latest; gathers = v.gathers })

    class-step : (c : Class) → classify (distance st.last.0 k.number) ≡ c → Filled (class_step c st k store)
    class-step late e = refused_full (class_step late st k store) (λ l. refl) _ refl (record { latest = v.latest; gathers = v.gathers })
    class-step next e = fresh_step_lem st (gathered st) 0 (λ before lead held t f is b follows. v.gathers before lead held t f is b)
    class-step far e = far-step (is_remembered st k.number) e
    class-step (ahead n) e = fresh_step_lem st lost n (none-suits (ahead n) e (λ x. let o : ◌≡◌ {A = ℕ} 0 1 = cc in absurd (omega arith)))

    packet-step : (b : Bool) → st.heard ≡ b → Filled (packet_step b st k store)
    packet-step false e = fresh_step_lem st lost 0 (λ before lead held t f is b follows. absurd (true≢false (sym (last-heard before lead held is).0 ∙ e)))
    packet-step true e = class-step (classify (distance st.last.0 k.number)) refl

  admitted-step : (r : Result Content) → admission st L (length store) octets ≡ r → Filled (admitted_step st r store)
  admitted-step (Err x) e = refused_full (admitted_step st (Err x) store) (λ l. refl) x refl v
  admitted-step (Ok k) e =
      packet-step k (judge-accepts 0 ((sound st (length store), 35) ∷ []) (admit L st.source st.payload_type octets) k e).1 (passed st L (length store) octets k e).1 st.heard refl

  pub step-full : Filled (step st L octets store)
  unfolding step
  step-full = admitted-step (admission st L (length store) octets) refl

-- THE WHOLE RUN
lent-has : (g : Gathered) (left offered : List ℕ) (t f : ℕ) (held : List Heard) → Has g left t f held → Has g (store_for g left offered) t f held
lent-has g left offered t f [] h = record { is = h.is; content = refl }
lent-has g left offered t f (p ∷ l) h =
    record { is = h.is; content = subst (λ (x : Gathered). take (length (joined_cells (parts_of (p ∷ l)))) (store_for x left offered) ≡ joined_cells (parts_of (p ∷ l))) (sym h.is) h.content }

lent-room : (g : Gathered) (left offered : List ℕ) → ((t f r c n : ℕ) → g ≡ filling t f r c n → max_field_cells ≤ length left) → max_field_cells ≤ length offered → max_field_cells ≤ length (store_for g left offered)
lent-room lost left offered h o = o
lent-room ready left offered h o = o
lent-room (filling t f r c n) left offered h o = h t f r c n refl

record Going (source type : ℕ) (fresh : List Heard) (r : Run) : Type 0 where
  pub opened : r.state.source ≡ source
  pub typed : r.state.payload_type ≡ type
  pub complete : Complete source type fresh r.state r.store
  pub room : (t f x c n : ℕ) → gathered r.state ≡ filling t f x c n → max_field_cells ≤ length r.store

full : (source type : ℕ) (c : Offer) (cs : List Offer) → Octets c → Roomy c → Going source type (fresh_of source type cs) (run_of source type cs)
    → Full source type (fresh_of source type (c ∷ cs)) (offer_step (run_of source type cs) c)
full source type c cs below roomy g =
    let r = run_of source type cs in
    let lent = store_for (gathered r.state) r.store c.store in
    step-full source type (fresh_of source type cs) c.layout c.octets lent (lent-room (gathered r.state) r.store c.store g.room roomy) below r.state g.opened g.typed
    (record {
      latest = g.complete.latest;
      gathers = λ before lead held t f e b. lent-has (gathered r.state) r.store c.store t f held (g.complete.gathers before lead held t f e b);
    })

going : (source type : ℕ) (cs : List Offer) → Each Octets cs → Each Roomy cs → Going source type (fresh_of source type cs) (run_of source type cs)
going source type [] b o =
    record {
      opened = refl;
      typed = refl;
      complete = record { latest = λ before p e. absurd (empty before p [] e); gathers = λ before lead held t f e b. absurd (empty before lead held e) };
      room = λ t f x c n e. let o : ◌≡◌ {A = ℕ} 0 1 = cc in absurd (omega arith);
    }
  where
    empty : (before : List Heard) (p : Heard) (held : List Heard) → [] ≡ before ++ (p ∷ held) → ⊥
    empty [] p held e = nil≢cons e
    empty (q ∷ before) p held e = nil≢cons e
going source type (c ∷ cs) b o =
    let r = run_of source type cs in
    let g = going source type cs b.1 o.1 in
    let k = keeps source type c cs b.0 (holds source type cs b.1) in
    let lent = store_for (gathered r.state) r.store c.store in
    let same = length-after r.state c.layout c.octets lent in
    let enough = lent-room (gathered r.state) r.store c.store g.room o.0 in
    record { opened = k.opened; typed = k.typed; complete = (full source type c cs b.0 o.0 g).complete; room = λ t f x c n e. omega (arith, same, enough) }

-- NOR IS ONE LOST
pub none-lost : NoneLost
none-lost source type c cs b o = (full source type c cs b.0 o.0 (going source type cs b.1 o.1)).none-lost
