-- A fresh packet keeps the run's invariant: it finds its field's parts before it gathered, or the depacketizer lost.
-- By the packets missing before it: none, and what the last fresh one left is what it needs, or some.
use mathlib.Core.Path.{◌≡◌, refl, ◌∙◌, ap, ap₂, sym, subst}
use mathlib.Core.Bool.{Bool, true, false, true≢false, cond, ◌&&◌, ◌||◌, and-true, and-false, or-true}
use mathlib.Core.List.{List, [], ◌∷◌, ◌++◌, append_assoc}
use Prim.Native.Nat.{ℕ, zero, suc, ◌+◌, ◌-◌, ◌^◌, ◌%◌, ◌≤◌, ◌<◌}
use native.Mathlib.Omega.{arith}
use lib.Dec.{eqb, leb}
use lib.ListN.{length}
use borrow.Author.Tests.{le-leb, leb-true, eq-eqb, ne_eqb}
use Rattle.wire_spec.specs.Anc.{Each}
use Rattle.wire_spec.specs.Packet.{Content}
use Rattle.depacketizer_spec.specs.declared.state.State.{State}
use Rattle.depacketizer_spec.specs.Step.{◌⊞◌, Gathered, lost, ready, filling, gathered_in, gathered, phase_of, timestamp_of, f_of, gathered_records, gathered_cells, gathered_packets, Gather, carried, follow, appended, classify, distance, class_step, fresh_step, packet_step}
use Rattle.depacketizer_spec.specs.Stream.{Field, joined_cells, Sent, is_last, sent, Stream, content_at, Within, Fits, WellFormedStream, packet, NearLast, Handed, handed_by, only_if, Run, done}
use Rattle.depacketizer_spec.proofs.DistanceLaws.{class_ahead, class-ahead}
use Rattle.depacketizer_spec.proofs.WalkLaws.{packet_at, unbroken, handed_before, NoneFrom, unbroken-below, handed-below, handed-idle, unbroken-idle}
use Rattle.depacketizer_spec.proofs.PlaceLaws.{up_to, entering, leaving, Holds, part_at, field_at, followed-at, followed-holds}
use Rattle.depacketizer_spec.proofs.JoinLaws.{marked-last, part-joins}
use Rattle.depacketizer_spec.proofs.RunInvariant.{top, LastHeard, gathered_after, cells_after, Counted, Invariant, store-holds, store_in}

-- what packet `i` finds gathered, and how many are missing before it
abbrev found : List ℕ → ℕ → Gathered → Gathered
found [] i g = lost
found (m ∷ l) i g = cond (eqb i (suc m)) g lost

abbrev missing_before : List ℕ → ℕ → ℕ
missing_before [] i = 0
missing_before (m ∷ l) i = i - suc m

-- a sent packet that was sent later than all that arrived, and not too far ahead of the last fresh one, is fresh
fresh_step_lem : (s : Stream) (l : List ℕ) (st : State) (i : ℕ) (x : Sent) (store : List ℕ) → LastHeard s l st.heard st.last.0 → top l ≤ i → NearLast (packet i) l
    → packet_step st.heard st (content_at s i x) store ≡ fresh_step st (found l i (gathered st)) (missing_before l i) (content_at s i x) store
fresh_step_lem s [] st i x store v h near = ap (λ (t : Bool). packet_step t st (content_at s i x) store) v
fresh_step_lem s (m ∷ l) st i x store v h near =
    ap (λ (t : Bool). packet_step t st (content_at s i x) store) v.0
    ∙ ap (λ (n : ℕ). class_step (classify (distance n ((s.start + i) % 2 ^ 32))) st (content_at s i x) store) v.1
    ∙ go (i - suc m) (omega arith)
  where
    go : (d : ℕ) → i ≡ m + suc d
        → class_step (classify (distance ((s.start + m) % 2 ^ 32) ((s.start + i) % 2 ^ 32))) st (content_at s i x) store
        ≡ fresh_step st (cond (eqb i (suc m)) (gathered st) lost) (i - suc m) (content_at s i x) store
    go zero e =
        let q : i ≡ suc m = omega arith in
        let z : i - suc m ≡ 0 = omega arith in
        let c : classify (distance ((s.start + m) % 2 ^ 32) ((s.start + i) % 2 ^ 32)) ≡ class_ahead 0 =
        rw e (class-ahead s.start m 0 (omega arith)) in
        rw (eq-eqb i (suc m) q, z, c)
    go (suc d) e =
        let z : i - suc m ≡ suc d = omega arith in
        let c : classify (distance ((s.start + m) % 2 ^ 32) ((s.start + i) % 2 ^ 32)) ≡ class_ahead (suc d) =
        rw e (class-ahead s.start m (suc d) (omega (arith, near.0))) in
        rw (ne_eqb i (suc m) (λ y. omega arith), z, c)

unbroken-nil : (ps : List Sent) (i : ℕ) → unbroken ps [] i ≡ false
unbroken-nil ps zero = refl
unbroken-nil ps (suc i) = refl

-- it finds the parts before it gathered, or the depacketizer lost
finds : (xs : List Field) (l : List ℕ) (i : ℕ) → top l ≤ i → i < length (sent xs) → NoneFrom (top l) l
    → found l i (gathered_after (sent xs) l) ≡ cond (unbroken (sent xs) l i) (entering (packet_at (sent xs) i)) lost
finds xs [] i h b e = rw (unbroken-nil (sent xs) i)
finds xs (m ∷ l) i h b e = go (i - suc m) (omega arith)
  where
    go : (d : ℕ) → i ≡ d + suc m
        → found (m ∷ l) i (gathered_after (sent xs) (m ∷ l)) ≡ cond (unbroken (sent xs) (m ∷ l) i) (entering (packet_at (sent xs) i)) lost
    go zero q =
        let q : i ≡ suc m = omega arith in
        rw (eq-eqb i (suc m) q) (rw q (rw (followed-at xs m (omega arith)).0))
    go (suc d) q = rw (ne_eqb i (suc m) (λ y. omega arith), unbroken-idle (sent xs) (m ∷ l) (suc m) i (omega arith) e)

-- and their cells in the store
finds-cells : (xs : List Field) (l : List ℕ) (i : ℕ) (store : List ℕ) → top l ≤ i → i < length (sent xs) → NoneFrom (top l) l
    → Holds xs (gathered_after (sent xs) l) store (cells_after (sent xs) l) → unbroken (sent xs) l i ≡ true
    → Holds xs (entering (packet_at (sent xs) i)) store (joined_cells (packet_at (sent xs) i).before)
finds-cells xs [] i store h b e k g = absurd (true≢false (sym g ∙ unbroken-nil (sent xs) i))
finds-cells xs (m ∷ l) i store h b e k g = go (i - suc m) (omega arith)
  where
    go : (d : ℕ) → i ≡ d + suc m → Holds xs (entering (packet_at (sent xs) i)) store (joined_cells (packet_at (sent xs) i).before)
    go zero q =
        let q : i ≡ suc m = omega arith in
        let g' : unbroken (sent xs) (m ∷ l) (suc m) ≡ true = rw q at g in
        let k' : Holds xs (leaving (packet_at (sent xs) m)) store (joined_cells (up_to (packet_at (sent xs) m))) = rw g' at k in
        rw q (followed-holds xs (packet_at (sent xs) m) (packet_at (sent xs) (suc m)) store (followed-at xs m (omega arith)) k')
    go (suc d) q = absurd (true≢false (sym g ∙ unbroken-idle (sent xs) (m ∷ l) (suc m) i (omega arith) e))

dropped-gathers : (b : Bool) (g : Gathered) → cond b ready lost ≡ cond (b || false) (cond b ready g) lost
dropped-gathers true g = refl
dropped-gathers false g = refl

dropped-holds : (xs : List Field) (b : Bool) (store c : List ℕ) → Holds xs (cond b ready lost) store c
dropped-holds xs true store c = tt
dropped-holds xs false store c = tt

-- what a fresh packet leaves, where `g` says whether nothing is missing before it
record AfterFresh (xs : List Field) (x : Sent) (g : Bool) (z : Gather) (store : List ℕ) : Type 0 where
  gathers : z.gathered ≡ cond (is_last x || g) (leaving x) lost
  holds : Holds xs z.gathered store (joined_cells (up_to x))
  handed : handed_by z.answer store ≡ only_if (is_last x && g) x.field

fresh-leaves : (s : Stream) (i : ℕ) (store : List ℕ) (g : Bool) → i < length (sent s.fields) → Each Within s.fields → Each (Fits store) s.fields
    → (g ≡ true → Holds s.fields (entering (packet_at (sent s.fields) i)) store (joined_cells (packet_at (sent s.fields) i).before))
    → let x : Sent = packet_at (sent s.fields) i in
    let k : Content = content_at s i x in
    let z : Gather = follow (cond g (entering x) lost) (carried k) (length store) in
    AfterFresh s.fields x g z (appended z.append (cond g (entering x) lost) k store)
fresh-leaves s i store true b w e h =
    let x = packet_at (sent s.fields) i in
    let j =
    part-joins x store (part_at s.fields i b) (field_at Within s.fields i w b) (field_at (Fits store) s.fields i e b) s i s.fields e (h refl) in
    record {
      gathers = rw (or-true (is_last x)) j.gathered;
      holds = j.holds;
      handed = rw (and-true (is_last x)) j.handed;
    }
fresh-leaves s i store false b w e h =
    let x = packet_at (sent s.fields) i in
    rw (marked-last s i x)
    (record {
      gathers = dropped-gathers (is_last x) _;
      holds = dropped-holds s.fields (is_last x) store _;
      handed = rw (and-false (is_last x));
    })

-- the counts
count-fresh : (l : List ℕ) (i f m : ℕ) → top l ≤ i → i < 2 ^ 31 → Counted l (f + m) → Counted (i ∷ l) ((f ⊞ 1) + (m ⊞ missing_before l i))
count-fresh [] i f m h b c = omega arith
count-fresh (k ∷ l) i f m h b c = omega arith

counted-le : (l : List ℕ) (a : ℕ) → Counted l a → a ≤ top l
counted-le [] a c = omega arith
counted-le (m ∷ l) a c = omega arith

leb-and-more : (a b k : ℕ) → a ≤ b → leb b k && leb a k ≡ leb b k
leb-and-more a b k h = go (leb b k) refl
  where
    go : (t : Bool) → leb b k ≡ t → t && leb a k ≡ t
    go true e = le-leb a k (omega (arith, leb-true b k e))
    go false e = refl

-- a state built of what is gathered has that gathered
pub gathered-after : (g : Gathered) → gathered_in (phase_of g) (timestamp_of g) (f_of g) (gathered_records g) (gathered_cells g) (gathered_packets g) ≡ g
gathered-after lost = refl
gathered-after ready = refl
gathered-after (filling t f r c n) = refl

module _ {earlier : List Handed} (s : Stream) (js l : List ℕ) (r : Run) (i : ℕ) (offered : List ℕ) (w : WellFormedStream s) (e : Each (Fits offered) s.fields) (v : Invariant s earlier js l r) (h : top l ≤ i) (b : i < length (sent s.fields)) (near : NearLast (packet i) l) where
  abbrev ps : List Sent
  ps = sent s.fields

  abbrev x : Sent
  x = packet_at ps i

  abbrev k : Content
  k = content_at s i x

  abbrev store : List ℕ
  store = store_in r offered

  abbrev from : Gathered
  from = cond (unbroken ps l i) (entering x) lost

  abbrev z : Gather
  z = follow from (carried k) (length store)

  abbrev left : List ℕ
  left = appended z.append from k store

  few : i < 2 ^ 31
  few = omega (arith, w.few)

  steps : packet_step r.state.heard r.state k store ≡ fresh_step r.state from (missing_before l i) k store
  steps =
      fresh_step_lem s l r.state i x store v.heard h near
      ∙ ap (λ (g : Gathered). fresh_step r.state g (missing_before l i) k store)
      (ap (λ (g : Gathered). found l i g) v.gathers ∙ finds s.fields l i h b v.none_above)

  lends : Holds s.fields (gathered r.state) store (cells_after ps l) × Each (Fits store) s.fields
  lends = store-holds s.fields (gathered r.state) r.store offered (cells_after ps l) v.holds e

  leaves : AfterFresh s.fields x (unbroken ps l i) z left
  leaves =
      fresh-leaves s i store (unbroken ps l i) b w.within lends.1
      (λ g.
      finds-cells s.fields l i store h b v.none_above
      (subst (λ (q : Gathered). Holds s.fields q store (cells_after ps l)) v.gathers lends.0)
      g)

  is-elem : eqb i i ≡ true
  is-elem = eq-eqb i i refl

  idle : handed_before ps l i ≡ handed_before ps l (top l)
  idle =
      let q : i ≡ (i - top l) + top l = omega arith in
      ap (λ (n : ℕ). handed_before ps l n) q ∙ handed-idle ps l (top l) (i - top l) v.none_above

  -- a fresh packet
  pub invariant-fresh : Invariant s earlier (i ∷ js) (i ∷ l) (done r (packet_step r.state.heard r.state k store))
  invariant-fresh =
      rw steps
      (record {
        sent_before = b;
        newer = λ n. rw (v.newer n) (leb-and-more (top l) (suc i) n (omega arith));
        none_above = λ n q. rw (ne_eqb n i (omega arith)) (v.none_above n (omega arith));
        source = v.source;
        type = v.type;
        heard = (refl, refl);
        records = ap gathered_records (sym (gathered-after z.gathered));
        cells = ap gathered_cells (sym (gathered-after z.gathered));
        packets = ap gathered_packets (sym (gathered-after z.gathered));
        gathers = gathered-after z.gathered ∙ rw (is-elem, unbroken-below ps l i i (omega arith)) leaves.gathers;
        holds = subst (λ (g : Gathered). Holds s.fields g left (joined_cells (up_to x))) (sym (gathered-after z.gathered)) leaves.holds;
        handed =
            rw (is-elem, unbroken-below ps l i i (omega arith), handed-below ps l i i (omega arith), idle)
            (ap₂ (λ (p q : List Handed). p ++ q) v.handed leaves.handed ∙ append_assoc earlier _ _);
        fresh = omega (arith, v.fresh, counted-le l _ v.missing, few);
        missing = count-fresh l i r.state.fresh r.state.missing h few v.missing;
        older = v.older;
        older_is = omega (arith, v.older_is);
        late = v.late;
      })
