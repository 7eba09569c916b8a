-- What holds after each call of a run, and what an arrival that is refused leaves of it.
-- The invariant: what is gathered, its cells, the counts and what was handed out are told by the fresh packets' indices.
use mathlib.Core.Path.{◌≡◌, refl, ◌∙◌, ap, ap₂, sym}
use mathlib.Core.Bool.{Bool, true, false, cond, ◌&&◌, ◌||◌}
use mathlib.Core.List.{List, [], ◌∷◌, ◌++◌, append-nil}
use Prim.Native.Nat.{ℕ, suc, ◌+◌, ◌^◌, ◌%◌, ◌≤◌, ◌<◌, min}
use native.Mathlib.Nat.{not-suc-le-zero}
use native.Mathlib.Omega.{arith}
use lib.Dec.{eqb, leb}
use lib.ListN.{length}
use borrow.Author.Tests.{le-leb, lt-leb, leb-false}
use Rattle.wire_spec.specs.declared.refusal.Refusal.{Refusal}
use Rattle.wire_spec.specs.Anc.{Each}
use Rattle.wire_spec.specs.Cells.{all_below}
use Rattle.wire_spec.specs.Packet.{Content}
use Rattle.depacketizer_spec.specs.declared.state.State.{State}
use Rattle.depacketizer_spec.specs.declared.state.Phase.{Phase}
use Rattle.depacketizer_spec.specs.declared.state.Phase.TheVariants as phase
use Rattle.depacketizer_spec.specs.Step.{max_count, Gathered, lost, ready, filling, gathered_in, gathered, phase_of, gathered_records, gathered_cells, gathered_packets, fits, is_filling, is_lost, packets_ok, sound, classify, distance, class_step, late_step, packet_step}
use Rattle.depacketizer_spec.specs.Stream.{Field, joined_cells, Sent, sent, Stream, content_at, Within, Fits, WellFormedStream, packet, NearLast, Handed, Run, open_run, store_for, done, earliest}
use Rattle.depacketizer_spec.proofs.FitLaws.{sound_in, sound-lost, sound-heard}
use Rattle.depacketizer_spec.proofs.DistanceLaws.{class-late}
use Rattle.depacketizer_spec.proofs.WalkLaws.{packet_at, unbroken, handed_before, NoneFrom}
use Rattle.depacketizer_spec.proofs.PlaceLaws.{up_to, leaving, Holds, part_at, field_at}
use Rattle.depacketizer_spec.proofs.JoinLaws.{leaving-fits}
use Rattle.depacketizer_spec.proofs.StepLaws.{unchanged}

-- one past the last fresh packet
abbrev pub top : List ℕ → ℕ
top [] = 0
top (m ∷ l) = suc m

-- whether a packet was heard, and the last fresh one's number
abbrev pub LastHeard : Stream → List ℕ → Bool → ℕ → Type 0
LastHeard s [] heard last = heard ≡ false
LastHeard s (m ∷ l) heard last = (heard ≡ true) × (last ≡ (s.start + m) % 2 ^ 32)

-- what is gathered after the last fresh packet
abbrev pub gathered_after : List Sent → List ℕ → Gathered
gathered_after ps [] = lost
gathered_after ps (m ∷ l) = cond (unbroken ps (m ∷ l) (suc m)) (leaving (packet_at ps m)) lost

-- the cells of its field's parts up to it
abbrev pub cells_after : List Sent → List ℕ → List ℕ
cells_after ps [] = []
cells_after ps (m ∷ l) = joined_cells (up_to (packet_at ps m))

-- fresh and missing together
abbrev pub Counted : List ℕ → ℕ → Type 0
Counted [] a = a ≡ 0
Counted (m ∷ l) a = a + earliest m l ≡ suc m

-- after arrivals of the packets `js`, of them `l` fresh, each with the latest first; `earlier` had been handed out before them
pub record Invariant (s : Stream) (earlier : List Handed) (js l : List ℕ) (r : Run) : Type 0 where
  pub sent_before : top l ≤ length (sent s.fields)
  pub newer : (i : ℕ) → all_below i js ≡ leb (top l) i
  pub none_above : NoneFrom (top l) l
  pub source : r.state.source ≡ s.source
  pub type : r.state.payload_type ≡ s.type
  pub heard : LastHeard s l r.state.heard r.state.last.0
  pub records : r.state.records ≡ gathered_records (gathered r.state)
  pub cells : r.state.cells ≡ gathered_cells (gathered r.state)
  pub packets : r.state.packets ≡ gathered_packets (gathered r.state)
  pub gathers : gathered r.state ≡ gathered_after (sent s.fields) l
  pub holds : Holds s.fields (gathered r.state) r.store (cells_after (sent s.fields) l)
  pub handed : r.handed ≡ earlier ++ handed_before (sent s.fields) l (top l)
  pub fresh : r.state.fresh ≡ length l
  pub missing : Counted l (r.state.fresh + r.state.missing)
  pub older : ℕ
  pub older_is : length js ≡ length l + older
  pub late : r.state.late ≡ min older max_count

-- it holds of a state just opened
pub invariant-open : (s : Stream) (store : List ℕ) (earlier : List Handed) → Invariant s earlier [] [] (open_run s store earlier)
invariant-open s store earlier =
    record {
      sent_before = omega arith;
      newer = λ i. sym (le-leb 0 i (omega arith));
      none_above = λ i h. refl;
      source = refl;
      type = refl;
      heard = refl;
      records = refl;
      cells = refl;
      packets = refl;
      gathers = refl;
      holds = tt;
      handed = sym (append-nil earlier);
      fresh = refl;
      missing = refl;
      older = 0;
      older_is = refl;
      late = refl;
    }

-- the store that a call is lent holds what is gathered, and the fields fit it
pub store-holds : (xs : List Field) (g : Gathered) (left offered c : List ℕ) → Holds xs g left c → Each (Fits offered) xs
    → Holds xs g (store_for g left offered) c × Each (Fits (store_for g left offered)) xs
store-holds xs lost left offered c h e = (tt, e)
store-holds xs ready left offered c h e = (tt, e)
store-holds xs (filling t f r n m) left offered c h e = (h, h.1)

-- the store that a call is lent
abbrev pub store_in : Run → List ℕ → List ℕ
store_in r offered = store_for (gathered r.state) r.store offered

-- a step that changes nothing
pub invariant-refused : {earlier : List Handed} (s : Stream) (js l : List ℕ) (r : Run) (offered : List ℕ) (x : Refusal) → Each (Fits offered) s.fields
    → Invariant s earlier js l r → Invariant s earlier js l (done r (unchanged r.state (store_in r offered) x))
invariant-refused s js l r offered x e v =
    record {
      sent_before = v.sent_before;
      newer = v.newer;
      none_above = v.none_above;
      source = v.source;
      type = v.type;
      heard = v.heard;
      records = v.records;
      cells = v.cells;
      packets = v.packets;
      gathers = v.gathers;
      holds = (store-holds s.fields (gathered r.state) r.store offered _ v.holds e).0;
      handed = append-nil _ ∙ v.handed;
      fresh = v.fresh;
      missing = v.missing;
      older = v.older;
      older_is = v.older_is;
      late = v.late;
    }

leb-and-less : (a b k : ℕ) → a ≤ b → leb a k && leb b k ≡ leb b k
leb-and-less a b k h = go (leb a k) refl
  where
    go : (t : Bool) → leb a k ≡ t → t && leb b k ≡ leb b k
    go true e = refl
    go false e = sym (lt-leb b k (omega (arith, leb-false a k e)))

-- a sent packet that is not sent later than all that arrived, nor too long before the last fresh one, is late
pub late-step : {earlier : List Handed} (s : Stream) (js l : List ℕ) (r : Run) (i : ℕ) (store : List ℕ) → Invariant s earlier js l r → i < top l → NearLast (packet i) l
    → packet_step r.state.heard r.state (content_at s i (packet_at (sent s.fields) i)) store ≡ late_step r.state store
late-step s js [] r i store v h near = absurd (not-suc-le-zero h)
late-step s js (m ∷ l) r i store v h near =
    let k : Content = content_at s i (packet_at (sent s.fields) i) in
    ap (λ (b : Bool). packet_step b r.state k store) v.heard.0
    ∙ ap (λ (n : ℕ). class_step (classify (distance n k.number)) r.state k store) v.heard.1
    ∙ rw (class-late s.start m i (omega arith) near.1)

-- a late packet
pub invariant-late : {earlier : List Handed} (s : Stream) (js l : List ℕ) (r : Run) (i : ℕ) (offered : List ℕ) → Each (Fits offered) s.fields → i < top l
    → Invariant s earlier js l r → Invariant s earlier (i ∷ js) l (done r (late_step r.state (store_in r offered)))
invariant-late s js l r i offered e h v =
    record {
      sent_before = v.sent_before;
      newer = λ k. rw (v.newer k) (leb-and-less (suc i) (top l) k h);
      none_above = v.none_above;
      source = v.source;
      type = v.type;
      heard = v.heard;
      records = v.records;
      cells = v.cells;
      packets = v.packets;
      gathers = v.gathers;
      holds = (store-holds s.fields (gathered r.state) r.store offered _ v.holds e).0;
      handed = append-nil _ ∙ v.handed;
      fresh = v.fresh;
      missing = v.missing;
      older = suc v.older;
      older_is = omega (arith, v.older_is);
      late = omega (arith, v.late);
    }

phase-gathered : (p : Phase) (t f r c n : ℕ) → phase_of (gathered_in p t f r c n) ≡ p
phase-gathered phase.Lost t f r c n = refl
phase-gathered phase.Ready t f r c n = refl
phase-gathered phase.Filling t f r c n = refl

pub sound-gathered : (st : State) (room : ℕ) → st.records ≡ gathered_records (gathered st) → st.cells ≡ gathered_cells (gathered st)
    → st.packets ≡ gathered_packets (gathered st) → sound st room ≡ sound_in (gathered st) st.heard room
sound-gathered st room r c n =
    let g : Gathered = gathered st in
    let p : phase_of g ≡ st.phase = phase-gathered st.phase st.timestamp.0 st.f st.records st.cells st.packets in
    let by : (q : Phase) (a b m : ℕ) → Bool =
    λ q a b m. fits a b m room && (packets_ok q m && ((is_filling q || (eqb a 0 && eqb b 0)) && (st.heard || is_lost q))) in
    ap₂ (λ (a b : ℕ). by st.phase a b st.packets) r c
    ∙ ap (λ (m : ℕ). by st.phase (gathered_records g) (gathered_cells g) m) n
    ∙ ap (λ (q : Phase). by q (gathered_records g) (gathered_cells g) (gathered_packets g)) (sym p)

sound-after : (s : Stream) (l store : List ℕ) (heard : Bool) (last : ℕ) → WellFormedStream s → Each (Fits store) s.fields
    → top l ≤ length (sent s.fields) → LastHeard s l heard last
    → sound_in (gathered_after (sent s.fields) l) heard (length store) ≡ true
sound-after s [] store heard last w e b h = sound-lost heard (length store)
sound-after s (m ∷ l) store heard last w e b h = rw h.0 (go (unbroken (sent s.fields) (m ∷ l) (suc m)))
  where
    go : (t : Bool) → sound_in (cond t (leaving (packet_at (sent s.fields) m)) lost) true (length store) ≡ true
    go true =
        sound-heard (leaving (packet_at (sent s.fields) m)) (length store)
        (leaving-fits (packet_at (sent s.fields) m) store (part_at s.fields m b) (field_at Within s.fields m w.within b)
        (field_at (Fits store) s.fields m e b))
    go false = sound-lost true (length store)

-- check 35 passes
pub sound-run : {earlier : List Handed} (s : Stream) (js l : List ℕ) (r : Run) (offered : List ℕ) → WellFormedStream s → Each (Fits offered) s.fields
    → Invariant s earlier js l r → sound r.state (length (store_in r offered)) ≡ true
sound-run s js l r offered w e v =
    let t : List ℕ = store_in r offered in
    sound-gathered r.state (length t) v.records v.cells v.packets
    ∙ ap (λ (g : Gathered). sound_in g r.state.heard (length t)) v.gathers
    ∙ sound-after s l t r.state.heard r.state.last.0 w
    (store-holds s.fields (gathered r.state) r.store offered _ v.holds e).1
    v.sent_before
    v.heard
