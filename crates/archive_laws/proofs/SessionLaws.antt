-- The session of a recording runs as demand 3's calls: what it hands out is what demand 3 expects.
-- By the run's invariant, packet by packet; before the depacketizer is open the session waits as one just opened would.
use mathlib.Core.Path.{◌≡◌, refl, ap, ap₂, sym, subst, ◌∙◌}
use mathlib.Core.List.{List, [], ◌∷◌, ◌++◌, append-nil, append_assoc, map}
use Prim.Native.Nat.{ℕ, ◌+◌, ◌≤◌}
use native.Mathlib.Omega.{arith}
use borrow.Author.Tests.{le-leb}
use lib.ListN.{length}
use Rattle.wire_spec.specs.declared.refusal.Refusal.{Refusal}
use Rattle.wire_spec.specs.Bits.{Below}
use Rattle.wire_spec.specs.Layout.{Layout}
use Rattle.wire_spec.specs.Result.{Err, Ok, Result}
use Rattle.wire_spec.specs.Anc.{Each}
use Rattle.wire_spec.specs.Packet.{Content, Packet, WellFormedPacket, read_content}
use Rattle.wire_spec.specs.Writing.{max_field_cells, max_type}
use Rattle.wire_spec.proofs.Demand2.{acceptance}
use Rattle.depacketizer.specs.declared.state.Depacketizer.{Depacketizer}
use Rattle.depacketizer.specs.Answers.{opened_of}
use Rattle.depacketizer_spec.specs.Step.{Gathered, lost, ready, filling, Step, admission, gathered, open_of, open_state, step}
use Rattle.depacketizer_spec.specs.Stream.{Field, Stream, content_at, nth, Within, Fits, WellFormedStream, Arriving, other, packet, OfStream, Call, Calls, none, ◌before◌, Handed, handed_by, Run, store_for, octets_of, layout_of, done, call_step, open_run, arrived, fresh, expected, Near}
use Rattle.depacketizer_spec.proofs.CheckLaws.{length-after}
use Rattle.depacketizer_spec.proofs.StepLaws.{unchanged, step-refused}
use Rattle.depacketizer_spec.proofs.RunInvariant.{Invariant, invariant-open}
use Rattle.depacketizer_spec.proofs.Demand3.{demand3-after, invariant-call}
use Rattle.fieldlist_session.specs.declared.session.Session.{Session}
use Rattle.fieldlist_session.specs.declared.session.Session.TheVariants as session
use Rattle.fieldlist_session.specs.Session.{entered, number_of, turn, turn_by}
use Rattle.fieldsave_laws.specs.Filed.{whole_at, wholes_of}
use Rattle.archive_laws.specs.Archive.{OpenedByStream, Recorded, calls_of, calls_on}

-- AN OPEN SESSION: one packet is one step
abbrev pub open_at : Layout → (source type : ℕ) → Session
open_at L source type = session.Open L (record { state = open_state source type })

pub open_turn : (L : Layout) (d : Depacketizer) (p store : List ℕ) (ps : List (List ℕ))
    → let x : Step = step d.state L p store in
    wholes_of (session.Open L d) store (p ∷ ps) ≡ handed_by x.answer x.store ++ wholes_of (session.Open L (record { state = x.state })) x.store ps
unfolding turn
open_turn L d p store ps = refl

-- "A payload type has seven bits, so opening is not refused."
packet-type : (L : Layout) (k : Packet) → WellFormedPacket L k → k.type ≤ max_type
packet-type L k h = omega (arith, h.fit)

read-type : (L : Layout) (o : List ℕ) → Below 256 o → (k : Content) → read_content L o ≡ Ok k → k.type ≤ max_type
read-type L o below k e =
    let a = (acceptance L o below k).0 e in
    subst (λ (y : Content). y.type ≤ max_type) a.3 (packet-type L a.0 a.1)

-- A WAITING SESSION at a packet that is refused, and at one that opens it
wait-refused : (L : Layout) (source type : ℕ) (p store : List ℕ) (ps : List (List ℕ)) (x : Refusal) → read_content L p ≡ Err x
    → (wholes_of (session.Waiting L) store (p ∷ ps) ≡ wholes_of (session.Waiting L) store ps)
    × (wholes_of (open_at L source type) store (p ∷ ps) ≡ wholes_of (open_at L source type) store ps)
unfolding turn
wait-refused L source type p store ps x e =
    let refuses : admission (open_state source type) L (length store) p ≡ Err x = rw (e, le-leb 0 (length store) (omega arith)) in
    let unmoved : step (open_state source type) L p store ≡ unchanged (open_state source type) store x = step-refused (open_state source type) L p store x refuses in
    (rw e, open_turn L (record { state = open_state source type }) p store ps ∙ rw unmoved)

wait-opens : (L : Layout) (source type : ℕ) (p store : List ℕ) (ps : List (List ℕ)) (k : Content) → read_content L p ≡ Ok k → k.source ≡ source → k.type ≡ type → type ≤ max_type
    → wholes_of (session.Waiting L) store (p ∷ ps) ≡ wholes_of (open_at L source type) store (p ∷ ps)
unfolding turn
wait-opens L source type p store ps k e a b h =
    let n = number_of (read_content L p) in
    let opens : entered (session.Waiting L) (read_content L p) ≡ Ok (record { state = open_state source type }) =
    ap (entered (session.Waiting L)) e ∙ ap₂ (λ (x y : ℕ). opened_of (open_of x y)) a b ∙ rw (le-leb type max_type h) in
    ap (λ (o : Result Depacketizer). whole_at L p store o ++ wholes_of (turn_by (session.Waiting L) n p store o).session (turn_by (session.Waiting L) n p store o).store ps) opens

module _ (s : Stream) (w : WellFormedStream s) where
  -- a session that the stream opens hands out what one that was open for it does
  pub opened-alike : (tape : List Arriving) (store : List ℕ) → Each (Recorded s) tape → OpenedByStream s tape → Each (Below 256) (map (octets_of s) tape)
      → wholes_of (session.Waiting s.layout) store (map (octets_of s) tape) ≡ wholes_of (open_at s.layout s.source s.type) store (map (octets_of s) tape)
  opened-alike [] store r o b = refl
  opened-alike (other L p ∷ tape) store r o b =
      let q = wait-refused s.layout s.source s.type p store (map (octets_of s) tape) o.0 o.1 in
      q.0 ∙ opened-alike tape store r.1 o.2 b.1 ∙ sym q.1
  opened-alike (packet i ∷ tape) store r o b =
      let e = w.accepts i r.0 in
      wait-opens s.layout s.source s.type (octets_of s (packet i)) store (map (octets_of s) tape) (content_at s i (nth s i)) e refl refl
      (read-type s.layout (octets_of s (packet i)) b.0 (content_at s i (nth s i)) e)

-- EACH PACKET IS A CALL that is lent the store as the call before left it
store_same : (g : Gathered) (store : List ℕ) → store_for g store store ≡ store
store_same lost store = refl
store_same ready store = refl
store_same (filling t f r c n) store = refl

layout-same : (s : Stream) (a : Arriving) → Recorded s a → layout_of s a ≡ s.layout
layout-same s (other L o) h = h.0
layout-same s (packet i) h = refl

of-stream : (s : Stream) (a : Arriving) → Recorded s a → OfStream s a
of-stream s (other L o) h = h.1
of-stream s (packet i) h = h

abbrev call_at : Run → Arriving → Call
call_at r a = record { arriving = a; store = r.store }

call-is : (s : Stream) (r : Run) (a : Arriving) → Recorded s a → call_step s r (call_at r a) ≡ step r.state s.layout (octets_of s a) r.store
call-is s r a h =
    ap₂ (λ (L : Layout) (t : List ℕ). step r.state L (octets_of s a) t) (layout-same s a h) (store_same (gathered r.state) r.store)

all_fit : (store : List ℕ) → max_field_cells ≤ length store → (xs : List Field) → Each Within xs → Each (Fits store) xs
all_fit store h [] w = tt
all_fit store h (x ∷ xs) w = (omega (arith, h, w.0.1), all_fit store h xs w.1)

near-front : (cs : Calls) (tape : List Arriving) → Near (calls_on cs tape) → Near cs
near-front cs [] h = h
near-front cs (a ∷ tape) h = (near-front (cs before record { arriving = a; store = [] }) tape h).0

record Ran (s : Stream) (cs : Calls) (r : Run) (tape : List Arriving) : Type 0 where
  pub end : Run
  pub holds : Invariant s [] (arrived (calls_on cs tape)) (fresh (calls_on cs tape)) end
  pub handed : end.handed ≡ r.handed ++ wholes_of (session.Open s.layout (record { state = r.state })) r.store (map (octets_of s) tape)

ran : (s : Stream) → WellFormedStream s → (tape : List Arriving) → Each (Recorded s) tape → (cs : Calls) → Near (calls_on cs tape) → (r : Run) → max_field_cells ≤ length r.store
    → Invariant s [] (arrived cs) (fresh cs) r → Ran s cs r tape
ran s w [] h cs near r room v = record { end = r; holds = v; handed = sym (append-nil r.handed) }
ran s w (a ∷ tape) h cs near r room v =
    let z : Step = step r.state s.layout (octets_of s a) r.store in
    let d : Depacketizer = record { state = r.state } in
    let fits = all_fit r.store room s.fields w.within in
    let next : Invariant s [] (arrived (cs before record { arriving = a; store = [] })) (fresh (cs before record { arriving = a; store = [] })) (done r z) =
    subst (λ (y : Step). Invariant s [] (arrived (cs before record { arriving = a; store = [] })) (fresh (cs before record { arriving = a; store = [] })) (done r y)) (call-is s r a h.0)
    (invariant-call s (arrived cs) (fresh cs) r (call_at r a) w (of-stream s a h.0) fits (near-front (cs before record { arriving = a; store = [] }) tape near).1 v) in
    let more = ran s w tape h.1 (cs before record { arriving = a; store = [] }) near (done r z)
    (subst (λ (n : ℕ). max_field_cells ≤ n) (sym (length-after r.state s.layout (octets_of s a) r.store)) room) next in
    record {
      end = more.end;
      holds = more.holds;
      handed =
          more.handed
          ∙ append_assoc r.handed (handed_by z.answer z.store) (wholes_of (session.Open s.layout (record { state = z.state })) z.store (map (octets_of s) tape))
          ∙ ap (λ (l : List Handed). r.handed ++ l) (sym (open_turn s.layout d (octets_of s a) r.store (map (octets_of s) tape)));
    }

-- WHAT THE SESSION HANDS OUT is what demand 3 expects
pub session-hands : (s : Stream) → WellFormedStream s → (tape : List Arriving) → Each (Recorded s) tape → OpenedByStream s tape → Near (calls_of tape)
    → Each (Below 256) (map (octets_of s) tape) → (store : List ℕ) → max_field_cells ≤ length store
    → wholes_of (session.Waiting s.layout) store (map (octets_of s) tape) ≡ expected 0 s.fields (fresh (calls_of tape))
session-hands s w tape h o near b store room =
    let r = ran s w tape h none near (open_run s store []) room (invariant-open s store []) in
    opened-alike s w tape store h o b ∙ sym r.handed ∙ (demand3-after s (calls_of tape) r.end r.holds).handed
