-- Whatever octets arrive, no halves are joined.
-- What is gathered are the fresh packets behind a marked one (`GatherLaws`), from call to call; only the next packet joins them, and only with their timestamp and F.
use mathlib.Core.Path.{◌≡◌, refl, ap, ap₂, sym, subst, ◌∙◌}
use mathlib.Core.Bool.{Bool, true, false, true≢false, cond, ◌&&◌}
use mathlib.Core.List.{List, [], ◌∷◌, ◌++◌, append-nil, append_assoc}
use Prim.Native.Nat.{ℕ, ◌+◌, ◌-◌, ◌^◌, ◌%◌}
use native.Mathlib.Omega.{arith}
use borrow.Author.Tests.{eqb-true}
use lib.Dec.{eqb}
use lib.ListN.{length}
use Rattle.wire_spec.specs.Bits.{Below, splice}
use Rattle.wire_spec.specs.Layout.{Layout}
use Rattle.wire_spec.specs.Result.{Result, Err, Ok}
use Rattle.wire_spec.specs.Anc.{Each}
use Rattle.wire_spec.specs.Cells.{list_in}
use Rattle.wire_spec.specs.Packet.{Content, read_content}
use Rattle.wire_spec.proofs.ResultLaws.{and-true, judge-accepts}
use Rattle.wire_spec.proofs.ListLaws.{each_append}
use Rattle.depacketizer_spec.specs.declared.state.State.{State}
use Rattle.depacketizer_spec.specs.declared.state.Answer.{Answer}
use Rattle.depacketizer_spec.specs.declared.state.Answer.TheVariants as answer
use Rattle.depacketizer_spec.specs.Step.{Carried, Class, Gather, Gathered, Step, admission, admit, admitted_step, ahead, appended, carried, class_step, classify, distance, far, far_or_restart, filling, follow, fresh_step, gathered, is_remembered, join_fits, join_if_fits, join_if_same, late, lost, marked, next, open_state, packet_step, ready, sound, step, taken}
use Rattle.depacketizer_spec.specs.Stream.{Handed, Run, handed_by, store_for}
use Rattle.depacketizer_spec.proofs.StepLaws.{follow-answers, is_refusal, passed}
use Rattle.depacketizer_spec.proofs.FreshLaws.{gathered-after}
use Rattle.archive_laws.specs.Any.{Accepted, HandedAtLast, Heard, NoHalvesJoined, Octets, Offer, Vouched, VouchedIn, fresh_of, heard_by, if_fresh, offer_step, run_of, said_by}
use Rattle.archive_laws.proofs.GatherLaws.{Gathering, Gathers, Sized, completes, joins, lent-gathers, mark-is, next-number, no-mark-is, read-sized, takes-own}

-- WHAT A FRESH PACKET LEAVES
record Leaves (source type : ℕ) (fresh : List Heard) (last : ℕ) (z : Gather) (store : List ℕ) : Type 0 where
  pub gathers : Gathers source type fresh store last z.gathered
  pub vouches : Each (Vouched source type fresh) (handed_by z.answer store)

module _ (source type : ℕ) (fresh : List Heard) (store : List ℕ) (h : Heard) (a : Accepted source type h) (sized : Sized h.says) where
  abbrev k : Content
  k = h.says

  abbrev p : Carried
  p = carried k

  abbrev grown : List Heard
  grown = fresh ++ (h ∷ [])

  -- it may lead the next field
  led : (left : List ℕ) → k.marker ≡ 1 → (t f : ℕ) → Gathering source type grown left k.number t f 0 0 0
  led left m t f =
      record {
        before = fresh;
        lead = h;
        held = [];
        ends = refl;
        accepts = (a, tt);
        sequence = tt;
        leads = m;
        unmarked = tt;
        one = tt;
        records = refl;
        cells = refl;
        packets = refl;
        content = refl;
        inside = omega arith;
        final = refl;
        small = sized.0;
      }

  dropped-gathers : (left : List ℕ) (b : Bool) → marked k ≡ b → Gathers source type grown left k.number (cond b ready lost)
  dropped-gathers left true e = led left (mark-is k e)
  dropped-gathers left false e = tt

  module _ (last t f r c n : ℕ) (g : Gathering source type fresh store last t f r c n) (follows : k.number ≡ (last + 1) % 2 ^ 32) (one_time : k.timestamp ≡ t) (one-f : k.f ≡ f) where
    taken-leaves : join_fits r c n p (length store) ≡ true → (b : Bool) → marked k ≡ b
        → Leaves source type grown k.number (taken p (r + p.records) (c + p.cells) (n + 1)) (splice store c (list_in n k.records))
    taken-leaves ok true e =
        record {
          gathers = rw e (led (splice store c (list_in n k.records)) (mark-is k e));
          vouches = rw e (completes source type fresh store last t f r c n g h a follows sized one_time one-f ok (mark-is k e), tt);
        }
    taken-leaves ok false e =
        record {
          gathers =
              rw e
              (subst (λ (x : ℕ). Gathering source type grown (splice store c (list_in n k.records)) k.number x k.f (r + p.records) (c + p.cells) (n + 1)) (sym one_time)
              (subst (λ (x : ℕ). Gathering source type grown (splice store c (list_in n k.records)) k.number t x (r + p.records) (c + p.cells) (n + 1)) (sym one-f)
              (joins source type fresh store last t f r c n g h a follows sized one_time one-f ok (no-mark-is k sized.1 e))));
          vouches = rw e tt;
        }

    join-leaves : (b : Bool) → join_fits r c n p (length store) ≡ b
        → let z : Gather = join_if_fits b p (r + p.records) (c + p.cells) (n + 1) in
        Leaves source type grown k.number z (cond z.append (splice store c (list_in n k.records)) store)
    join-leaves true ok = taken-leaves ok (marked k) refl
    join-leaves false ok = record { gathers = dropped-gathers store (marked k) refl; vouches = tt }

-- what it finds gathered is lost, or it is the next
abbrev Follows : Gathered → (last number : ℕ) → Type 0
Follows lost last number = Unit {0}
Follows ready last number = number ≡ (last + 1) % 2 ^ 32
Follows (filling t f r c n) last number = number ≡ (last + 1) % 2 ^ 32

module _ (source type : ℕ) (fresh : List Heard) (store : List ℕ) (h : Heard) (a : Accepted source type h) (sized : Sized h.says) (last : ℕ) where
  abbrev said : Content
  said = h.says

  follow-leaves : (g : Gathered) → Gathers source type fresh store last g → Follows g last said.number
      → let z : Gather = follow g (carried said) (length store) in
      Leaves source type (fresh ++ (h ∷ [])) said.number z (appended z.append g said store)
  follow-leaves lost g e = record { gathers = dropped-gathers source type fresh store h a sized store (marked said) refl; vouches = tt }
  follow-leaves ready g e =
      join-leaves source type fresh store h a sized last said.timestamp said.f 0 0 0 (g said.timestamp said.f) e refl refl (join_fits 0 0 0 (carried said) (length store)) refl
  follow-leaves (filling t f r c n) g e = go (eqb t said.timestamp && eqb f said.f) refl
    where
      go : (b : Bool) → eqb t said.timestamp && eqb f said.f ≡ b
          → let z : Gather = join_if_same b r c n (carried said) (length store) in
          Leaves source type (fresh ++ (h ∷ [])) said.number z (appended z.append (filling t f r c n) said store)
      go true s =
          let q = and-true (eqb t said.timestamp) (eqb f said.f) s in
          join-leaves source type fresh store h a sized last t f r c n g e (sym (eqb-true t said.timestamp q.0)) (sym (eqb-true f said.f q.1))
          (join_fits r c n (carried said) (length store)) refl
      go false s = record { gathers = dropped-gathers source type fresh store h a sized store (marked said) refl; vouches = tt }

-- EVERY STEP keeps it so
pub record Keeps (source type : ℕ) (fresh : List Heard) (z : Step) : Type 0 where
  pub opened : z.state.source ≡ source
  pub typed : z.state.payload_type ≡ type
  pub gathers : Gathers source type fresh z.store z.state.last.0 (gathered z.state)
  pub vouches : Each (Vouched source type fresh) (handed_by z.answer z.store)

pub if-fresh : (a : Answer) (l : List Heard) → is_refusal a ≡ false → if_fresh a l ≡ l
if-fresh answer.Skipped l e = refl
if-fresh answer.Held l e = refl
if-fresh answer.Mixed l e = refl
if-fresh answer.Overfull l e = refl
if-fresh (answer.Whole x) l e = refl
if-fresh (answer.Refused x) l e = absurd (true≢false e)

module _ (source type : ℕ) (fresh : List Heard) (L : Layout) (octets store : List ℕ) (below : Below 256 octets) (st : State) (is-source : st.source ≡ source) (is-type : st.payload_type ≡ type)
    (g : Gathers source type fresh store st.last.0 (gathered st)) where
  -- a step, and the fresh packets with it
  abbrev Kept : Step → Type 0
  Kept z = Keeps source type (fresh ++ heard_by L octets z.answer) z

  -- a refusal adds none
  keeps_on : (z : Step) → ((l : List Heard) → if_fresh z.answer l ≡ []) → Keeps source type fresh z → Kept z
  keeps_on z none k = subst (λ (l : List Heard). Keeps source type l z) (sym (ap (λ (l : List Heard). fresh ++ l) (none (said_by L octets (read_content L octets))) ∙ append-nil fresh)) k

  module _ (k : Content) (admits : admit L st.source st.payload_type octets ≡ Ok k) (reads : read_content L octets ≡ Ok k) where
    abbrev h : Heard
    h = record { layout = L; octets = octets; says = k }

    takes : Accepted source type h
    takes = takes-own L source type octets k (ap₂ (λ (x y : ℕ). admit L x y octets) (sym is-source) (sym is-type) ∙ admits)

    fresh_keeps : (from : State) (missing : ℕ) → from.source ≡ source → from.payload_type ≡ type → (last : ℕ) (found : Gathered) → Gathers source type fresh store last found → Follows found last k.number
        → Kept (fresh_step from found missing k store)
    fresh_keeps from missing s t last found held next-to =
        let z = follow found (carried k) (length store) in
        let l = follow-leaves source type fresh store h takes (read-sized L octets below k reads) last found held next-to in
        let grows : fresh ++ heard_by L octets z.answer ≡ fresh ++ (h ∷ []) =
        ap (λ (m : List Heard). fresh ++ m) (if-fresh z.answer (said_by L octets (read_content L octets)) (follow-answers found (carried k) (length store)) ∙ ap (said_by L octets) reads) in
        subst (λ (m : List Heard). Keeps source type m (fresh_step from found missing k store)) (sym grows)
        (record {
          opened = s;
          typed = t;
          gathers = subst (Gathers source type (fresh ++ (h ∷ [])) (fresh_step from found missing k store).store k.number) (sym (gathered-after z.gathered)) l.gathers;
          vouches = l.vouches;
        })

    far-keeps : (b : Bool) → Kept (far_or_restart b st k store)
    far-keeps true = fresh_keeps (open_state st.source st.payload_type) 0 is-source is-type 0 lost tt tt
    far-keeps false = keeps_on (far_or_restart false st k store) (λ l. refl) (record { opened = is-source; typed = is-type; gathers = g; vouches = tt })

    next-follows : (x : Gathered) → Gathers source type fresh store st.last.0 x → classify (distance st.last.0 k.number) ≡ next → Follows x st.last.0 k.number
    next-follows lost y e = tt
    next-follows ready y e = next-number st.last.0 k.number (y 0 0).small (read-sized L octets below k reads).0 e
    next-follows (filling t f r c n) y e = next-number st.last.0 k.number y.small (read-sized L octets below k reads).0 e

    class-keeps : (c : Class) → classify (distance st.last.0 k.number) ≡ c → Kept (class_step c st k store)
    class-keeps late e = keeps_on (class_step late st k store) (λ l. refl) (record { opened = is-source; typed = is-type; gathers = g; vouches = tt })
    class-keeps next e = fresh_keeps st 0 is-source is-type st.last.0 (gathered st) g (next-follows (gathered st) g e)
    class-keeps far e = far-keeps (is_remembered st k.number)
    class-keeps (ahead n) e = fresh_keeps st n is-source is-type 0 lost tt tt

    packet-keeps : (b : Bool) → Kept (packet_step b st k store)
    packet-keeps false = fresh_keeps st 0 is-source is-type 0 lost tt tt
    packet-keeps true = class-keeps (classify (distance st.last.0 k.number)) refl

  admitted-keeps : (r : Result Content) → admission st L (length store) octets ≡ r → Kept (admitted_step st r store)
  admitted-keeps (Err x) e = keeps_on (admitted_step st (Err x) store) (λ l. refl) (record { opened = is-source; typed = is-type; gathers = g; vouches = tt })
  admitted-keeps (Ok k) e =
      packet-keeps k (judge-accepts 0 ((sound st (length store), 35) ∷ []) (admit L st.source st.payload_type octets) k e).1 (passed st L (length store) octets k e).1 st.heard

  pub step_keeps : Kept (step st L octets store)
  unfolding step
  step_keeps = admitted-keeps (admission st L (length store) octets) refl

-- THE WHOLE RUN
pub record Holds (source type : ℕ) (fresh : List Heard) (r : Run) : Type 0 where
  pub opened : r.state.source ≡ source
  pub typed : r.state.payload_type ≡ type
  pub gathers : Gathers source type fresh r.store r.state.last.0 (gathered r.state)
  pub vouches : Each (VouchedIn source type fresh) r.handed

pub longer : (source type : ℕ) (fresh more : List Heard) (l : List Handed) → Each (VouchedIn source type fresh) l → Each (VouchedIn source type (fresh ++ more)) l
longer source type fresh more [] h = tt
longer source type fresh more (x ∷ l) h =
    ((h.0.0, h.0.1 ++ more, ap (λ (y : List Heard). y ++ more) h.0.2 ∙ append_assoc h.0.0 h.0.1 more, h.0.3), longer source type fresh more l h.1)

pub up-to-here : (source type : ℕ) (fresh : List Heard) (l : List Handed) → Each (Vouched source type fresh) l → Each (VouchedIn source type fresh) l
up-to-here source type fresh [] h = tt
up-to-here source type fresh (x ∷ l) h = ((fresh, [], sym (append-nil fresh), h.0), up-to-here source type fresh l h.1)

pub keeps : (source type : ℕ) (c : Offer) (cs : List Offer) → Octets c → Holds source type (fresh_of source type cs) (run_of source type cs)
    → Keeps source type (fresh_of source type (c ∷ cs)) (offer_step (run_of source type cs) c)
keeps source type c cs below v =
    let r = run_of source type cs in
    step_keeps source type (fresh_of source type cs) c.layout c.octets (store_for (gathered r.state) r.store c.store) below r.state v.opened v.typed
    (lent-gathers source type (fresh_of source type cs) r.store c.store r.state.last.0 (gathered r.state) v.gathers)

pub holds : (source type : ℕ) (cs : List Offer) → Each Octets cs → Holds source type (fresh_of source type cs) (run_of source type cs)
holds source type [] b = record { opened = refl; typed = refl; gathers = tt; vouches = tt }
holds source type (c ∷ cs) b =
    let v = holds source type cs b.1 in
    let r = run_of source type cs in
    let z = offer_step r c in
    let w = keeps source type c cs b.0 v in
    let all = fresh_of source type (c ∷ cs) in
    record {
      opened = w.opened;
      typed = w.typed;
      gathers = w.gathers;
      vouches =
          each_append (VouchedIn source type all) r.handed (handed_by z.answer z.store)
          (longer source type (fresh_of source type cs) (heard_by c.layout c.octets z.answer) r.handed v.vouches)
          (up-to-here source type all (handed_by z.answer z.store) w.vouches);
    }

-- NO HALVES ARE JOINED
pub no-halves-joined : NoHalvesJoined
no-halves-joined source type cs b = (holds source type cs b).vouches

pub handed-at-last : HandedAtLast
handed-at-last source type c cs b = (keeps source type c cs b.0 (holds source type cs b.1)).vouches
