-- 02, K10, of the calls' answers from an outlet just opened, whatever its memory held.
use mathlib.Core.Path.{◌≡◌, refl, sym, ◌∙◌, ap, subst}
use mathlib.Core.Bool.{Bool, true, false, cond}
use mathlib.Core.List.{List, [], ◌∷◌}
use Prim.Native.Nat.{ℕ, zero, suc, ◌-◌, ◌*◌, ◌≤◌, ◌<◌}
use native.Mathlib.Omega.{arith}
use lib.Dec.{eqb, leb, ltb}
use lib.ListN.{length, get_or, take, drop, length-drop}
use lib.Seq.{length-take-le, take_at, drop_at}
use borrow.Author.Tests.{eqb-true, leb-true, ltb-true}
use Rattle.wire_spec.specs.declared.refusal.Refusal.{Refusal}
use Rattle.wire_spec.specs.Bits.{overwrite, splice}
use Rattle.wire_spec.specs.Result.{Result, Err, Ok, refuse, ◌then◌}
use Rattle.wire_spec.proofs.ResultLaws.{accepted-inj, judge-accepts}
use Rattle.egress_spec.specs.declared.state.State.{State}
use Rattle.egress_spec.specs.Queues.{Model, opened, channels, slot_count, slot_size, memory_size, offer_checks, Turn, turn, behind, hand_out, Call, offering, taking, Answer, copied, handed, no, after_take, after, answers}
use Rattle.egress_spec.specs.Places.{held, slot_at, sound}
use Rattle.egress_spec.specs.Step.{admits, kept_state, offer_of, offered_of, take_of, taken_of, out_after, free_slot, turn_of, turn_for, head_place, head_length, packet_at}
use Rattle.egress_spec.specs.Calls.{offer_heard, take_heard, lent_to, call, answers_of, answers_behind}
use Rattle.egress_spec.specs.Laws.{handed_out, Within, roomy_takes, waiting, own, holds, answer_to, served_last, in_circle, InTurn, NothingWaits}
use Rattle.egress_spec.proofs.Upto.{and_left, and_right}
use Rattle.egress_spec.proofs.PlaceLaws.{head-ready}
use Rattle.egress_spec.proofs.FreeLaws.{free_one, held-apart}
use Rattle.egress_spec.proofs.Circle.{from, from_all}
use Rattle.egress_spec.proofs.Simulation.{answers-as-queues}
use Rattle.egress_spec.proofs.Cases.{take_cases}
use Rattle.egress_spec.proofs.Turns as turns
use Rattle.egress_spec.proofs.Own as own
use Rattle.egress_spec.proofs.RoomLaws as room
use Rattle.egress_spec.proofs.RunLaws.{waits, behind-is}
use Rattle.egress_spec.proofs.PointerLaws.{Found, turn-found, turn-none, turn-empty, Behind, next_low, behind-last, circle-is}

-- the number of a refusal
abbrev number_of : Answer → ℕ
number_of copied = 0
number_of (handed c p) = 0
number_of (no x) = x.number

first : {a b : Answer} → a ∷ [] ≡ b ∷ [] → a ≡ b
first f = cc

module _ (m : List ℕ) (size : length m ≡ memory_size) where
  -- "A packet at its channel's head leaves within eight successful takes, whatever is offered meanwhile."
  pub fair : (before later : List Call) (c : ℕ) (x : List ℕ) (xs : List (List ℕ)) → c < channels
      → waiting c before (answers_of m before) ≡ x ∷ xs
      → 8 ≤ length (handed_out (answers_behind m before later))
      → Within 8 (record { channel = c; packet = x }) (handed_out (answers_behind m before later))
  fair before later c x xs h e g =
      rw (behind-is m size before later)
      (turns.fair before later c x xs (omega arith) (sym (waits m size c before) ∙ e) (rw (behind-is m size before later) at g))

  -- and takes are successful while it waits, where a slot's octets are lent
  pub taken-while-waiting : (before : List Call) (out : List ℕ) (c : ℕ) (x : List ℕ) (xs : List (List ℕ)) → c < channels
      → waiting c before (answers_of m before) ≡ x ∷ xs → slot_size ≤ length out
      → (d : ℕ) × (y : List ℕ) × (answers_behind m before (taking out ∷ []) ≡ handed d y ∷ [])
  taken-while-waiting before out c x xs h e r =
      let t = room.taken before out c x xs (omega arith) (sym (waits m size c before) ∙ e) r in
      (t.0, t.1, behind-is m size before (taking out ∷ []) ∙ ap (λ (a : Answer). a ∷ []) t.2)

  -- so eight of these, whatever is called between them, are enough
  pub in-time : (before later : List Call) (c : ℕ) (x : List ℕ) (xs : List (List ℕ)) → c < channels
      → waiting c before (answers_of m before) ≡ x ∷ xs → 8 ≤ roomy_takes later
      → Within 8 (record { channel = c; packet = x }) (handed_out (answers_behind m before later))
  in-time before later c x xs h e g =
      rw (behind-is m size before later) (room.in-time before later c x xs (omega arith) (sym (waits m size c before) ∙ e) g)

  -- "Whether an offer is taken depends only on its size, its channel number and that channel's own earlier offers and takes."
  pub by-its-own : (before : List Call) (c : ℕ) (p : List ℕ)
      → answers_behind m before (offering c p ∷ []) ≡ answer_to c (length p) (holds 0 (own c before (answers_of m before))) ∷ []
  by-its-own before c p =
      behind-is m size before (offering c p ∷ [])
      ∙ rw (answers-as-queues m size before) (ap (λ (a : Answer). a ∷ []) (own.by-its-own before c p))

  -- "the channels in a circle starting after the one served last, .. and passing over empty ones"
  pub in-turn : (before : List Call) (out : List ℕ) (c : ℕ) (p : List ℕ) → answers_behind m before (taking out ∷ []) ≡ handed c p ∷ [] → InTurn m before c p
  in-turn before out c p e =
      take_cases q (λ s. s.answer ≡ handed c p → InTurn m before c p) (λ x f. absurd (let z : ◌≡◌ {A = ℕ} 0 1 = cc in omega arith)) out
      (λ t z f. let ec : t.channel ≡ c = cc in let ep : t.packet ≡ p = cc in found t (turn-found 8 q.queue q.next t z) ec ep)
      (first (sym (behind-is m size before (taking out ∷ [])) ∙ e))
    where
      q : Model
      q = after opened before

      b : Behind (served_last (answers_of m before)) q
      b = rw (answers-as-queues m size before) (behind-last before)

      found : (t : Turn) → Found q.queue q.next 8 t → t.channel ≡ c → t.packet ≡ p → InTurn m before c p
      found t f ec ep =
          record {
            passes = f.passes;
            few = f.few;
            channel = sym ec ∙ f.channel ∙ circle-is (served_last (answers_of m before)) q b f.passes;
            empty = λ i h. waits m size (in_circle (served_last (answers_of m before)) i) before ∙ ap q.queue (sym (circle-is (served_last (answers_of m before)) q b i)) ∙ f.empty i h;
            rest = t.rest;
            head = waits m size c before ∙ ap q.queue (sym ec) ∙ f.head ∙ ap (λ (x : List ℕ). x ∷ t.rest) ep;
          }

  -- "63 nothing waits"
  pub nothing-waits : (before : List Call) (out : List ℕ) → NothingWaits m before
      → answers_behind m before (taking out ∷ []) ≡ no (record { number = 63; index = 0 }) ∷ []
  nothing-waits before out h =
      behind-is m size before (taking out ∷ [])
      ∙ rw (turn-empty 8 q.queue q.next (λ i l. sym (waits m size (from i q.next) before) ∙ h (from i q.next) (low i)))
    where
      q : Model
      q = after opened before

      low : (i : ℕ) → from i q.next < 8
      low i = rw (circle-is (served_last (answers opened before)) q (behind-last before) i) (omega arith)

  pub waits-nothing : (before : List Call) (out : List ℕ)
      → answers_behind m before (taking out ∷ []) ≡ no (record { number = 63; index = 0 }) ∷ [] → NothingWaits m before
  waits-nothing before out e c h =
      go (turn 8 (after opened before).queue (after opened before).next) refl (first (sym (behind-is m size before (taking out ∷ [])) ∙ e))
    where
      q : Model
      q = after opened before

      short : (t : Turn) (z : Bool) → (after_take q (cond z (Ok t) (refuse 23 0))).answer ≡ no (record { number = 63; index = 0 }) → ⊥
      short t true f = let z : ◌≡◌ {A = ℕ} 0 1 = cc in omega arith
      short t false f = let z : ◌≡◌ {A = ℕ} 23 63 = ap number_of f in omega arith

      here : (n : ℕ) × (n < 8) × (from n q.next ≡ c)
      here =
          let b = behind-last before in
          let l = next_low (served_last (answers opened before)) q b in
          from_all q.next c (omega arith) (omega arith)

      go : (r : Result Turn) → turn 8 q.queue q.next ≡ r → (after_take q (r then hand_out (length out))).answer ≡ no (record { number = 63; index = 0 })
          → waiting c before (answers_of m before) ≡ []
      go (Err x) z f =
          waits m size c before ∙ ap q.queue (sym here.2) ∙ turn-none 8 q.queue q.next here.0 (λ t y. let w : ◌≡◌ {A = ℕ} 0 1 = cc in omega arith) here.1
      go (Ok t) z f = absurd (short t (leb (length t.packet) (length out)) f)

-- so two runs in which the channel saw the same answer it alike
pub alike : (m n : List ℕ) → length m ≡ memory_size → length n ≡ memory_size → (ks js : List Call) (c : ℕ) (p r : List ℕ)
    → own c ks (answers_of m ks) ≡ own c js (answers_of n js) → length p ≡ length r
    → answers_behind m ks (offering c p ∷ []) ≡ answers_behind n js (offering c r ∷ [])
alike m n a b ks js c p r e f = by-its-own m a ks c p ∙ rw (e, f) (sym (by-its-own n b js c r))

-- "A refusal changes nothing.": of any state and memory
pub record Unchanged (st : State) (m : List ℕ) (k : Call) : Type 0 where
  pub state : (call st m k).state ≡ st
  pub memory : (call st m k).memory ≡ m
  pub lent : (call st m k).lent ≡ lent_to k

pub refusal-changes-nothing : (st : State) (m : List ℕ) (k : Call) (x : Refusal) → (call st m k).answer ≡ no x → Unchanged st m k
refusal-changes-nothing st m (offering c p) x e = go (offer_of st c (length p) (length m)) refl e
  where
    go : (r : Result State) → offer_of st c (length p) (length m) ≡ r → offer_heard (offered_of st r).answer ≡ no x → Unchanged st m (offering c p)
    go (Err y) z f = record { state = rw z; memory = rw z; lent = refl }
    go (Ok n) z f = absurd (let z : ◌≡◌ {A = ℕ} 0 1 = cc in omega arith)
refusal-changes-nothing st m (taking out) x e = go (take_of st (length m) (length out)) refl e
  where
    go : (r : Result ℕ) → take_of st (length m) (length out) ≡ r → take_heard (taken_of st r).answer (out_after st m r out) ≡ no x → Unchanged st m (taking out)
    go (Err y) z f = record { state = rw z; memory = refl; lent = rw z }
    go (Ok c) z f = absurd (let z : ◌≡◌ {A = ℕ} 0 1 = cc in omega arith)

-- "An offer is copied in or refused": into one slot that no packet held, and nothing else of the memory changes
pub record CopiedIn (st : State) (m : List ℕ) (c : ℕ) (p : List ℕ) : Type 0 where
  pub slot : ℕ
  pub low : slot < slot_count
  pub free : (k : ℕ) → k < slot_count → held st k ≡ true → slot_at st k ≡ slot → ⊥
  pub memory : (call st m (offering c p)).memory ≡ splice m (slot_size * slot) p

pub copied-in : (st : State) (m : List ℕ) (c : ℕ) (p : List ℕ) → (call st m (offering c p)).answer ≡ copied → CopiedIn st m c p
copied-in st m c p e = go (offer_of st c (length p) (length m)) refl e
  where
    go : (r : Result State) → offer_of st c (length p) (length m) ≡ r → offer_heard (offered_of st r).answer ≡ copied → CopiedIn st m c p
    go (Err y) z f = absurd (let z : ◌≡◌ {A = ℕ} 0 1 = cc in omega arith)
    go (Ok n) z f =
        let t = (judge-accepts 0 ((admits st (length m), 64) ∷ offer_checks c (length p) (get_or st.counts c 0)) (Ok (kept_state st c (free_slot st) (length p))) n z).0 in
        let l = leb-true c 7 t.1.0 in
        let low = free_one st c (and_right (eqb (length m) memory_size) (sound st) t.0) (omega arith) (ltb-true (get_or st.counts c 0) 8 t.1.1.1.0) in
        record { slot = free_slot st; low = low; free = λ k g h. held-apart st k low g h; memory = rw z }

-- whose turn it is holds a packet
turn_holds : (n : ℕ) (counts : List ℕ) (c : ℕ) → turn_of n counts c ≤ 7 → 0 < get_or counts (turn_of n counts c) 0
unfolding turn_of
turn_holds zero counts c h = absurd (omega arith)
turn_holds (suc n) counts c h = go (ltb 0 (get_or counts c 0)) refl h (turn_holds n counts (behind c))
  where
    go : (b : Bool) → ltb 0 (get_or counts c 0) ≡ b → cond b c (turn_of n counts (behind c)) ≤ 7
        → (turn_of n counts (behind c) ≤ 7 → 0 < get_or counts (turn_of n counts (behind c)) 0) → 0 < get_or counts (cond b c (turn_of n counts (behind c))) 0
    go true e h ih = ltb-true 0 (get_or counts c 0) e
    go false e h ih = ih h

-- "a take hands out one packet": to the first octets of what is lent, and the others stay; of any state and memory
pub record HandedOut (st : State) (m out : List ℕ) (p : List ℕ) : Type 0 where
  pub fits : length p ≤ length out
  pub first : take (length p) (call st m (taking out)).lent ≡ p
  pub rest : drop (length p) (call st m (taking out)).lent ≡ drop (length p) out

pub handed_out_lem : (st : State) (m out : List ℕ) (c : ℕ) (p : List ℕ) → (call st m (taking out)).answer ≡ handed c p → HandedOut st m out p
handed_out_lem st m out c p e = go (take_of st (length m) (length out)) refl e
  where
    go : (r : Result ℕ) → take_of st (length m) (length out) ≡ r → take_heard (taken_of st r).answer (out_after st m r out) ≡ handed c p → HandedOut st m out p
    go (Err y) z f = absurd (let z : ◌≡◌ {A = ℕ} 0 1 = cc in omega arith)
    go (Ok d) z f =
        let j = judge-accepts 0 ((admits st (length m), 64) ∷ (leb (turn_for st) 7, 63) ∷ (leb (head_length st (turn_for st)) (length out), 23) ∷ []) (Ok (turn_for st)) d z in
        let same : turn_for st ≡ d = accepted-inj j.1 in
        let low = leb-true (turn_for st) 7 j.0.1.0 in
        let sized : length m ≡ memory_size = eqb-true (length m) memory_size (and_left (eqb (length m) memory_size) (sound st) j.0.0) in
        let r = head-ready st (turn_for st) (and_right (eqb (length m) memory_size) (sound st) j.0.0) (omega arith) (turn_holds 8 st.counts st.next low) in
        let packet = packet_at st m (head_place st (turn_for st)) in
        let n = head_length st (turn_for st) in
        let long : length packet ≡ n = length-take-le n (drop (1024 * get_or st.slots (head_place st (turn_for st)) 0) m)
        (rw (length-drop (1024 * get_or st.slots (head_place st (turn_for st)) 0) m) (room_in (get_or st.slots (head_place st (turn_for st)) 0) n (length m) r.slot r.most sized)) in
        let left : (call st m (taking out)).lent ≡ overwrite packet out = ap (λ (y : Result ℕ). out_after st m y out) z ∙ ap (λ (y : ℕ). overwrite (packet_at st m (head_place st y)) out) (sym same) in
        let q : take (head_length st d) (out_after st m (Ok d) out) ≡ p = cc in
        let is : packet ≡ p =
        sym (take_at packet (drop (length packet) out) n long) ∙ ap (λ (y : ℕ). take (head_length st y) (overwrite (packet_at st m (head_place st y)) out)) same ∙ q in
        record {
          fits = subst (λ (l : List ℕ). length l ≤ length out) is (omega (arith, long, leb-true n (length out) j.0.1.1.0));
          first = subst (λ (l : List ℕ). take (length l) (call st m (taking out)).lent ≡ l) is (ap (take (length packet)) left ∙ take_at packet (drop (length packet) out) (length packet) refl);
          rest = subst (λ (l : List ℕ). drop (length l) (call st m (taking out)).lent ≡ drop (length l) out) is (ap (drop (length packet)) left ∙ drop_at packet (drop (length packet) out) (length packet) refl);
        }
      where
        room_in : (s l n : ℕ) → s < 64 → l ≤ 1024 → n ≡ 65536 → l ≤ n - 1024 * s
        room_in s l n x y z = omega arith
