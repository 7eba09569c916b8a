-- "From an outlet just opened, empty, any sequence of calls answers as eight queues and a pointer do."
use mathlib.Core.Path.{◌≡◌, refl, sym, ◌∙◌, ap, subst}
use mathlib.Core.Bool.{Bool, true, false, cond}
use mathlib.Core.List.{List, [], ◌∷◌, ◌++◌}
use Prim.Native.Nat.{ℕ, zero, suc, ◌+◌, ◌-◌, ◌*◌, ◌≤◌, ◌<◌}
use native.Mathlib.Omega.{arith}
use native.Mathlib.Numerals.{add-one}
use lib.Dec.{eqb, leb, ltb}
use lib.ListN.{length, get_or, set, replicate, length-set, drop, length-drop}
use lib.Seq.{length-take-le, take_at, get_or-set_same, get_or-set_other}
use borrow.Author.Tests.{eqb-true, eqb-false, eq-eqb, ltb-true, lt-ltb, leb-true, le-leb}
use Rattle.wire_spec.specs.Result.{Result, Ok, refuse, judge, ◌then◌}
use Rattle.wire_spec.proofs.ResultLaws.{Passed, and-true}
use Rattle.wire_spec.specs.Bits.{splice}
use Rattle.wire_spec.proofs.ListLaws.{length-splice}
use Rattle.egress_spec.specs.declared.state.State.{State}
use Rattle.egress_spec.specs.Queues.{Model, opened, memory_size, joined, without, offer_checks, offer, after_offer, step, Call, offering, taking, Answer, answers, behind, Turn, turn_at, turn, hand_out, after_take, handed}
use Rattle.egress_spec.specs.Places.{open_state, all_upto, used_below}
use Rattle.egress_spec.specs.Step.{free_slot, place_of, kept_state, offer_of, offered_of, memory_after, turn_of, turn_for, head_place, head_length, packet_at, left_state, take_of, taken_of, out_after}
use Rattle.egress_spec.specs.Calls.{offer_heard, take_heard, call, answers_from, answers_of}
use Rattle.egress_spec.proofs.Cases.{judge-both}
use Rattle.egress_spec.proofs.Circle.{behind-channel}
use Rattle.egress_spec.proofs.PlaceLaws.{numbers, head-fits, count_fits, next_fits, place-low, head-place, head-ready}
use Rattle.egress_spec.proofs.FreeLaws.{free_one}
use Rattle.egress_spec.proofs.Agreement.{queue_from, Agrees}
use Rattle.egress_spec.proofs.MemoryLaws.{taken_own, taken-other}
use Rattle.egress_spec.proofs.KeptLaws.{kept-own, kept-other}
use Rattle.egress_spec.proofs.KeptSound.{kept-sound}
use Rattle.egress_spec.proofs.LeftSound.{left-sound}

length-queue : (st : State) (m : List ℕ) (c n i : ℕ) → length (queue_from st m c n i) ≡ n
length-queue st m c zero i = refl
length-queue st m c (suc n) i = ap suc (length-queue st m c n (suc i))

module _ (st : State) (m : List ℕ) (q : Model) (a : Agrees st m q) where
  kept-agrees : (c : ℕ) (p : List ℕ) → c < 8 → 1 ≤ length p → length p ≤ 1024 → get_or st.counts c 0 < 8
      → Agrees (kept_state st c (free_slot st) (length p)) (splice m (1024 * free_slot st) p) (joined q c p)
  kept-agrees c p lc least most hn =
      let ok = numbers st a.sound in
      let hh = head-fits st c ok lc in
      let free = free_one st c a.sound lc hn in
      record {
        sound = kept-sound st c (length p) a.sound lc least most hh hn free a.counts a.slots a.lengths (place-low c (get_or st.heads c 0 + get_or st.counts c 0) lc);
        heads = a.heads;
        counts = simp length-set a.counts;
        slots = simp length-set a.slots;
        lengths = simp length-set a.lengths;
        memory = length-splice m (1024 * free_slot st) p (fits (free_slot st) free) ∙ a.memory;
        next = a.next;
        queues = λ d l. one d l (eqb d c) refl;
      }
    where
      fits : (s : ℕ) → s < 64 → 1024 * s + length p ≤ length m
      fits s h = omega (arith, a.memory)

      one : (d : ℕ) → d < 8 → (b : Bool) → eqb d c ≡ b
          → queue_from (kept_state st c (free_slot st) (length p)) (splice m (1024 * free_slot st) p) d (get_or (set st.counts c (get_or st.counts c 0 + 1)) d 0) 0
          ≡ cond b (q.queue c ++ (p ∷ [])) (q.queue d)
      one d l true e =
          let z = eqb-true d c e in
          rw z
          (ap (λ (n : ℕ). queue_from (kept_state st c (free_slot st) (length p)) (splice m (1024 * free_slot st) p) c n 0)
          (get_or-set_same st.counts c (get_or st.counts c 0 + 1) 0 (omega (arith, a.counts)) ∙ add-one (get_or st.counts c 0))
          ∙ kept-own st c m p a.sound lc a.memory most (head-fits st c (numbers st a.sound) lc) hn (free_one st c a.sound lc hn) a.slots a.lengths
          ∙ ap (λ (x : List (List ℕ)). x ++ (p ∷ [])) (a.queues c lc))
      one d l false e =
          let z = eqb-false d c e in
          rw (get_or-set_other st.counts c d (get_or st.counts c 0 + 1) 0 z)
          (kept-other st c m p a.sound lc a.memory most (head-fits st c (numbers st a.sound) lc) hn (free_one st c a.sound lc hn) a.slots a.lengths d l z
          (head-fits st d (numbers st a.sound) l) (count_fits st d (numbers st a.sound) l)
          ∙ a.queues d l)

  abbrev Both : (c : ℕ) (p : List ℕ) → Result State → Result Model → Type 0
  Both c p r s = Agrees (offered_of st r).state (memory_after st r p m) (after_offer q s).model × (offer_heard (offered_of st r).answer ≡ (after_offer q s).answer)

  pub offer-agrees : (c : ℕ) (p : List ℕ) → Both c p (offer_of st c (length p) (length m)) (offer q c p)
  offer-agrees c p = rw (eq-eqb (length m) 65536 a.memory, a.sound) (go (leb c 7) refl)
    where
      fits : c < 8 → Passed (offer_checks c (length p) (get_or st.counts c 0)) → Both c p (Ok (kept_state st c (free_slot st) (length p))) (Ok (joined q c p))
      fits h t =
          let size = and-true (leb 1 (length p)) (leb (length p) 1024) t.1.0 in
          (kept-agrees c p h (leb-true 1 (length p) size.0) (leb-true (length p) 1024 size.1) (ltb-true (get_or st.counts c 0) 8 t.1.1.0), refl)

      go : (b : Bool) → leb c 7 ≡ b
          → Both c p (judge 0 (offer_checks c (length p) (get_or st.counts c 0)) (Ok (kept_state st c (free_slot st) (length p)))) (offer q c p)
      go false e = rw e (a, refl)
      go true e =
          let h = leb-true c 7 e in
          let n : length (q.queue c) ≡ get_or st.counts c 0 = ap length (sym (a.queues c (omega arith))) ∙ length-queue st m c (get_or st.counts c 0) 0 in
          rw n
          (judge-both (Both c p) 0 (offer_checks c (length p) (get_or st.counts c 0)) (Ok (kept_state st c (free_slot st) (length p))) (Ok (joined q c p)) (λ n. (a, refl))
          (fits (omega arith)))

  -- whose turn it is, by the counts and by the queues
  pub data TurnAs (r : ℕ) (t : Result Turn) : Type 0 where
    nobody : r ≡ 8 → t ≡ refuse 63 0 → TurnAs r t
    somebody : (d : ℕ) → d < 8 → r ≡ d → (k : ℕ) → get_or st.counts d 0 ≡ suc k
        → t ≡ Ok (record { channel = d; packet = packet_at st m (place_of st d 0); rest = queue_from st m d k 1 }) → TurnAs r t

  turn-as : (n c : ℕ) → c < 8 → TurnAs (turn_of n st.counts c) (turn n q.queue c)
  unfolding turn_of
  turn-as zero c h = nobody refl refl
  turn-as (suc n) c h = go (get_or st.counts c 0) refl (turn-as n (behind c) (let b = behind-channel c in omega arith))
    where
      go : (x : ℕ) → get_or st.counts c 0 ≡ x → TurnAs (turn_of n st.counts (behind c)) (turn n q.queue (behind c))
          → TurnAs (cond (ltb 0 (get_or st.counts c 0)) c (turn_of n st.counts (behind c))) (turn_at c (q.queue c) (turn n q.queue (behind c)))
      go zero e i =
          let z : q.queue c ≡ [] = sym (a.queues c h) ∙ ap (λ (y : ℕ). queue_from st m c y 0) e in
          rw (z, e) i
      go (suc k) e i =
          let z : q.queue c ≡ packet_at st m (place_of st c 0) ∷ queue_from st m c k 1 = sym (a.queues c h) ∙ ap (λ (y : ℕ). queue_from st m c y 0) e in
          somebody c h (rw (lt-ltb 0 (get_or st.counts c 0) (omega arith))) k e (rw z)

  -- a channel's turn, by its place
  abbrev turn_from : ℕ → ℕ → Turn
  turn_from d k = record { channel = d; packet = packet_at st m (head_place st d); rest = queue_from st m d k 1 }

  left-agrees : (d k : ℕ) → d < 8 → get_or st.counts d 0 ≡ suc k → Agrees (left_state st d) m (without q (turn_from d k))
  left-agrees d k h e =
      let ok = numbers st a.sound in
      record {
        sound = left-sound st d a.sound h (head-fits st d ok h) (omega arith) (count_fits st d ok h) a.counts a.heads;
        heads = simp length-set a.heads;
        counts = simp length-set a.counts;
        slots = a.slots;
        lengths = a.lengths;
        memory = a.memory;
        next = refl;
        queues = λ c l. one c l (eqb c d) refl;
      }
    where
      one : (c : ℕ) → c < 8 → (b : Bool) → eqb c d ≡ b
          → queue_from (left_state st d) m c (get_or (set st.counts d (get_or st.counts d 0 - 1)) c 0) 0 ≡ cond b (queue_from st m d k 1) (q.queue c)
      one c l true z =
          let y = eqb-true c d z in
          let n : get_or st.counts d 0 - 1 ≡ k = omega arith in
          rw y
          (ap (λ (x : ℕ). queue_from (left_state st d) m d x 0) (get_or-set_same st.counts d (get_or st.counts d 0 - 1) 0 (omega (arith, a.counts)) ∙ n)
          ∙ taken_own st m d k (omega (arith, a.heads)) (head-fits st d (numbers st a.sound) h))
      one c l false z =
          let y = eqb-false c d z in
          ap (λ (x : ℕ). queue_from (left_state st d) m c x 0) (get_or-set_other st.counts d c (get_or st.counts d 0 - 1) 0 y) ∙ taken-other st m d c (get_or st.counts c 0) y ∙ a.queues c l

  abbrev BothTake : (out : List ℕ) → Result ℕ → Result Turn → Type 0
  BothTake out r s = Agrees (taken_of st r).state m (after_take q s).model × (take_heard (taken_of st r).answer (out_after st m r out) ≡ (after_take q s).answer)

  packet-size : (d k : ℕ) → d < 8 → get_or st.counts d 0 ≡ suc k → length (packet_at st m (head_place st d)) ≡ head_length st d
  packet-size d k h e =
      let r = head-ready st d a.sound h (omega arith) in
      length-take-le (head_length st d) (drop (1024 * get_or st.slots (head_place st d) 0) m)
      (rw (length-drop (1024 * get_or st.slots (head_place st d) 0) m) (room_in (get_or st.slots (head_place st d) 0) (head_length st d) (length m) r.slot r.most a.memory))
    where
      room_in : (s l n : ℕ) → s < 64 → l ≤ 1024 → n ≡ 65536 → l ≤ n - 1024 * s
      room_in s l n x y z = omega arith

  pub take-agrees : (out : List ℕ) → BothTake out (take_of st (length m) (length out)) (turn 8 q.queue q.next then hand_out (length out))
  take-agrees out =
      rw (eq-eqb (length m) 65536 a.memory, a.sound)
      (go (turn_for st) (turn 8 q.queue q.next)
      (subst (λ (x : ℕ). TurnAs (turn_for st) (turn 8 q.queue x)) a.next (turn-as 8 st.next (next_fits st a.sound))))
    where
      served : (d k : ℕ) → d < 8 → get_or st.counts d 0 ≡ suc k → (b : Bool)
          → BothTake out (cond b (Ok d) (refuse 23 0)) (cond b (Ok (turn_from d k)) (refuse 23 0))
      served d k h e false = (a, refl)
      served d k h e true = (
        left-agrees d k h e,
        ap (handed d) (take_at (packet_at st m (head_place st d)) (drop (length (packet_at st m (head_place st d))) out) (head_length st d) (packet-size d k h e)),
      )

      go : (r : ℕ) (t : Result Turn) → TurnAs r t
          → BothTake out (cond (leb r 7) (cond (leb (head_length st r) (length out)) (Ok r) (refuse 23 0)) (refuse 63 0)) (t then hand_out (length out))
      go r t (nobody x y) = rw (x, y) (a, refl)
      go r t (somebody d h x k e y) =
          let p : place_of st d 0 ≡ head_place st d = head-place d (get_or st.heads d 0) (head-fits st d (numbers st a.sound) h) in
          rw (x, y, le-leb d 7 (omega arith), p, packet-size d k h e) (served d k h e (leb (head_length st d) (length out)))

-- an outlet just opened
pub opened-agrees : (m : List ℕ) → length m ≡ memory_size → Agrees open_state m opened
unfolding all_upto used_below
opened-agrees m e = record { sound = refl; heads = refl; counts = refl; slots = refl; lengths = refl; memory = e; next = refl; queues = λ c l. none c }
  where
    zero-at : (n c : ℕ) → ◌≡◌ {A = ℕ} (get_or (replicate n 0) c 0) 0
    zero-at zero c = refl
    zero-at (suc n) zero = refl
    zero-at (suc n) (suc c) = zero-at n c

    none : (c : ℕ) → queue_from open_state m c (get_or open_state.counts c 0) 0 ≡ []
    none c = rw (zero-at 8 c)

-- one call
pub call-agrees : (st : State) (m : List ℕ) (q : Model) → Agrees st m q → (k : Call)
    → Agrees (call st m k).state (call st m k).memory (step q k).model × ((call st m k).answer ≡ (step q k).answer)
call-agrees st m q a (offering c p) = offer-agrees st m q a c p
call-agrees st m q a (taking out) = take-agrees st m q a out

pub run-agrees : (ks : List Call) (st : State) (m : List ℕ) (q : Model) → Agrees st m q → answers_from st m ks ≡ answers q ks
run-agrees [] st m q a = refl
run-agrees (k ∷ ks) st m q a =
    let c = call-agrees st m q a k in
    ap (λ (x : Answer). x ∷ answers_from (call st m k).state (call st m k).memory ks) c.1
    ∙ ap (λ (l : List Answer). (step q k).answer ∷ l) (run-agrees ks (call st m k).state (call st m k).memory (step q k).model c.0)

-- K10: from an outlet just opened any sequence of calls answers as eight queues and a pointer do
pub answers-as-queues : (m : List ℕ) → length m ≡ memory_size → (ks : List Call) → answers_of m ks ≡ answers opened ks
answers-as-queues m e ks = run-agrees ks open_state m opened (opened-agrees m e)
