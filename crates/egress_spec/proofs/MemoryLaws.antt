-- What a call leaves of the queues: a packet copied into a free slot changes no other, and a head taken off leaves the rest.
use mathlib.Core.Path.{◌≡◌, refl, sym, ◌∙◌, ap}
use mathlib.Core.Bool.{Bool, true, false, cond}
use mathlib.Core.List.{List, [], ◌∷◌, ◌++◌}
use Prim.Native.Nat.{ℕ, zero, suc, ◌+◌, ◌-◌, ◌*◌, ◌%◌, ◌≤◌, ◌<◌}
use native.Mathlib.Omega.{arith}
use native.Mathlib.Nat.{add-zero}
use lib.Dec.{ltb}
use lib.ListN.{length, get_or, take, drop}
use lib.Seq.{drop-drop, take_at, drop_at, length-take-le, get_or-set_same, get_or-set_other}
use borrow.Author.Tests.{ltb-true, ltb-false}
use Rattle.wire_spec.specs.Bits.{splice}
use Rattle.wire_spec.proofs.ListLaws.{drop-splice}
use Rattle.wire_spec.proofs.Window.{take-drop-take}
use Rattle.egress_spec.specs.declared.state.State.{State}
use Rattle.egress_spec.specs.Queues.{behind}
use Rattle.egress_spec.specs.Step.{place_of, packet_at, left_state}
use Rattle.egress_spec.proofs.Agreement.{queue_from}

-- a part of the memory before what is written, behind it, and what is written itself
pub part-before : (m p : List ℕ) (a b n : ℕ) → b + n ≤ a → a ≤ length m → take n (drop b (splice m a p)) ≡ take n (drop b m)
part-before m p a b n h l =
    sym (take-drop-take b n a (splice m a p) h)
    ∙ ap (λ (z : List ℕ). take n (drop b z)) (take_at (take a m) _ a (length-take-le a m l))
    ∙ take-drop-take b n a m h

pub part-behind : (m p : List ℕ) (a b n : ℕ) → a + length p ≤ b → a ≤ length m → take n (drop b (splice m a p)) ≡ take n (drop b m)
part-behind m p a b n h l =
    let e : a + length p + (b - (a + length p)) ≡ b = omega arith in
    let back : (z : List ℕ) → drop b z ≡ drop (b - (a + length p)) (drop (a + length p) z) =
    λ z. sym (drop-drop (b - (a + length p)) (a + length p) z ∙ ap (λ (k : ℕ). drop k z) e) in
    ap (take n) (back (splice m a p) ∙ ap (drop (b - (a + length p))) (drop-splice m a p l ∙ drop-drop (length p) a m) ∙ sym (back m))

pub part-itself : (m p : List ℕ) (a : ℕ) → a ≤ length m → take (length p) (drop a (splice m a p)) ≡ p
part-itself m p a l = ap (take (length p)) (drop_at (take a m) _ a (length-take-le a m l)) ∙ take_at p _ (length p) refl

-- another slot holds what it held
pub slot_kept : (m p : List ℕ) (s t n : ℕ) → length m ≡ 65536 → s < 64 → t < 64 → (t ≡ s → ⊥) → length p ≤ 1024 → n ≤ 1024
    → take n (drop (1024 * t) (splice m (1024 * s) p)) ≡ take n (drop (1024 * t) m)
slot_kept m p s t n l hs ht d hp hn = go (ltb t s) refl
  where
    go : (b : Bool) → ltb t s ≡ b → take n (drop (1024 * t) (splice m (1024 * s) p)) ≡ take n (drop (1024 * t) m)
    go true e = let h = ltb-true t s e in part-before m p (1024 * s) (1024 * t) n (omega arith) (omega arith)
    go false e = let h = ltb-false t s e in let k : s < t = apart t s h d in part-behind m p (1024 * s) (1024 * t) n (omega arith) (omega arith)
      where
        apart : (t s : ℕ) → s ≤ t → (t ≡ s → ⊥) → s < t
        apart t s h d = omega (arith, d)

-- queues of equal packets are equal
pub queue-same : (st u : State) (m v : List ℕ) (c n i j : ℕ) → ((k : ℕ) → k < n → packet_at st m (place_of st c (i + k)) ≡ packet_at u v (place_of u c (j + k)))
    → queue_from st m c n i ≡ queue_from u v c n j
queue-same st u m v c zero i j h = refl
queue-same st u m v c (suc n) i j h =
    let first = h 0 (omega arith) in
    let e : packet_at st m (place_of st c i) ≡ packet_at u v (place_of u c j) = rw (add-zero i, add-zero j) at first in
    let rest = queue-same st u m v c n (suc i) (suc j) (λ k l. let x : suc i + k ≡ i + suc k = omega arith in let y : suc j + k ≡ j + suc k = omega arith in rw (x, y) (h (suc k) (omega arith))) in
    ap (λ (z : List ℕ). z ∷ queue_from st m c n (suc i)) e ∙ ap (λ (z : List (List ℕ)). packet_at u v (place_of u c j) ∷ z) rest

-- one packet more at the end
pub queue-more : (st : State) (m : List ℕ) (c n i : ℕ) → queue_from st m c (suc n) i ≡ queue_from st m c n i ++ (packet_at st m (place_of st c (i + n)) ∷ [])
queue-more st m c zero i = rw (add-zero i)
queue-more st m c (suc n) i =
    let e : suc i + n ≡ i + suc n = omega arith in
    ap (λ (z : List (List ℕ)). packet_at st m (place_of st c i) ∷ z) (queue-more st m c n (suc i) ∙ ap (λ (k : ℕ). queue_from st m c n (suc i) ++ (packet_at st m (place_of st c k) ∷ [])) e)

round : (h k : ℕ) → h < 8 → (behind h + k) % 8 ≡ (h + suc k) % 8
round h k l = go (ltb h 7) refl
  where
    go : (b : Bool) → ltb h 7 ≡ b → (cond b (suc h) 0 + k) % 8 ≡ (h + suc k) % 8
    go true e = ap (λ (z : ℕ). z % 8) (let x : suc h + k ≡ h + suc k = omega arith in x)
    go false e = let g = ltb-false h 7 e in omega arith

-- the queue of the channel that is served, without its head
pub taken_own : (st : State) (m : List ℕ) (c n : ℕ) → c < length st.heads → get_or st.heads c 0 < 8
    → queue_from (left_state st c) m c n 0 ≡ queue_from st m c n 1
taken_own st m c n l h = queue-same (left_state st c) st m m c n 0 1
    (λ k g. ap (packet_at st m) (rw (get_or-set_same st.heads c (behind (get_or st.heads c 0)) 0 l)
    (ap (λ (z : ℕ). 8 * c + z) (let x : 0 + k ≡ k = omega arith in let y : 1 + k ≡ suc k = omega arith in rw (x, y) (round (get_or st.heads c 0) k h)))))

-- any other queue
pub taken-other : (st : State) (m : List ℕ) (c d n : ℕ) → (d ≡ c → ⊥) → queue_from (left_state st c) m d n 0 ≡ queue_from st m d n 0
taken-other st m c d n e = queue-same (left_state st c) st m m d n 0 0 (λ k g. ap (packet_at st m) (rw (get_or-set_other st.heads c d (behind (get_or st.heads c 0)) 0 e)))
