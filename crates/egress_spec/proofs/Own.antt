-- "Whether an offer is taken depends only on its size, its channel number and that channel's own earlier offers and takes."
-- How many packets a channel holds is told by its own events.
use mathlib.Core.Path.{◌≡◌, refl, sym, ◌∙◌, ap}
use mathlib.Core.Bool.{Bool, true, false, cond, ◌&&◌}
use mathlib.Core.List.{List, [], ◌∷◌, ◌++◌}
use Prim.Native.Nat.{ℕ, zero, suc, ◌-◌, ◌≤◌}
use native.Mathlib.Omega.{arith}
use lib.Dec.{eqb, leb, ltb}
use lib.ListN.{length, length-append}
use borrow.Author.Tests.{eq-eqb, ne_eqb, eqb-true, eqb-false, le-leb}
use Rattle.wire_spec.specs.Result.{Ok, refuse}
use Rattle.egress_spec.specs.Queues.{Queues, Model, opened, joined, without, behind, slot_size, max_held, Turn, turn_at, turn, Call, offering, taking, after_offer, step, after, answers}
use Rattle.egress_spec.specs.Laws.{Event, offered, left, own_of, own, holds, offer_answer, answer_to}
use Rattle.egress_spec.proofs.Cases.{offer-cases, take_cases}

length_more : (l : List (List ℕ)) (p : List ℕ) → length (l ++ (p ∷ [])) ≡ suc (length l)
length_more l p = rw (length-append l (p ∷ [])) (omega arith)

-- an offer to channel `c` itself, by its size and what the channel holds
own-offer : (m : Model) (c : ℕ) (p : List ℕ) (b e : Bool)
    → length ((after_offer m (cond b (cond e (Ok (joined m c p)) (refuse 62 0)) (refuse 61 0))).model.queue c) ≡ cond (b && e) (suc (length (m.queue c))) (length (m.queue c))
own-offer m c p false e = refl
own-offer m c p true false = refl
own-offer m c p true true = rw (eq-eqb c c refl) (length_more (m.queue c) p)

offer-holds : (m : Model) (c d : ℕ) (p : List ℕ) (l : List Event) → c ≤ 7
    → holds (length ((step m (offering d p)).model.queue c)) l ≡ holds (length (m.queue c)) (cond (eqb d c) (offered (length p) ∷ l) l)
offer-holds m c d p l h = go (eqb d c) refl
  where
    go : (z : Bool) → eqb d c ≡ z → holds (length ((step m (offering d p)).model.queue c)) l ≡ holds (length (m.queue c)) (cond z (offered (length p) ∷ l) l)
    go true z = rw (eqb-true d c z, le-leb c 7 h) (ap (λ (n : ℕ). holds n l) (own-offer m c p (leb 1 (length p) && leb (length p) slot_size) (ltb (length (m.queue c)) max_held)))
    go false z =
        ap (λ (q : List (List ℕ)). holds (length q) l)
        (offer-cases m (λ s. s.model.queue c ≡ m.queue c) (λ x. refl) d p (λ y. rw (ne_eqb c d (λ e. eqb-false d c z (sym e)))))

-- a turn is the front of its channel's queue
pub turn-front : (q : Queues) (k p : ℕ) (t : Turn) → turn k q p ≡ Ok t → q t.channel ≡ t.packet ∷ t.rest
turn-front q zero p t e = absurd (let z : ◌≡◌ {A = ℕ} 0 1 = cc in omega arith)
turn-front q (suc k) p t e = go (turn-front q k (behind p) t) (q p) refl e
  where
    go : (turn k q (behind p) ≡ Ok t → q t.channel ≡ t.packet ∷ t.rest) → (l : List (List ℕ)) → q p ≡ l
        → turn_at p l (turn k q (behind p)) ≡ Ok t → q t.channel ≡ t.packet ∷ t.rest
    go ih [] z f = ih f
    go ih (y ∷ ys) z f = let g : record { channel = p; packet = y; rest = ys } ≡ t = cc in rw (← g) z

take-holds : (m : Model) (c : ℕ) (out : List ℕ) (l : List Event)
    → holds (length ((step m (taking out)).model.queue c)) l ≡ holds (length (m.queue c)) (own_of c (taking out) (step m (taking out)).answer l)
take-holds m c out l =
    take_cases m (λ s. holds (length (s.model.queue c)) l ≡ holds (length (m.queue c)) (own_of c (taking out) s.answer l)) (λ x. refl) out
    (λ t e. served t (turn-front m.queue 8 m.next t e) (eqb t.channel c) refl)
  where
    served : (t : Turn) → m.queue t.channel ≡ t.packet ∷ t.rest → (z : Bool) → eqb t.channel c ≡ z
        → holds (length ((without m t).queue c)) l ≡ holds (length (m.queue c)) (cond z (left ∷ l) l)
    served t f true z =
        let e = eqb-true t.channel c z in
        let g : length (m.queue c) - 1 ≡ length t.rest = rw (← e, f) (omega arith) in
        rw (eq-eqb c t.channel (sym e)) (sym (ap (λ (n : ℕ). holds n l) g))
    served t f false z = rw (ne_eqb c t.channel (λ e. eqb-false t.channel c z (sym e)))

step-holds : (m : Model) (c : ℕ) (k : Call) (l : List Event) → c ≤ 7
    → holds (length ((step m k).model.queue c)) l ≡ holds (length (m.queue c)) (own_of c k (step m k).answer l)
step-holds m c (offering d p) l h = offer-holds m c d p l h
step-holds m c (taking out) l h = take-holds m c out l

pub held : (ks : List Call) (m : Model) (c : ℕ) → c ≤ 7 → length ((after m ks).queue c) ≡ holds (length (m.queue c)) (own c ks (answers m ks))
held [] m c h = refl
held (k ∷ ks) m c h = held ks (step m k).model c h ∙ step-holds m c k (own c ks (answers (step m k).model ks)) h

answered : (m : Model) (c : ℕ) (p : List ℕ) (a b e : Bool)
    → (after_offer m (cond a (cond b (cond e (Ok (joined m c p)) (refuse 62 0)) (refuse 61 0)) (refuse 60 0))).answer
    ≡ offer_answer {A = ℕ} (cond a (cond b (cond e (Ok 0) (refuse 62 0)) (refuse 61 0)) (refuse 60 0))
answered m c p false b e = refl
answered m c p true false e = refl
answered m c p true true false = refl
answered m c p true true true = refl

-- K10: from an outlet just opened, after any calls, what an offer is answered is told by its channel, its size and that channel's own events
pub by-its-own : (ks : List Call) (c : ℕ) (p : List ℕ) → (step (after opened ks) (offering c p)).answer ≡ answer_to c (length p) (holds 0 (own c ks (answers opened ks)))
by-its-own ks c p = go (leb c 7) refl
  where
    go : (b : Bool) → leb c 7 ≡ b → (step (after opened ks) (offering c p)).answer ≡ answer_to c (length p) (holds 0 (own c ks (answers opened ks)))
    go true e = rw (← held ks opened c (borrow.Author.Tests.leb-true c 7 e))
        (answered (after opened ks) c p (leb c 7) (leb 1 (length p) && leb (length p) slot_size) (ltb (length ((after opened ks).queue c)) max_held))
    go false e = rw e

-- so two runs in which the channel saw the same answer it alike
pub alike : (ks js : List Call) (c : ℕ) (p r : List ℕ) → own c ks (answers opened ks) ≡ own c js (answers opened js) → length p ≡ length r
    → (step (after opened ks) (offering c p)).answer ≡ (step (after opened js) (offering c r)).answer
alike ks js c p r e f = by-its-own ks c p ∙ rw (e, f) (sym (by-its-own js c r))
