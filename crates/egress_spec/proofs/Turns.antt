-- "A packet at its channel's head leaves within eight successful takes, whatever is offered meanwhile."
-- By how many channels stand before its own in the circle: a take serves it, or leaves fewer before it.
use mathlib.Core.Path.{◌≡◌, refl, sym, ◌∙◌, ap, subst}
use mathlib.Core.Bool.{Bool, true, false, cond}
use mathlib.Core.Logic.{inl, inr}
use mathlib.Core.List.{List, [], ◌∷◌, ◌++◌, head-eq_of_cons-eq}
use Prim.Native.Nat.{ℕ, zero, suc, ◌≤◌, ◌<◌}
use native.Mathlib.Omega.{arith}
use lib.Dec.{eqb}
use lib.ListN.{length}
use borrow.Author.Tests.{ne_eqb, eqb-true, eqb-false}
use Rattle.wire_spec.specs.declared.refusal.Refusal.{Refusal}
use Rattle.wire_spec.specs.Result.{Ok}
use Rattle.wire_spec.proofs.ResultLaws.{accepted-inj}
use Rattle.egress_spec.specs.Queues.{Queues, Model, opened, joined, without, behind, Turn, turn_at, turn, Call, offering, taking, copied, handed, no, Step, step, after, answers}
use Rattle.egress_spec.specs.Laws.{Handed, if_handed, handed_out, Within}
use Rattle.egress_spec.proofs.Circle.{from, from_all, behind-channel}
use Rattle.egress_spec.proofs.Cases.{offer-cases, take_cases}

-- A turn, where channel `c` waits with `x` at its head and stands `n` behind: its own, or one that leaves fewer before it.
pub data Serves (c : ℕ) (x : List ℕ) (n : ℕ) (t : Turn) : Type 0 where
  it : t.channel ≡ c → t.packet ≡ x → Serves c x n t
  other : (t.channel ≡ c → ⊥) → (m : ℕ) → m < n → from m (behind t.channel) ≡ c → Serves c x n t

more : {c : ℕ} {x : List ℕ} {n : ℕ} {t : Turn} → Serves c x n t → Serves c x (suc n) t
more (it e f) = it e f
more (other d m h e) = other d m (omega arith) e

module _ (q : Queues) (c : ℕ) (x : List ℕ) (xs : List (List ℕ)) (w : q c ≡ x ∷ xs) where
  pub turn-finds : (k n p : ℕ) → n < k → from n p ≡ c → (t : Turn) × (turn k q p ≡ Ok t) × Serves c x n t
  turn-finds zero n p h e = absurd (omega arith)
  turn-finds (suc k) zero p h e =
      (record { channel = p; packet = x; rest = xs }, rw (e, w), it e refl)
  turn-finds (suc k) (suc n) p h e = go (turn-finds k n (behind p) (omega arith) e) (q p) refl
    where
      pick : (y : List ℕ) (ys : List (List ℕ)) (b : Bool) → eqb p c ≡ b → q p ≡ y ∷ ys → Serves c x (suc n) (record { channel = p; packet = y; rest = ys })
      pick y ys true b z = it (eqb-true p c b) (head-eq_of_cons-eq (sym z ∙ ap q (eqb-true p c b) ∙ w))
      pick y ys false b z = other (eqb-false p c b) n (omega arith) e

      go : ((t : Turn) × (turn k q (behind p) ≡ Ok t) × Serves c x n t) → (l : List (List ℕ)) → q p ≡ l → (t : Turn) × (turn_at p l (turn k q (behind p)) ≡ Ok t) × Serves c x (suc n) t
      go i [] z = (i.0, i.1, more i.2)
      go i (y ∷ ys) z = (record { channel = p; packet = y; rest = ys }, refl, pick y ys (eqb p c) refl z)

-- Channel `c` waits with `x` at its head, and stands `n` behind the pointer.
pub record Waits (c : ℕ) (x : List ℕ) (n : ℕ) (m : Model) : Type 0 where
  pub rest : List (List ℕ)
  pub head : m.queue c ≡ x ∷ rest
  pub place : from n m.next ≡ c

-- What a call does then: nothing leaves, or `x` does, or another with fewer left before it.
pub data Stepped (c : ℕ) (x : List ℕ) (n : ℕ) (s : Step) : Type 0 where
  still : ((l : List Handed) → if_handed s.answer l ≡ l) → Waits c x n s.model → Stepped c x n s
  gone : s.answer ≡ handed c x → Stepped c x n s
  sooner : (d : ℕ) (y : List ℕ) → s.answer ≡ handed d y → (m : ℕ) → m < n → Waits c x m s.model → Stepped c x n s

module _ (c : ℕ) (x : List ℕ) (n : ℕ) (m : Model) (w : Waits c x n m) where
  refused-steps : (y : Refusal) → Stepped c x n (record { model = m; answer = no y })
  refused-steps y = still (λ l. refl) w

  joined-steps : (d : ℕ) (p : List ℕ) → Stepped c x n (record { model = joined m d p; answer = copied })
  joined-steps d p = let z = head (eqb c d) refl in still (λ l. refl) (record { rest = z.0; head = z.1; place = w.place })
    where
      head : (b : Bool) → eqb c d ≡ b → (r : List (List ℕ)) × (cond b (m.queue d ++ (p ∷ [])) (m.queue c) ≡ x ∷ r)
      head true e = (w.rest ++ (p ∷ []), rw (← eqb-true c d e, w.head))
      head false e = (w.rest, w.head)

  served-steps : (t : Turn) → Serves c x n t → Stepped c x n (record { model = without m t; answer = handed t.channel t.packet })
  served-steps t (it e f) = gone (rw (e, f))
  served-steps t (other d k h e) =
      sooner t.channel t.packet refl k h (record { rest = w.rest; head = rw (ne_eqb c t.channel (λ z. d (sym z))) w.head; place = e })

  pub steps : n < 8 → (k : Call) → Stepped c x n (step m k)
  steps h (offering d p) = offer-cases m (Stepped c x n) refused-steps d p (λ z. joined-steps d p)
  steps h (taking out) =
      take_cases m (Stepped c x n) refused-steps out
      (λ t e.
      let f = turn-finds m.queue c x w.rest w.head 8 n m.next h w.place in
      served-steps t (subst (Serves c x n) (accepted-inj (sym f.1 ∙ e)) f.2))

pub within_more : (a b : ℕ) (x : Handed) (l : List Handed) → a ≤ b → Within a x l → Within b x l
within_more zero b x l h z = absurd z
within_more (suc a) zero x l h z = absurd (omega arith)
within_more (suc a) (suc b) x [] h z = z
within_more (suc a) (suc b) x (y ∷ l) h (inl e) = inl e
within_more (suc a) (suc b) x (y ∷ l) h (inr z) = inr (within_more a b x l (omega arith) z)

pub leaves : (ks : List Call) (c : ℕ) (x : List ℕ) (n : ℕ) (m : Model) → Waits c x n m → n < 8 → suc n ≤ length (handed_out (answers m ks))
    → Within (suc n) (record { channel = c; packet = x }) (handed_out (answers m ks))
leaves [] c x n m w h e = absurd (omega arith)
leaves (k ∷ ks) c x n m w h e = go (step m k) (λ n' w' h' e'. leaves ks c x n' (step m k).model w' h' e') (steps c x n m w h k) e
  where
    hx : Handed
    hx = record { channel = c; packet = x }

    go : (s : Step)
        → ((n' : ℕ) → Waits c x n' s.model → n' < 8 → suc n' ≤ length (handed_out (answers s.model ks)) → Within (suc n') hx (handed_out (answers s.model ks)))
        → Stepped c x n s → suc n ≤ length (if_handed s.answer (handed_out (answers s.model ks)))
        → Within (suc n) hx (if_handed s.answer (handed_out (answers s.model ks)))
    go s ih (still i z) g = rw i (ih n z h (rw i at g))
    go s ih (gone i) g = rw i (inl refl)
    go s ih (sooner d y i n' l z) g =
        rw i (inr (within_more (suc n') n hx (handed_out (answers s.model ks)) l (ih n' z (omega arith) (omega (arith, rw i at g)))))

next-step : (m : Model) (k : Call) → m.next ≤ 7 → (step m k).model.next ≤ 7
next-step m (offering d p) h = offer-cases m (λ s. s.model.next ≤ 7) (λ x. h) d p (λ z. h)
next-step m (taking out) h = take_cases m (λ s. s.model.next ≤ 7) (λ x. h) out (λ t e. behind-channel t.channel)

next-after : (ks : List Call) (m : Model) → m.next ≤ 7 → (after m ks).next ≤ 7
next-after [] m h = h
next-after (k ∷ ks) m h = next-after ks (step m k).model (next-step m k h)

-- how far a channel stands behind the pointer
pub from_next : (before : List Call) (c : ℕ) → c ≤ 7 → (n : ℕ) × (n < 8) × (from n (after opened before).next ≡ c)
from_next before c h = from_all (after opened before).next c (next-after before opened (omega arith)) h

-- K10: from an outlet just opened, after any calls, a packet at its channel's head is among the next eight handed out, whatever is called
pub fair : (before behind : List Call) (c : ℕ) (x : List ℕ) (xs : List (List ℕ)) → c ≤ 7 → (after opened before).queue c ≡ x ∷ xs
    → 8 ≤ length (handed_out (answers (after opened before) behind))
    → Within 8 (record { channel = c; packet = x }) (handed_out (answers (after opened before) behind))
fair before later c x xs h e g =
    let m = after opened before in
    let n = from_next before c h in
    within_more (suc n.0) 8 (record { channel = c; packet = x }) (handed_out (answers m later)) n.1 (leaves later c x n.0 m (record { rest = xs; head = e; place = n.2 }) n.1 (omega (arith, n.1)))
