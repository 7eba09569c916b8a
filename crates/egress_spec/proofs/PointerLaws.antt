-- Where the next take starts, and whose turn it is, by the answers before.
use mathlib.Core.Path.{◌≡◌, refl, ◌∙◌}
use mathlib.Core.List.{List, [], ◌∷◌}
use Prim.Native.Nat.{ℕ, zero, suc, ◌+◌, ◌%◌, ◌<◌}
use native.Mathlib.Omega.{arith}
use Rattle.wire_spec.specs.Result.{Ok, refuse}
use Rattle.egress_spec.specs.Queues.{Queues, Model, opened, behind, Turn, turn_at, turn, Call, offering, taking, Answer, Step, step, after, answers}
use Rattle.egress_spec.specs.Laws.{served_before, served_last, in_circle}
use Rattle.egress_spec.proofs.Circle.{from, behind-channel, behind-is, from_is}
use Rattle.egress_spec.proofs.Cases.{offer-cases, take_cases}

-- A turn from `p` on: so many channels are passed over, and all of them are empty.
pub record Found (q : Queues) (p n : ℕ) (t : Turn) : Type 0 where
  pub passes : ℕ
  pub few : passes < n
  pub channel : t.channel ≡ from passes p
  pub empty : (i : ℕ) → i < passes → q (from i p) ≡ []
  pub head : q t.channel ≡ t.packet ∷ t.rest

pub turn-found : (n : ℕ) (q : Queues) (p : ℕ) (t : Turn) → turn n q p ≡ Ok t → Found q p n t
turn-found zero q p t e = absurd (let z : ◌≡◌ {A = ℕ} 0 1 = cc in omega arith)
turn-found (suc n) q p t e = go (turn-found n q (behind p) t) (q p) refl e
  where
    go : (turn n q (behind p) ≡ Ok t → Found q (behind p) n t) → (l : List (List ℕ)) → q p ≡ l
        → turn_at p l (turn n q (behind p)) ≡ Ok t → Found q p (suc n) t
    go ih [] z f =
        let r = ih f in
        record {
          passes = suc r.passes;
          few = omega (arith, r.few);
          channel = r.channel;
          empty = λ i h. pass r.passes r.empty i h;
          head = r.head;
        }
      where
        pass : (k : ℕ) → ((i : ℕ) → i < k → q (from i (behind p)) ≡ []) → (i : ℕ) → i < suc k → q (from i p) ≡ []
        pass k g zero h = z
        pass k g (suc i) h = g i (omega arith)
    go ih (y ∷ ys) z f =
        let g : record { channel = p; packet = y; rest = ys } ≡ t = cc in
        rw (← g) (record { passes = 0; few = omega arith; channel = refl; empty = λ i h. absurd (omega arith); head = z })

-- "63 nothing waits": every channel of the circle is empty
pub turn-none : (n : ℕ) (q : Queues) (p i : ℕ) → ((t : Turn) → turn n q p ≡ Ok t → ⊥) → i < n → q (from i p) ≡ []
turn-none zero q p i e h = absurd (omega arith)
turn-none (suc n) q p i e h = go (λ j f g. turn-none n q (behind p) j f g) (q p) refl i h e
  where
    go : ((j : ℕ) → ((t : Turn) → turn n q (behind p) ≡ Ok t → ⊥) → j < n → q (from j (behind p)) ≡ [])
        → (l : List (List ℕ)) → q p ≡ l → (i : ℕ) → i < suc n → ((t : Turn) → turn_at p l (turn n q (behind p)) ≡ Ok t → ⊥) → q (from i p) ≡ []
    go ih [] z zero h e = z
    go ih [] z (suc i) h e = ih i e (omega arith)
    go ih (y ∷ ys) z i h e = absurd (e (record { channel = p; packet = y; rest = ys }) refl)

pub turn-empty : (n : ℕ) (q : Queues) (p : ℕ) → ((i : ℕ) → i < n → q (from i p) ≡ []) → turn n q p ≡ refuse 63 0
turn-empty zero q p h = refl
turn-empty (suc n) q p h = rw (h 0 (omega arith)) (turn-empty n q (behind p) (λ i l. h (suc i) (omega arith)))

-- The pointer stands behind the channel served last.
pub record Behind (d : ℕ) (m : Model) : Type 0 where
  pub low : d < 8
  pub next : m.next ≡ behind d

-- What a call does to it.
data Pointed (d : ℕ) (s : Step) : Type 0 where
  stays : ((l : List Answer) → served_before d (s.answer ∷ l) ≡ served_before d l) → Behind d s.model → Pointed d s
  serves : (c : ℕ) → ((l : List Answer) → served_before d (s.answer ∷ l) ≡ served_before c l) → Behind c s.model → Pointed d s

module _ (d : ℕ) (m : Model) (b : Behind d m) where
  pub next_low : m.next < 8
  next_low = let h = behind-channel d in rw b.next (omega arith)

  pub found-low : (t : Turn) → Found m.queue m.next 8 t → t.channel < 8
  found-low t f = rw (f.channel, from_is f.passes m.next next_low) (omega arith)

  points : (k : Call) → Pointed d (step m k)
  points (offering c p) = offer-cases m (Pointed d) (λ x. stays (λ l. refl) b) c p (λ z. stays (λ l. refl) (record { low = b.low; next = b.next }))
  points (taking out) =
      take_cases m (Pointed d) (λ x. stays (λ l. refl) b) out
      (λ t e. serves t.channel (λ l. refl) (record { low = found-low t (turn-found 8 m.queue m.next t e); next = refl }))

  -- the channel that a take comes to
  pub circle-is : (i : ℕ) → from i m.next ≡ in_circle d i
  circle-is i = from_is i m.next next_low ∙ rw (b.next, behind-is d b.low) (sums d i)
    where
      sums : (d i : ℕ) → ((d + 1) % 8 + i) % 8 ≡ (d + 1 + i) % 8
      sums d i = omega arith

pub behind-after : (ks : List Call) (d : ℕ) (m : Model) → Behind d m → Behind (served_before d (answers m ks)) (after m ks)
behind-after [] d m b = b
behind-after (k ∷ ks) d m b = go (step m k) (points d m b k) (λ e c. behind-after ks e (step m k).model c)
  where
    go : (s : Step) → Pointed d s → ((e : ℕ) → Behind e s.model → Behind (served_before e (answers s.model ks)) (after s.model ks))
        → Behind (served_before d (s.answer ∷ answers s.model ks)) (after s.model ks)
    go s (stays f c) i = rw (f (answers s.model ks)) (i d c)
    go s (serves e f c) i = rw (f (answers s.model ks)) (i e c)

pub behind-last : (ks : List Call) → Behind (served_last (answers opened ks)) (after opened ks)
behind-last ks = behind-after ks 7 opened (record { low = omega arith; next = refl })
