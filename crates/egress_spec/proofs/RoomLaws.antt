-- A take with a slot's octets lent is refused only where nothing waits: every packet that waits is within a slot. So a packet at its channel's head is
-- gone after eight of them.
use mathlib.Core.Path.{◌≡◌, refl, sym, ◌∙◌, ap}
use mathlib.Core.Bool.{Bool, true, false, cond}
use mathlib.Core.Logic.{inl, inr}
use mathlib.Core.List.{List, [], ◌∷◌, ◌++◌, nil≢cons}
use Prim.Native.Nat.{ℕ, suc, ◌≤◌, ◌<◌}
use native.Mathlib.Omega.{arith}
use lib.Dec.{eqb, leb}
use lib.ListN.{length}
use borrow.Author.Tests.{leb-true, le-leb}
use Rattle.wire_spec.proofs.ResultLaws.{and-true}
use Rattle.egress_spec.specs.Queues.{Model, opened, slot_size, Turn, Call, offering, taking, Answer, handed, Step, step, after, answers}
use Rattle.egress_spec.specs.Laws.{Handed, if_handed, handed_out, Within, roomy_takes}
use Rattle.egress_spec.proofs.Cases.{offer-cases, take_cases}
use Rattle.egress_spec.proofs.Own.{turn-front}
use Rattle.egress_spec.proofs.Turns.{turn-finds, Waits, Stepped, still, gone, sooner, steps, within_more, from_next}

-- each of them is within a slot
abbrev Small : List (List ℕ) → Type 0
Small [] = Unit {0}
Small (p ∷ ps) = (length p ≤ slot_size) × Small ps

small-more : (l : List (List ℕ)) (p : List ℕ) → Small l → length p ≤ slot_size → Small (l ++ (p ∷ []))
small-more [] p s h = (h, tt)
small-more (q ∷ l) p s h = (s.0, small-more l p s.1 h)

abbrev AllSmall : Model → Type 0
AllSmall m = (c : ℕ) → Small (m.queue c)

small-step : (m : Model) (k : Call) → AllSmall m → AllSmall (step m k).model
small-step m (offering d p) s =
    offer-cases m (λ x. AllSmall x.model) (λ x. s) d p
    (λ t c. joins (leb-true (length p) 1024 (and-true (leb 1 (length p)) (leb (length p) 1024) t.1.0).1) c (eqb c d))
  where
    joins : length p ≤ 1024 → (c : ℕ) (b : Bool) → Small (cond b (m.queue d ++ (p ∷ [])) (m.queue c))
    joins h c true = small-more (m.queue d) p (s d) h
    joins h c false = s c
small-step m (taking out) s =
    take_cases m (λ x. AllSmall x.model) (λ x. s) out (λ t e c. rests t (turn-front m.queue 8 m.next t e) c (eqb c t.channel))
  where
    rest_of : (l : List (List ℕ)) (p : List ℕ) (ps : List (List ℕ)) → l ≡ p ∷ ps → Small l → Small ps
    rest_of l p ps e z = (rw e at z).1

    rests : (t : Turn) → m.queue t.channel ≡ t.packet ∷ t.rest → (c : ℕ) (b : Bool) → Small (cond b t.rest (m.queue c))
    rests t f c true = rest_of (m.queue t.channel) t.packet t.rest f (s t.channel)
    rests t f c false = s c

small-after : (ks : List Call) (m : Model) → AllSmall m → AllSmall (after m ks)
small-after [] m s = s
small-after (k ∷ ks) m s = small-after ks (step m k).model (small-step m k s)

-- of queues in which channel `c` waits
taken_at : (m : Model) (out : List ℕ) (c : ℕ) (x : List ℕ) (n : ℕ) → Waits c x n m → n < 8 → AllSmall m → slot_size ≤ length out
    → (d : ℕ) × (y : List ℕ) × ((step m (taking out)).answer ≡ handed d y)
taken_at m out c x n w h small r =
    let f = turn-finds m.queue c x w.rest w.head 8 n m.next h w.place in
    let t = f.0 in
    let s = within (m.queue t.channel) t.packet t.rest (turn-front m.queue 8 m.next t f.1) (small t.channel) in
    (t.channel, t.packet, rw (f.1, le-leb (length t.packet) (length out) (omega (arith, s))))
  where
    within : (l : List (List ℕ)) (p : List ℕ) (ps : List (List ℕ)) → l ≡ p ∷ ps → Small l → length p ≤ 1024
    within l p ps e z = (rw e at z).0

-- of the queues after any calls
pub taken : (before : List Call) (out : List ℕ) (c : ℕ) (p : List ℕ) (ps : List (List ℕ)) → c ≤ 7 → (after opened before).queue c ≡ p ∷ ps → slot_size ≤ length out
    → (d : ℕ) × (x : List ℕ) × ((step (after opened before) (taking out)).answer ≡ handed d x)
taken before out c p ps h e r =
    let n = from_next before c h in
    taken_at (after opened before) out c p n.0 (record { rest = ps; head = e; place = n.2 }) n.1 (small-after before opened (λ d. tt)) r

-- so one take more of a slot's octets than channels stand before `c` is enough
module _ (c : ℕ) (x : List ℕ) where
  abbrev hx : Handed
  hx = record { channel = c; packet = x }

  -- what is to be shown of the calls behind one
  abbrev Leaves : Model → List Call → Type 0
  Leaves m ks = (n : ℕ) → Waits c x n m → n < 8 → suc n ≤ roomy_takes ks → Within (suc n) hx (handed_out (answers m ks))

  -- a call that leaves as many of these takes to come
  any-call : (n : ℕ) (ks : List Call) (s : Step) → Leaves s.model ks → n < 8 → suc n ≤ roomy_takes ks → Stepped c x n s
      → Within (suc n) hx (if_handed s.answer (handed_out (answers s.model ks)))
  any-call n ks s ih h e (still i z) = rw i (ih n z h e)
  any-call n ks s ih h e (gone i) = rw i (inl refl)
  any-call n ks s ih h e (sooner d y i k l z) =
      rw i (inr (within_more (suc k) n hx (handed_out (answers s.model ks)) l (ih k z (omega arith) (omega arith))))

  -- one of these takes, which hands out a packet
  roomy-take : (n : ℕ) (ks : List Call) (s : Step) → Leaves s.model ks → n < 8 → n ≤ roomy_takes ks → (d : ℕ) (y : List ℕ) → s.answer ≡ handed d y → Stepped c x n s
      → Within (suc n) hx (if_handed s.answer (handed_out (answers s.model ks)))
  roomy-take n ks s ih h e d y a (still i z) = absurd (nil≢cons (sym (sym (ap (λ (q : Answer). if_handed q []) a) ∙ i [])))
  roomy-take n ks s ih h e d y a (gone i) = rw i (inl refl)
  roomy-take n ks s ih h e d y a (sooner d' y' i k l z) =
      rw i (inr (within_more (suc k) n hx (handed_out (answers s.model ks)) l (ih k z (omega arith) (omega arith))))

  pub leaves-roomy : (ks : List Call) (m : Model) → AllSmall m → Leaves m ks
  leaves-roomy [] m small n w h e = absurd (omega arith)
  leaves-roomy (offering d p ∷ ks) m small n w h e =
      any-call n ks (step m (offering d p)) (leaves-roomy ks (step m (offering d p)).model (small-step m (offering d p) small)) h e (steps c x n m w h (offering d p))
  leaves-roomy (taking out ∷ ks) m small n w h e =
      go (leaves-roomy ks (step m (taking out)).model (small-step m (taking out) small)) (leb slot_size (length out)) refl e
    where
      go : Leaves (step m (taking out)).model ks → (b : Bool) → leb slot_size (length out) ≡ b → suc n ≤ cond b (suc (roomy_takes ks)) (roomy_takes ks)
          → Within (suc n) hx (handed_out (answers m (taking out ∷ ks)))
      go ih true b g =
          let t = taken_at m out c x n w h small (leb-true slot_size (length out) b) in
          roomy-take n ks (step m (taking out)) ih h (omega arith) t.0 t.1 t.2 (steps c x n m w h (taking out))
      go ih false b g = any-call n ks (step m (taking out)) ih h g (steps c x n m w h (taking out))

-- of the queues after any calls
pub in-time : (before later : List Call) (c : ℕ) (x : List ℕ) (xs : List (List ℕ)) → c ≤ 7 → (after opened before).queue c ≡ x ∷ xs → 8 ≤ roomy_takes later
    → Within 8 (record { channel = c; packet = x }) (handed_out (answers (after opened before) later))
in-time before later c x xs h e g =
    let n = from_next before c h in
    within_more (suc n.0) 8 (record { channel = c; packet = x }) (handed_out (answers (after opened before) later)) n.1
    (leaves-roomy c x later (after opened before) (small-after before opened (λ d. tt)) n.0 (record { rest = xs; head = e; place = n.2 }) n.1 (omega (arith, n.1)))
