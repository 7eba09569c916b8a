-- What the answers of a run tell of the queues after it: what was copied in is what was handed out and, behind it, what waits.
-- By the calls in their order.
use mathlib.Core.Path.{◌≡◌, refl, sym, ◌∙◌, ap}
use mathlib.Core.Bool.{Bool, true, false}
use mathlib.Core.List.{List, [], ◌∷◌, ◌++◌, append_assoc, append-nil}
use Prim.Native.Nat.{ℕ, suc}
use lib.Dec.{eqb}
use lib.ListN.{length, drop}
use lib.Seq.{drop_at}
use borrow.Author.Tests.{eq-eqb, ne_eqb, eqb-true, eqb-false}
use Rattle.wire_spec.specs.declared.refusal.Refusal.{Refusal}
use Rattle.egress_spec.specs.Queues.{Model, opened, joined, without, memory_size, Turn, Call, offering, taking, Answer, copied, handed, no, Step, step, after, answers}
use Rattle.egress_spec.specs.Calls.{answers_of, answers_behind}
use Rattle.egress_spec.specs.Laws.{if_from, handed_from, if_copied, copied_to, waiting}
use Rattle.egress_spec.proofs.Simulation.{answers-as-queues}
use Rattle.egress_spec.proofs.Cases.{offer-cases, take_cases}
use Rattle.egress_spec.proofs.Own.{turn-front}

-- What a call does to channel `c`: nothing, a packet comes behind its last, or its head leaves.
pub data Moved (c : ℕ) (m : Model) (k : Call) (s : Step) : Type 0 where
  still : ((l : List (List ℕ)) → if_from c s.answer l ≡ l) → ((l : List (List ℕ)) → if_copied c k s.answer l ≡ l) → s.model.queue c ≡ m.queue c → Moved c m k s
  comes : (p : List ℕ) → ((l : List (List ℕ)) → if_from c s.answer l ≡ l) → ((l : List (List ℕ)) → if_copied c k s.answer l ≡ p ∷ l)
      → s.model.queue c ≡ m.queue c ++ (p ∷ []) → Moved c m k s
  leaves : (p : List ℕ) → ((l : List (List ℕ)) → if_from c s.answer l ≡ p ∷ l) → ((l : List (List ℕ)) → if_copied c k s.answer l ≡ l)
      → m.queue c ≡ p ∷ s.model.queue c → Moved c m k s

module _ (c : ℕ) (m : Model) where
  refused-moves : (k : Call) (x : Refusal) → Moved c m k (record { model = m; answer = no x })
  refused-moves (offering d p) x = still (λ l. refl) (λ l. refl) refl
  refused-moves (taking out) x = still (λ l. refl) (λ l. refl) refl

  joined-moves : (d : ℕ) (p : List ℕ) → Moved c m (offering d p) (record { model = joined m d p; answer = copied })
  joined-moves d p = go (eqb d c) refl
    where
      go : (z : Bool) → eqb d c ≡ z → Moved c m (offering d p) (record { model = joined m d p; answer = copied })
      go true z =
          let y = eqb-true d c z in
          comes p (λ l. refl) (λ l. rw z) (rw (eq-eqb c d (sym y), y))
      go false z = still (λ l. refl) (λ l. rw z) (rw (ne_eqb c d (λ y. eqb-false d c z (sym y))))

  served-moves : (out : List ℕ) (t : Turn) → m.queue t.channel ≡ t.packet ∷ t.rest
      → Moved c m (taking out) (record { model = without m t; answer = handed t.channel t.packet })
  served-moves out t f = go (eqb t.channel c) refl
    where
      go : (z : Bool) → eqb t.channel c ≡ z → Moved c m (taking out) (record { model = without m t; answer = handed t.channel t.packet })
      go true z =
          let y = eqb-true t.channel c z in
          leaves t.packet (λ l. rw z) (λ l. refl) (rw (eq-eqb c t.channel (sym y)) (ap m.queue (sym y) ∙ f))
      go false z = still (λ l. rw z) (λ l. refl) (rw (ne_eqb c t.channel (λ y. eqb-false t.channel c z (sym y))))

  pub moves : (k : Call) → Moved c m k (step m k)
  moves (offering d p) = offer-cases m (Moved c m (offering d p)) (refused-moves (offering d p)) d p (λ z. joined-moves d p)
  moves (taking out) =
      take_cases m (Moved c m (taking out)) (refused-moves (taking out)) out (λ t e. served-moves out t (turn-front m.queue 8 m.next t e))

-- "first in first out within a channel", of any model
pub in_order : (c : ℕ) (ks : List Call) (m : Model) → handed_from c (answers m ks) ++ (after m ks).queue c ≡ m.queue c ++ copied_to c ks (answers m ks)
in_order c [] m = sym (append-nil (m.queue c))
in_order c (k ∷ ks) m = go (step m k) (moves c m k) (in_order c ks (step m k).model)
  where
    go : (s : Step) → Moved c m k s
        → handed_from c (answers s.model ks) ++ (after s.model ks).queue c ≡ s.model.queue c ++ copied_to c ks (answers s.model ks)
        → if_from c s.answer (handed_from c (answers s.model ks)) ++ (after s.model ks).queue c ≡ m.queue c ++ if_copied c k s.answer (copied_to c ks (answers s.model ks))
    go s (still f g e) i = rw (f, g, ← e) i
    go s (comes p f g e) i = rw (f, g) (i ∙ rw e (append_assoc (m.queue c) (p ∷ []) (copied_to c ks (answers s.model ks))))
    go s (leaves p f g e) i = rw (f, g, e) (ap (λ (l : List (List ℕ)). p ∷ l) i)

-- calls behind others
pub after-append : (ks js : List Call) (m : Model) → answers m (ks ++ js) ≡ answers m ks ++ answers (after m ks) js
after-append [] js m = refl
after-append (k ∷ ks) js m = ap (λ (l : List Answer). (step m k).answer ∷ l) (after-append ks js (step m k).model)

pub answer-each : (ks : List Call) (m : Model) → length (answers m ks) ≡ length ks
answer-each [] m = refl
answer-each (k ∷ ks) m = ap suc (answer-each ks (step m k).model)

module _ (m : List ℕ) (size : length m ≡ memory_size) where
  -- what waits, by the answers, is what the queue holds
  pub waits : (c : ℕ) (ks : List Call) → waiting c ks (answers_of m ks) ≡ (after opened ks).queue c
  waits c ks =
      rw (answers-as-queues m size ks)
      (ap (drop (length (handed_from c (answers opened ks)))) (sym (in_order c ks opened))
      ∙ drop_at (handed_from c (answers opened ks)) ((after opened ks).queue c) (length (handed_from c (answers opened ks))) refl)

  pub behind-is : (before later : List Call) → answers_behind m before later ≡ answers (after opened before) later
  behind-is before later =
      ap (drop (length before)) (answers-as-queues m size (before ++ later) ∙ after-append before later opened)
      ∙ drop_at (answers opened before) (answers (after opened before) later) (length before) (answer-each before opened)

  -- "first in first out within a channel": what was copied in is what was handed out, and then what waits
  pub first-in-first-out : (c : ℕ) (ks : List Call) → handed_from c (answers_of m ks) ++ waiting c ks (answers_of m ks) ≡ copied_to c ks (answers_of m ks)
  first-in-first-out c ks = rw (waits c ks, answers-as-queues m size ks) (in_order c ks opened)
