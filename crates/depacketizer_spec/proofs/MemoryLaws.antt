-- What is remembered is told by the answers, and so is which far arrival restarts.
-- By what each answer leaves of the memory.
use mathlib.Core.Path.{◌≡◌, refl, ◌∙◌, ap, sym}
use mathlib.Core.Bool.{Bool, true, false, true≢false}
use mathlib.Core.List.{List, [], ◌∷◌}
use mathlib.Core.Logic.{inl, inr, ◌↔◌}
use Prim.Native.Nat.{ℕ, ◌^◌, ◌<◌}
use native.Mathlib.Omega.{arith}
use lib.Dec.{eqb}
use lib.ListN.{length}
use borrow.Author.Tests.{eqb-true, eqb-false}
use Rattle.wire_spec.specs.declared.refusal.Refusal.{Refusal}
use Rattle.wire_spec.specs.Packet.{Content}
use Rattle.depacketizer_spec.specs.declared.state.State.{State}
use Rattle.depacketizer_spec.specs.declared.state.Answer.{Answer}
use Rattle.depacketizer_spec.specs.declared.state.Answer.TheVariants as answer
use Rattle.depacketizer_spec.specs.Step.{Step}
use Rattle.depacketizer_spec.specs.Table.{Own, IsFar, Remembers, Told}
use Rattle.depacketizer_spec.specs.Memory.{Given, step_of, state_after, Waits, RestartsIf}
use Rattle.depacketizer_spec.proofs.StepLaws.{is_refusal, not-refused, refused-keeps, passed, last-small}
use Rattle.depacketizer_spec.proofs.AnswerLaws.{memory-after}
use Rattle.depacketizer_spec.proofs.TableLaws.{far-exactly, told}

module _ (s t : ℕ) where
  -- a step more
  module _ (c : Given) (cs : List Given) (n : ℕ) where
    abbrev st : State
    st = state_after s t cs

    abbrev x : Step
    x = step_of st c

    forgets : is_refusal x.answer ≡ false → Remembers x.state n → ⊥
    forgets h m =
        true≢false (sym m.0 ∙ (memory-after st c.layout c.octets c.store).fresh (λ r e. not-refused x.answer r h e))

    waits-on : (Remembers st n → Waits s t cs n) → Remembers x.state n → Waits s t (c ∷ cs) n
    waits-on ih m = go x.answer refl
      where
        refuses : (r : Refusal) → x.answer ≡ answer.Refused r → (b : Bool) → eqb r.number 36 ≡ b → Waits s t (c ∷ cs) n
        refuses r e true h =
            let is = eqb-true r.number 36 h in
            let f = (refused-keeps st c.layout c.octets c.store r e).far is in
            let p = (passed st c.layout (length c.store) c.octets f.0 f.1).1 in
            (r, e, inl (is, f.0, p, sym m.1 ∙ ((memory-after st c.layout c.octets c.store).far r e is f.0 p).1))
        refuses r e false h =
            let not = eqb-false r.number 36 h in
            let o = (memory-after st c.layout c.octets c.store).other r e not in
            (r, e, inr (not, ih (sym o.0 ∙ m.0, sym (ap (λ (y : _). y.0) o.1) ∙ m.1)))

        go : (a : Answer) → x.answer ≡ a → Waits s t (c ∷ cs) n
        go answer.Skipped e = absurd (forgets (ap is_refusal e) m)
        go answer.Held e = absurd (forgets (ap is_refusal e) m)
        go answer.Mixed e = absurd (forgets (ap is_refusal e) m)
        go answer.Overfull e = absurd (forgets (ap is_refusal e) m)
        go (answer.Whole y) e = absurd (forgets (ap is_refusal e) m)
        go (answer.Refused r) e = refuses r e (eqb r.number 36) refl

    remembers-on : (Waits s t cs n → Remembers st n) → Waits s t (c ∷ cs) n → Remembers x.state n
    remembers-on ih (r, e, inl (is, k, p, q)) =
        let f = (memory-after st c.layout c.octets c.store).far r e is k p in
        (f.0, f.1 ∙ sym q)
    remembers-on ih (r, e, inr (not, w)) =
        let o = (memory-after st c.layout c.octets c.store).other r e not in
        (o.0 ∙ (ih w).0, ap (λ (y : _). y.0) o.1 ∙ (ih w).1)

  -- what is remembered, by the answers
  pub remembers-iff : (cs : List Given) (n : ℕ) → Remembers (state_after s t cs) n ↔ Waits s t cs n
  remembers-iff [] n = (λ m. absurd (true≢false (sym m.0)), λ w. absurd w)
  remembers-iff (c ∷ cs) n = (waits-on c cs n (remembers-iff cs n).0, remembers-on c cs n (remembers-iff cs n).1)

  small-after : (cs : List Given) → (state_after s t cs).last.0 < 2 ^ 32
  small-after [] = omega arith
  small-after (c ∷ cs) = last-small (state_after s t cs) c.layout c.octets c.store (small-after cs)

  -- THE TABLE OF AN ARRIVAL at a depacketizer that was opened, after any others
  pub told-after : (cs : List Given) (c : Given) → Told (state_after s t cs) c.layout c.octets c.store (step_of (state_after s t cs) c)
  told-after cs c = told (state_after s t cs) c.layout c.octets c.store (small-after cs)

  -- A FAR ARRIVAL RESTARTS EXACTLY WHERE ITS NUMBER IS WAITED FOR
  pub restarts-iff : (cs : List Given) (c : Given) (k : Content)
      → Own (state_after s t cs) c.layout c.octets c.store k → (state_after s t cs).heard ≡ true → IsFar (state_after s t cs).last.0 k.number
      → RestartsIf (Waits s t cs k.number) (state_after s t cs) k c.store (step_of (state_after s t cs) c)
  restarts-iff cs c k own heard h =
      let m = remembers-iff cs k.number in
      let f = far-exactly (state_after s t cs) c.layout c.octets c.store k own heard (small-after cs) h in
      record { restarts = λ w. f.restarts (m.1 w); refuses = λ w. f.refuses (λ r. w (m.0 r)) }
