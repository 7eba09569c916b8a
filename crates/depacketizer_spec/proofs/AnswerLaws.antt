-- What an arrival leaves, by its answer: the store, the phase and the memory, over every state, packet and store.
-- By what is gathered, and the tests.
use mathlib.Core.Path.{◌≡◌, refl, ◌∙◌, ap, sym}
use mathlib.Core.Bool.{Bool, true, false, ◌&&◌, and-false}
use mathlib.Core.List.{List}
use Prim.Native.Nat.{ℕ, ◌+◌, ◌^◌, ◌%◌}
use native.Mathlib.Omega.{arith}
use lib.Dec.{eqb}
use lib.ListN.{length}
use borrow.Author.Tests.{eq-eqb, ne_eqb}
use Rattle.wire_spec.specs.declared.refusal.Refusal.{Refusal}
use Rattle.wire_spec.specs.Layout.{Layout}
use Rattle.wire_spec.specs.Result.{Ok}
use Rattle.wire_spec.specs.Packet.{Content, read_content}
use Rattle.wire_spec.specs.Writing.{max_field_packets}
use Rattle.depacketizer_spec.specs.declared.state.State.{State}
use Rattle.depacketizer_spec.specs.declared.state.Field.{Field}
use Rattle.depacketizer_spec.specs.declared.state.Answer.{Answer}
use Rattle.depacketizer_spec.specs.declared.state.Answer.TheVariants as answer
use Rattle.depacketizer_spec.specs.Step.{Gathered, lost, ready, filling, phase_of, Gather, Carried, carried, dropped, taken, join_fits, join_if_fits, join, join_if_same, follow, fresh_step, Step, step, whole_if_marked, field_with, appended}
use Rattle.depacketizer_spec.specs.Laws.{IsFresh, PhaseAfter, MemoryAfter, appends, StoreAfter, FullOfPackets}
use Rattle.depacketizer_spec.proofs.StepLaws.{follow-answers, not-refused, refusal-inj, refused-keeps, passed, step_is}

taken-appends : (b : Bool) (x : Field) → appends (whole_if_marked b x) ≡ true
taken-appends true x = refl
taken-appends false x = refl

join-appends : (r c n : ℕ) (p : Carried) (room : ℕ) → appends (join r c n p room).answer ≡ (join r c n p room).append
join-appends r c n p room = go (join_fits r c n p room) _
  where
    go : (b : Bool) (m : ℕ) → appends (join_if_fits b p (r + p.records) (c + p.cells) m).answer ≡ (join_if_fits b p (r + p.records) (c + p.cells) m).append
    go true m = taken-appends p.marked (field_with p (r + p.records) (c + p.cells) m)
    go false m = refl

-- a fresh packet'p cells are appended with the answers held and whole
follow-appends : (g : Gathered) (p : Carried) (room : ℕ) → appends (follow g p room).answer ≡ (follow g p room).append
follow-appends lost p room = refl
follow-appends ready p room = join-appends 0 0 0 p room
follow-appends (filling t f r c n) p room = go (eqb t p.timestamp && eqb f p.f)
  where
    go : (b : Bool) → appends (join_if_same b r c n p room).answer ≡ (join_if_same b r c n p room).append
    go true = join-appends r c n p room
    go false = refl

-- "Held and whole append their cells after the gathered ones; other answers write nothing."
pub store-after : (st : State) (L : Layout) (octets store : List ℕ) → StoreAfter store (step st L octets store)
store-after st L octets store =
    step_is st L octets store (StoreAfter store) (λ x e. refl) (λ e. refl) (λ n e. refl)
    (λ from k q h g m e. ap (λ (t : Bool). appended t g k store) (sym (follow-appends g (carried k) (length store)) ∙ e))

-- what a fresh packet leaves, marked or not
record Leaves (marker : Bool) (x : Gather) : Type 0 where
  marked : marker ≡ true → x.gathered ≡ ready
  unmarked : marker ≡ false → (x.answer ≡ answer.Held → ⊥) → x.gathered ≡ lost

dropped-leaves : (a : Answer) (m : Bool) → Leaves m (dropped a m)
dropped-leaves a m = record { marked = λ e. rw e; unmarked = λ e n. rw e }

taken-leaves : (p : Carried) (r c n : ℕ) → Leaves p.marked (taken p r c n)
taken-leaves p r c n = record { marked = λ e. rw e; unmarked = λ e h. absurd (h (rw e)) }

join-leaves : (r c n : ℕ) (p : Carried) (room : ℕ) → Leaves p.marked (join r c n p room)
join-leaves r c n p room = go (join_fits r c n p room) _
  where
    go : (b : Bool) (m : ℕ) → Leaves p.marked (join_if_fits b p (r + p.records) (c + p.cells) m)
    go true m = taken-leaves p (r + p.records) (c + p.cells) m
    go false m = dropped-leaves answer.Overfull p.marked

follow-leaves : (g : Gathered) (p : Carried) (room : ℕ) → Leaves p.marked (follow g p room)
follow-leaves lost p room = dropped-leaves answer.Skipped p.marked
follow-leaves ready p room = join-leaves 0 0 0 p room
follow-leaves (filling t f r c n) p room = go (eqb t p.timestamp && eqb f p.f)
  where
    go : (b : Bool) → Leaves p.marked (join_if_same b r c n p room)
    go true = join-leaves r c n p room
    go false = dropped-leaves answer.Mixed p.marked

-- a field of as many packets as there can be takes no more
pub full-of-packets : FullOfPackets
full-of-packets t f r c room p e h =
    let over : join_fits r c max_field_packets p room ≡ false = simp and-false in
    rw (eq-eqb t p.timestamp e, eq-eqb f p.f h) (rw over)

fresh-phase : (st : State) (g : Gathered) (missing : ℕ) (k : Content) (store : List ℕ) → PhaseAfter k (fresh_step st g missing k store)
fresh-phase st g missing k store =
    let l = follow-leaves g (carried k) (length store) in
    record {
      marked = λ f e. ap phase_of (l.marked (eq-eqb k.marker 1 e));
      unmarked = λ f e n. ap phase_of (l.unmarked (ne_eqb k.marker 1 (omega arith)) n);
    }

-- "After any marked fresh arrival the keeper is ready; after an unmarked one that isn't held it is lost."
pub phase-after : (st : State) (L : Layout) (octets store : List ℕ) (k : Content) → read_content L octets ≡ Ok k
    → PhaseAfter k (step st L octets store)
phase-after st L octets store k e =
    step_is st L octets store (PhaseAfter k) (λ x. record { marked = λ f m. absurd (f x refl); unmarked = λ f m n. absurd (f x refl) })
    (record { marked = λ f m. absurd (f _ refl); unmarked = λ f m n. absurd (f _ refl) })
    (λ n. record { marked = λ f m. absurd (f _ refl); unmarked = λ f m n. absurd (f _ refl) })
    (λ from k' e' h g m.
    let q : k' ≡ k = cc in
    rw q (fresh-phase from g m k store))

-- "Any fresh arrival clears the memory"; of the others a far one alone changes it
pub memory-after : (st : State) (L : Layout) (octets store : List ℕ) → MemoryAfter st L octets (step st L octets store)
memory-after st L octets store = record { fresh = fresh; far = far; other = other }
  where
    fresh : IsFresh (step st L octets store).answer → (step st L octets store).state.remembers ≡ false
    fresh =
        step_is st L octets store (λ (x : Step). IsFresh x.answer → x.state.remembers ≡ false) (λ x f. absurd (f x refl)) (λ f. absurd (f _ refl))
        (λ n f. absurd (f _ refl))
        (λ from k e h g m f. refl)

    other : (r : Refusal) → (step st L octets store).answer ≡ answer.Refused r → (r.number ≡ 36 → ⊥)
        → ((step st L octets store).state.remembers ≡ st.remembers) × ((step st L octets store).state.remembered ≡ st.remembered)
    other =
        step_is st L octets store
        (λ (x : Step). (r : Refusal) → x.answer ≡ answer.Refused r → (r.number ≡ 36 → ⊥) → (x.state.remembers ≡ st.remembers) × (x.state.remembered ≡ st.remembered))
        (λ x r e n. (refl, refl)) (λ r e n. (refl, refl)) (λ m r e n. absurd (n (sym (ap (λ (x : Refusal). x.number) (refusal-inj e)))))
        (λ from k q h g m r e n. absurd (not-refused _ r (follow-answers g (carried k) (length store)) e))

    far : (r : Refusal) → (step st L octets store).answer ≡ answer.Refused r → r.number ≡ 36 → (k : Content) → read_content L octets ≡ Ok k
        → ((step st L octets store).state.remembers ≡ true) × ((step st L octets store).state.remembered.0 ≡ (k.number + 1) % 2 ^ 32)
    far r e n k q =
        let f = (refused-keeps st L octets store r e).far n in
        let p : read_content L octets ≡ Ok f.0 = (passed st L (length store) octets f.0 f.1).1 in
        let same : f.0 ≡ k = cc in (
          ap (λ (z : Step). z.state.remembers) f.2,
          ap (λ (z : Step). z.state.remembered.0) f.2 ∙ ap (λ (c : Content). (c.number + 1) % 2 ^ 32) same,
        )
