-- A state that 35 lets pass stays one: over every packet and store.
-- By what is gathered, and the tests: what joined is within the limits and the store.
use mathlib.Core.Path.{◌≡◌, refl, ◌∙◌, ap, sym, subst}
use mathlib.Core.Bool.{Bool, true, false, cond, ◌&&◌}
use mathlib.Core.List.{List, []}
use Prim.Native.Nat.{ℕ, ◌+◌, ◌≤◌}
use native.Mathlib.Omega.{arith}
use lib.Dec.{eqb}
use lib.ListN.{length}
use Rattle.wire_spec.specs.Layout.{Layout, rfc8331}
use Rattle.wire_spec.specs.Cells.{list_in}
use Rattle.wire_spec.specs.Packet.{Content}
use Rattle.wire_spec.proofs.CellLaws.{length-in}
use Rattle.wire_spec.proofs.ListLaws.{length-splice}
use Rattle.depacketizer_spec.specs.declared.state.State.{State}
use Rattle.depacketizer_spec.specs.Step.{Gathered, lost, ready, filling, gathered_cells, Carried, carried, fits, join_fits, join_if_fits, join, join_if_same, follow, appended, sound, admit, Step, step}
use Rattle.depacketizer_spec.specs.Laws.{Passes35}
use Rattle.depacketizer_spec.proofs.FitLaws.{gathered_fits, nothing-fits, taken-fits, sound-heard, follow-room}
use Rattle.depacketizer_spec.proofs.NumberLaws.{admit-numbered}
use Rattle.depacketizer_spec.proofs.StepLaws.{sound-step, admitted-not-35, step-refused, step_is}

dropped-fits : (b : Bool) (room : ℕ) → gathered_fits (cond b ready lost) room ≡ true
dropped-fits true room = rw (nothing-fits room)
dropped-fits false room = rw (nothing-fits room)

join-fits : (r c n : ℕ) (p : Carried) (room : ℕ) → gathered_fits (join r c n p room).gathered room ≡ true
join-fits r c n p room = go (join_fits r c n p room) _ refl refl
  where
    go : (b : Bool) (m : ℕ) → join_fits r c n p room ≡ b → n + 1 ≡ m → gathered_fits (join_if_fits b p (r + p.records) (c + p.cells) m).gathered room ≡ true
    go true m e h = taken-fits p.marked p.timestamp p.f (r + p.records) (c + p.cells) m room (omega arith) (subst (λ (x : ℕ). fits (r + p.records) (c + p.cells) x room ≡ true) h e)
    go false m e h = dropped-fits p.marked room

follow-fits : (g : Gathered) (p : Carried) (room : ℕ) → gathered_fits (follow g p room).gathered room ≡ true
follow-fits lost p room = dropped-fits p.marked room
follow-fits ready p room = join-fits 0 0 0 p room
follow-fits (filling t f r c n) p room = go (eqb t p.timestamp && eqb f p.f)
  where
    go : (b : Bool) → gathered_fits (join_if_same b r c n p room).gathered room ≡ true
    go true = join-fits r c n p room
    go false = dropped-fits p.marked room

sound-after : (st : State) (L : Layout) (octets store : List ℕ) → sound st (length store) ≡ true → sound (step st L octets store).state (length store) ≡ true
sound-after st L octets store e =
    step_is st L octets store (λ (x : Step). sound x.state (length store) ≡ true) (λ x. e) e (λ n. e)
    (λ from k q h g m.
    sound-heard (follow g (carried k) (length store)).gathered (length store) (follow-fits g (carried k) (length store)))

sound-passes : (st : State) (store : List ℕ) → sound st (length store) ≡ true → Passes35 st store
sound-passes st store h L octets x e n =
    admitted-not-35 st (admit L st.source st.payload_type octets) store x (admit-numbered L st.source st.payload_type octets)
    (sym (ap (λ (z : Step). z.answer) (sound-step st L octets store h)) ∙ e)
    n

passes-sound : (st : State) (store : List ℕ) → Passes35 st store → sound st (length store) ≡ true
passes-sound st store p = go (sound st (length store)) refl
  where
    go : (b : Bool) → sound st (length store) ≡ b → b ≡ true
    go true e = refl
    go false e =
        absurd (p rfc8331 [] (record { number = 35; index = 0 }) (ap (λ (z : Step). z.answer) (step-refused st rfc8331 [] store (record { number = 35; index = 0 }) (rw e))) refl)

appended-length : (t : Bool) (g : Gathered) (k : Content) (store : List ℕ) → (follow g (carried k) (length store)).append ≡ t
    → length (appended t g k store) ≡ length store
appended-length true g k store e = length-splice store (gathered_cells g) (list_in _ k.records) (room _)
  where
    room : (n : ℕ) → gathered_cells g + length (list_in n k.records) ≤ length store
    room n = omega (arith, length-in n k.records, follow-room g (carried k) (length store) e)
appended-length false g k store e = refl

-- a step keeps the store's length
pub length-after : (st : State) (L : Layout) (octets store : List ℕ) → length (step st L octets store).store ≡ length store
length-after st L octets store =
    step_is st L octets store (λ (x : Step). length x.store ≡ length store) (λ x. refl) refl (λ n. refl)
    (λ from k q h g m. appended-length _ g k store refl)

-- from a state that 35 lets pass, a step gives a state that 35 lets pass with the store that the step leaves
pub passes-after : (st : State) (L : Layout) (octets store : List ℕ) → Passes35 st store
    → Passes35 (step st L octets store).state (step st L octets store).store
passes-after st L octets store p =
    let z : Step = step st L octets store in
    sound-passes z.state z.store
    (ap (λ (n : ℕ). sound z.state n) (length-after st L octets store) ∙ sound-after st L octets store (passes-sound st store p))
