-- THE TABLE OF AN ARRIVAL, over every state.
-- The checks in their order and the place of the number tell which case it is, and the case tells the step.
use mathlib.Core.Path.{◌≡◌, refl, ◌∙◌, ap, sym, subst}
use mathlib.Core.Bool.{Bool, true, false, true≢false, cond, ◌&&◌, ◌||◌}
use mathlib.Core.List.{List}
use mathlib.Core.Logic.{◌⊎◌, inl, inr, ◌↔◌}
use Prim.Native.Nat.{ℕ, zero, suc, ◌+◌, ◌-◌, ◌^◌, ◌%◌, ◌≤◌, ◌<◌}
use native.Mathlib.Nat.{add-zero}
use native.Mathlib.Omega.{arith}
use lib.Dec.{eqb, leb, ltb}
use lib.IntN.{pos}
use lib.ListN.{length}
use borrow.Author.Tests.{leb-true, leb-false, eqb-true, eqb-false, le-leb, lt-leb, lt-ltb, le-ltb, eq-eqb, ne_eqb}
use Rattle.wire_spec.specs.declared.refusal.Refusal.{Refusal}
use Rattle.wire_spec.specs.Bits.{splice}
use Rattle.wire_spec.specs.Layout.{Layout}
use Rattle.wire_spec.specs.Result.{Result, Err, Ok}
use Rattle.wire_spec.specs.Cells.{list_in, list_of}
use Rattle.wire_spec.specs.Packet.{Content, read_content}
use Rattle.wire_spec.proofs.ResultLaws.{Numbered, and-true, and_both}
use Rattle.wire_spec.proofs.ListLaws.{splice-is}
use Rattle.depacketizer_spec.specs.declared.state.State.{State}
use Rattle.depacketizer_spec.specs.declared.state.Phase.{Phase}
use Rattle.depacketizer_spec.specs.declared.state.Phase.TheVariants as phase
use Rattle.depacketizer_spec.specs.declared.state.Answer.{Answer}
use Rattle.depacketizer_spec.specs.declared.state.Answer.TheVariants as answer
use Rattle.depacketizer_spec.specs.Step.{Gathered, lost, ready, filling, gathered_in, gathered, carried, marked, Gather, dropped, fits, join_fits, join_if_fits, join, join_if_same, follow, Step, after, fresh_step, late_step, far_step, open_state, is_remembered, Class, late, next, far, ahead, classify, distance, far_or_restart, class_step, packet_step, is_filling, is_lost, packets_ok, sound, step, phase_of, whole_if_marked, field_with, open_of}
use Rattle.depacketizer_spec.specs.Laws.{IsFresh}
use Rattle.depacketizer_spec.specs.Table as table
use Rattle.depacketizer_spec.specs.Table.{Named35, Own, After, IsLate, IsFar, Remembers, no, Same, Lates, Fars, Counts, stopped, Empty, Drops, Allowed, Appends, Holds, Completes, Takes, Follows, Told, FreshNow, SkippedNow, Enters, Following, AllowedWith, Answered, Exactly, Opens}
use Rattle.depacketizer_spec.specs.Memory.{RestartsIf}
use Rattle.depacketizer_spec.specs.Stream.{Restarts}
use Rattle.depacketizer_spec.proofs.NumberLaws.{is_reading, content-numbered, admit-own}
use Rattle.depacketizer_spec.proofs.StepLaws.{follow-answers, not-refused, unchanged, step-refused, step-admitted}

and_split : (a b : Bool) → a && b ≡ false → (a ≡ false) ⊎ (b ≡ false)
and_split true b e = inr e
and_split false b e = inl refl

positive : (n : ℕ) → eqb n 0 ≡ false → 0 < n
positive zero e = absurd (true≢false e)
positive (suc n) e = omega arith

-- 35

module _ (st : State) (room : ℕ) where
  abbrev left_ok : Bool
  left_ok = is_filling st.phase || (eqb st.records 0 && eqb st.cells 0)

  abbrev heard_ok : Bool
  heard_ok = st.heard || is_lost st.phase

  fits-named : fits st.records st.cells st.packets room ≡ false → Named35 st room
  fits-named e = records (and_split (leb st.records 4095) _ e)
    where
      packets : (leb st.cells room ≡ false) ⊎ (leb st.packets 4096 ≡ false) → Named35 st room
      packets (inl h) = table.over_store (leb-false st.cells room h)
      packets (inr h) = table.over_packets (leb-false st.packets 4096 h)

      cells : (leb st.cells 36864 ≡ false) ⊎ (leb st.cells room && leb st.packets 4096 ≡ false) → Named35 st room
      cells (inl h) = table.over_cells (leb-false st.cells 36864 h)
      cells (inr h) = packets (and_split (leb st.cells room) _ h)

      records : (leb st.records 4095 ≡ false) ⊎ (leb st.cells 36864 && (leb st.cells room && leb st.packets 4096) ≡ false) → Named35 st room
      records (inl h) = table.over_records (leb-false st.records 4095 h)
      records (inr h) = cells (and_split (leb st.cells 36864) _ h)

  other-phase : (p : Phase) → st.phase ≡ p → is_filling p ≡ false → st.phase ≡ phase.Filling → ⊥
  other-phase p e h q = true≢false (sym (ap is_filling (sym e ∙ q)) ∙ h)

  packets-named : (p : Phase) → st.phase ≡ p → packets_ok p st.packets ≡ false → Named35 st room
  packets-named phase.Lost e h = table.unfilled (other-phase phase.Lost e refl) (omega (arith, positive st.packets h))
  packets-named phase.Ready e h = table.unfilled (other-phase phase.Ready e refl) (omega (arith, positive st.packets h))
  packets-named phase.Filling e h = table.no_packet e (omega (arith, leb-false 1 st.packets h))

  left-named : (p : Phase) → st.phase ≡ p → is_filling p || (eqb st.records 0 && eqb st.cells 0) ≡ false → Named35 st room
  left-named p e h = go (is_filling p) refl h
    where
      some : (eqb st.records 0 ≡ false) ⊎ (eqb st.cells 0 ≡ false) → 0 < st.records + st.cells + st.packets
      some (inl q) = omega (arith, positive st.records q)
      some (inr q) = omega (arith, positive st.cells q)

      go : (b : Bool) → is_filling p ≡ b → b || (eqb st.records 0 && eqb st.cells 0) ≡ false → Named35 st room
      go true f h = absurd (true≢false h)
      go false f h = table.unfilled (other-phase p e f) (some (and_split (eqb st.records 0) _ h))

  heard-named : (p : Phase) → st.phase ≡ p → (b : Bool) → st.heard ≡ b → b || is_lost p ≡ false → Named35 st room
  heard-named p e true q h = absurd (true≢false h)
  heard-named p e false q h = table.unheard q (λ l. true≢false (sym (ap is_lost (sym e ∙ l)) ∙ h))

  unsound-named : sound st room ≡ false → Named35 st room
  unsound-named e = first (and_split (fits st.records st.cells st.packets room) _ e)
    where
      third : (left_ok ≡ false) ⊎ (heard_ok ≡ false) → Named35 st room
      third (inl h) = left-named st.phase refl h
      third (inr h) = heard-named st.phase refl st.heard refl h

      second : (packets_ok st.phase st.packets ≡ false) ⊎ (left_ok && heard_ok ≡ false) → Named35 st room
      second (inl h) = packets-named st.phase refl h
      second (inr h) = third (and_split left_ok heard_ok h)

      first : (fits st.records st.cells st.packets room ≡ false) ⊎ (packets_ok st.phase st.packets && (left_ok && heard_ok) ≡ false) → Named35 st room
      first (inl h) = fits-named h
      first (inr h) = second (and_split (packets_ok st.phase st.packets) _ h)

  named-breaks : Named35 st room → sound st room ≡ true → ⊥
  named-breaks n e = go n
    where
      empty : eqb st.packets 0 ≡ true → eqb st.records 0 && eqb st.cells 0 ≡ true → 0 < st.records + st.cells + st.packets → ⊥
      empty m l h =
          let z = and-true (eqb st.records 0) (eqb st.cells 0) l in
          omega (arith, h, eqb-true st.packets 0 m, eqb-true st.records 0 z.0, eqb-true st.cells 0 z.1)

      unfilled : (w : Phase) → st.phase ≡ w → packets_ok w st.packets ≡ true → is_filling w || (eqb st.records 0 && eqb st.cells 0) ≡ true
          → (st.phase ≡ phase.Filling → ⊥) → 0 < st.records + st.cells + st.packets → ⊥
      unfilled phase.Lost e m l f h = empty m l h
      unfilled phase.Ready e m l f h = empty m l h
      unfilled phase.Filling e m l f h = f e

      unheard : (w : Phase) → st.phase ≡ w → false || is_lost w ≡ true → (st.phase ≡ phase.Lost → ⊥) → ⊥
      unheard phase.Lost e h f = f e
      unheard phase.Ready e h f = true≢false (sym h)
      unheard phase.Filling e h f = true≢false (sym h)

      p : (fits st.records st.cells st.packets room ≡ true) × (packets_ok st.phase st.packets && (left_ok && heard_ok) ≡ true)
      p = and-true (fits st.records st.cells st.packets room) (packets_ok st.phase st.packets && (left_ok && heard_ok)) e

      q : (packets_ok st.phase st.packets ≡ true) × (left_ok && heard_ok ≡ true)
      q = and-true (packets_ok st.phase st.packets) (left_ok && heard_ok) p.1

      u : (left_ok ≡ true) × (heard_ok ≡ true)
      u = and-true left_ok heard_ok q.1

      r : (leb st.records 4095 ≡ true) × (leb st.cells 36864 && (leb st.cells room && leb st.packets 4096) ≡ true)
      r = and-true (leb st.records 4095) (leb st.cells 36864 && (leb st.cells room && leb st.packets 4096)) p.0

      c : (leb st.cells 36864 ≡ true) × (leb st.cells room && leb st.packets 4096 ≡ true)
      c = and-true (leb st.cells 36864) (leb st.cells room && leb st.packets 4096) r.1

      d : (leb st.cells room ≡ true) × (leb st.packets 4096 ≡ true)
      d = and-true (leb st.cells room) (leb st.packets 4096) c.1

      go : Named35 st room → ⊥
      go (table.over_records h) = omega (arith, h, leb-true st.records 4095 r.0)
      go (table.over_cells h) = omega (arith, h, leb-true st.cells 36864 c.0)
      go (table.over_store h) = omega (arith, h, leb-true st.cells room d.0)
      go (table.over_packets h) = omega (arith, h, leb-true st.packets 4096 d.1)
      go (table.no_packet f h) = omega (arith, h, leb-true 1 st.packets (subst (λ (w : Phase). packets_ok w st.packets ≡ true) f q.0))
      go (table.unfilled f h) = unfilled st.phase refl q.0 u.0 f h
      go (table.unheard f h) = unheard st.phase refl (subst (λ (w : Bool). w || is_lost st.phase ≡ true) f u.1) h

  sound-passes : (Named35 st room → ⊥) → sound st room ≡ true
  sound-passes f = go (sound st room) refl
    where
      go : (b : Bool) → sound st room ≡ b → b ≡ true
      go true e = refl
      go false e = absurd (f (unsound-named e))

  named-unsound : Named35 st room → sound st room ≡ false
  named-unsound n = go (sound st room) refl
    where
      go : (b : Bool) → sound st room ≡ b → b ≡ false
      go true e = absurd (named-breaks n e)
      go false e = refl

-- THE PLACE OF A NUMBER: late, next, ahead or far
abbrev Places : (last number : ℕ) → Type 0
Places last number = IsLate last number ⊎ (After last number 1 ⊎ (((d : ℕ) × (2 ≤ d) × (d ≤ 2999) × After last number d) ⊎ IsFar last number))

module _ (last number : ℕ) (small : last < 2 ^ 32) where
  abbrev residue : ℕ
  residue = (number + (2 ^ 32 - last)) % 2 ^ 32

  place-late : IsLate last number → classify (distance last number) ≡ late
  place-late (zero, m, e) = let z : residue ≡ 0 = omega arith in rw z
  place-late (suc b, m, e) =
      let z : residue ≡ 2 ^ 32 - suc b = omega arith in
      rw (z, le-ltb (2 ^ 32 - suc b) (2 ^ 31) (omega arith)) (rw (le-leb (suc (2 ^ 32 - suc (2 ^ 32 - suc b))) 99 (omega arith)))

  place-next : After last number 1 → classify (distance last number) ≡ next
  place-next e = let z : residue ≡ 1 = omega arith in rw z

  place-ahead : (d : ℕ) → 2 ≤ d → d ≤ 2999 → After last number d → classify (distance last number) ≡ ahead (d - 1)
  place-ahead zero l m e = absurd (omega arith)
  place-ahead (suc zero) l m e = absurd (omega arith)
  place-ahead (suc (suc d)) l m e =
      let z : residue ≡ suc (suc d) = omega arith in
      rw (z, lt-ltb (suc (suc d)) (2 ^ 31) (omega arith)) (rw (le-leb (suc (suc d)) 2999 m) (let q : suc d ≡ suc (suc d) - 1 = omega arith in ap ahead q))

  place-far : IsFar last number → classify (distance last number) ≡ far
  place-far (d, l, m, e) = go (ltb d (2 ^ 31)) refl
    where
      z : residue ≡ d
      z = omega arith

      above : (d : ℕ) → 3000 ≤ d → classify (pos d) ≡ far
      above zero l = absurd (omega arith)
      above (suc zero) l = absurd (omega arith)
      above (suc (suc d)) l = rw (lt-leb (suc (suc d)) 2999 (omega arith))

      go : (b : Bool) → ltb d (2 ^ 31) ≡ b → classify (distance last number) ≡ far
      go true h = rw (z, h) (above d l)
      go false h = rw (z, h) (rw (lt-leb (suc (2 ^ 32 - suc d)) 99 (omega arith)))

  -- every number has a place
  placed : Places last number
  placed = zeroth (leb residue 0) refl
    where
      is : After last number residue
      is = omega arith

      third : (b : Bool) → leb (residue + 100) (2 ^ 32) ≡ b → 3000 ≤ residue → Places last number
      third true e l = inr (inr (inr (residue, l, leb-true (residue + 100) (2 ^ 32) e, is)))
      third false e l =
          let q : 2 ^ 32 < residue + 100 = leb-false (residue + 100) (2 ^ 32) e in
          inl (2 ^ 32 - residue, omega arith, omega arith)

      second : (b : Bool) → leb residue 2999 ≡ b → 2 ≤ residue → Places last number
      second true e l = inr (inr (inl (residue, l, leb-true residue 2999 e, is)))
      second false e l = third (leb (residue + 100) (2 ^ 32)) refl (leb-false residue 2999 e)

      first : (b : Bool) → leb residue 1 ≡ b → 1 ≤ residue → Places last number
      first true e l = let q : residue ≤ 1 = leb-true residue 1 e in inr (inl (omega arith))
      first false e l = second (leb residue 2999) refl (leb-false residue 1 e)

      zeroth : (b : Bool) → leb residue 0 ≡ b → Places last number
      zeroth true e = let q : residue ≤ 0 = leb-true residue 0 e in inl (0, omega arith, omega arith)
      zeroth false e = first (leb residue 1) refl (leb-false residue 0 e)

-- WHAT A FRESH PACKET DOES

module _ (from : State) (k : Content) (store : List ℕ) (missing : ℕ) where
  counts : (g : Gathered) → Counts from k.number (stopped (from.fresh + 1)) from.late (stopped (from.missing + missing)) (after from k.number g missing)
  counts g = record { source = refl; type = refl; heard = refl; last = refl; fresh = refl; late = refl; missing = refl; forgets = refl; forgotten = refl }

  -- none missing before it
  counts-on : (g : Gathered) → Counts from k.number (stopped (from.fresh + 1)) from.late (stopped from.missing) (after from k.number g 0)
  counts-on g = record { source = refl; type = refl; heard = refl; last = refl; fresh = refl; late = refl; missing = ap stopped (add-zero from.missing); forgets = refl; forgotten = refl }

  -- the step that drops, with this answer
  abbrev dropping : Answer → Step
  dropping a = record { answer = a; state = after from k.number (dropped a (marked k)).gathered missing; store = store }

  drops : (a : Answer) → Drops a k store (dropping a)
  drops a =
      record {
        answer = refl;
        ready = λ e. ap (λ (b : Bool). phase_of (cond b ready lost)) (eq-eqb k.marker 1 e);
        lost = λ e. ap (λ (b : Bool). phase_of (cond b ready lost)) (ne_eqb k.marker 1 e);
        empty = go (marked k);
        store = refl;
      }
    where
      go : (b : Bool) → Empty (after from k.number (cond b ready lost) missing)
      go true = record { timestamp = refl; f = refl; records = refl; cells = refl; packets = refl }
      go false = record { timestamp = refl; f = refl; records = refl; cells = refl; packets = refl }

  module _ (r c n : ℕ) where
    abbrev r' : ℕ
    r' = r + length k.records

    abbrev c' : ℕ
    c' = c + length (list_of k.records)

    -- the step that takes it, marked or not
    abbrev taking : Bool → Step
    taking m =
        record {
          answer = whole_if_marked m (field_with (carried k) r' c' (n + 1));
          state = after from k.number (cond m ready (filling k.timestamp k.f r' c' (n + 1))) missing;
          store = splice store c (list_in n k.records);
        }

    taken-takes : (m : Bool) → marked k ≡ m → Allowed r' c' (n + 1) (length store) → Takes k r c n store (taking m)
    taken-takes true e al =
        table.whole al (eqb-true k.marker 1 e)
        (record { answer = refl; ready = refl; empty = record { timestamp = refl; f = refl; records = refl; cells = refl; packets = refl } })
        (splice-is store c (list_in n k.records))
    taken-takes false e al =
        table.held al (eqb-false k.marker 1 e)
        (record { answer = refl; phase = refl; timestamp = refl; f = refl; records = refl; cells = refl; packets = refl })
        (splice-is store c (list_in n k.records))

    -- the step that takes it where it fits
    abbrev joining : Gather → Step
    joining j = record { answer = j.answer; state = after from k.number j.gathered missing; store = cond j.append (splice store c (list_in n k.records)) store }

    takes : Takes k r c n store (joining (join r c n (carried k) (length store)))
    takes = go (join_fits r c n (carried k) (length store)) refl
      where
        allowed : fits r' c' (n + 1) (length store) ≡ true → Allowed r' c' (n + 1) (length store)
        allowed e =
            let x = and-true (leb r' 4095) (leb c' 36864 && (leb c' (length store) && leb (n + 1) 4096)) e in
            let y = and-true (leb c' 36864) (leb c' (length store) && leb (n + 1) 4096) x.1 in
            let z = and-true (leb c' (length store)) (leb (n + 1) 4096) y.1 in
            record { records = leb-true r' 4095 x.0; cells = leb-true c' 36864 y.0; lent = leb-true c' (length store) z.0; packets = leb-true (n + 1) 4096 z.1 }

        fitting : Allowed r' c' (n + 1) (length store) → fits r' c' (n + 1) (length store) ≡ true
        fitting al =
            and_both (le-leb r' 4095 al.records) (and_both (le-leb c' 36864 al.cells) (and_both (le-leb c' (length store) al.lent) (le-leb (n + 1) 4096 al.packets)))

        go : (b : Bool) → join_fits r c n (carried k) (length store) ≡ b → Takes k r c n store (joining (join_if_fits b (carried k) r' c' (n + 1)))
        go true e = taken-takes (marked k) refl (allowed e)
        go false e = table.overfull (λ al. true≢false (sym (fitting al) ∙ e)) (drops answer.Overfull)

follows : (st : State) (k : Content) (store : List ℕ) → Follows st k store (fresh_step st (gathered st) 0 k store)
follows st k store = go st.phase refl
  where
    filled : (b : Bool) → eqb st.timestamp.0 k.timestamp && eqb st.f k.f ≡ b → st.phase ≡ phase.Filling
        → Follows st k store (joining st k store 0 st.records st.cells st.packets (join_if_same b st.records st.cells st.packets (carried k) (length store)))
    filled true e p =
        let a = and-true (eqb st.timestamp.0 k.timestamp) (eqb st.f k.f) e in
        table.joins p (eqb-true st.timestamp.0 k.timestamp a.0) (eqb-true st.f k.f a.1) (takes st k store 0 st.records st.cells st.packets)
    filled false e p =
        table.mixes p
        (λ h. true≢false (sym (and_both (eq-eqb st.timestamp.0 k.timestamp h.0) (eq-eqb st.f k.f h.1)) ∙ e))
        (drops st k store 0 answer.Mixed)

    go : (p : Phase) → st.phase ≡ p → Follows st k store (fresh_step st (gathered_in p st.timestamp.0 st.f st.records st.cells st.packets) 0 k store)
    go phase.Lost e = table.skips e (drops st k store 0 answer.Skipped)
    go phase.Ready e = table.starts e (takes st k store 0 0 0 0)
    go phase.Filling e = filled (eqb st.timestamp.0 k.timestamp && eqb st.f k.f) refl e

-- THE STEP OF EACH CASE

remembered-is : (st : State) (number : ℕ) → Remembers st number → is_remembered st number ≡ true
remembered-is st number h = and_both h.0 (eq-eqb st.remembered.0 number h.1)

forgotten-is : (st : State) (number : ℕ) → (Remembers st number → ⊥) → is_remembered st number ≡ false
forgotten-is st number h = go (is_remembered st number) refl
  where
    go : (b : Bool) → is_remembered st number ≡ b → b ≡ false
    go true e = let p = and-true st.remembers (eqb st.remembered.0 number) e in absurd (h (p.0, eqb-true st.remembered.0 number p.1))
    go false e = refl

module _ (st : State) (L : Layout) (octets store : List ℕ) where
  abbrev x : Step
  x = step st L octets store

  abbrev room : ℕ
  room = length store

  step-35 : Named35 st room → x ≡ unchanged st store (no 35)
  step-35 n = step-refused st L octets store (no 35) (rw (named-unsound st room n))

  step-unread : (Named35 st room → ⊥) → (r : Refusal) → read_content L octets ≡ Err r → x ≡ unchanged st store r
  step-unread f r e = step-refused st L octets store r (rw (sound-passes st room f, e))

  step-30 : (Named35 st room → ⊥) → (k : Content) → read_content L octets ≡ Ok k → (k.source ≡ st.source → ⊥) → x ≡ unchanged st store (no 30)
  step-30 f k e s = step-refused st L octets store (no 30) (rw (sound-passes st room f, e, ne_eqb k.source st.source s))

  step-31 : (Named35 st room → ⊥) → (k : Content) → read_content L octets ≡ Ok k → k.source ≡ st.source → (k.type ≡ st.payload_type → ⊥)
      → x ≡ unchanged st store (no 31)
  step-31 f k e s t =
      step-refused st L octets store (no 31)
      (rw (sound-passes st room f, e, eq-eqb k.source st.source s, ne_eqb k.type st.payload_type t))

  module _ (k : Content) (own : Own st L octets store k) where
    abbrev n : ℕ
    n = k.number

    own-step : x ≡ packet_step st.heard st k store
    own-step =
        step-admitted st L octets store k
        (rw (sound-passes st room own.passes) (admit-own L st.source st.payload_type octets k own.reads own.source own.type))

    step-first : st.heard ≡ false → x ≡ fresh_step st lost 0 k store
    step-first h = own-step ∙ ap (λ (b : Bool). packet_step b st k store) h

    module _ (heard : st.heard ≡ true) where
      classed : (c : Class) → classify (distance st.last.0 n) ≡ c → x ≡ class_step c st k store
      classed c e = own-step ∙ ap (λ (b : Bool). packet_step b st k store) heard ∙ ap (λ (d : Class). class_step d st k store) e

      module _ (small : st.last.0 < 2 ^ 32) where
        step-late : IsLate st.last.0 n → x ≡ late_step st store
        step-late h = classed late (place-late st.last.0 n small h)

        step-next : After st.last.0 n 1 → x ≡ fresh_step st (gathered st) 0 k store
        step-next h = classed next (place-next st.last.0 n small h)

        step-ahead : (d : ℕ) → 2 ≤ d → d ≤ 2999 → After st.last.0 n d → x ≡ fresh_step st lost (d - 1) k store
        step-ahead d l m h = classed (ahead (d - 1)) (place-ahead st.last.0 n small d l m h)

        step-far : IsFar st.last.0 n → (Remembers st n → ⊥) → x ≡ far_step st n store
        step-far h r = classed far (place-far st.last.0 n small h) ∙ ap (λ (b : Bool). far_or_restart b st k store) (forgotten-is st n r)

        step-restart : IsFar st.last.0 n → Remembers st n → x ≡ fresh_step (open_state st.source st.payload_type) lost 0 k store
        step-restart h r = classed far (place-far st.last.0 n small h) ∙ ap (λ (b : Bool). far_or_restart b st k store) (remembered-is st n r)

lates : (st : State) (store : List ℕ) → Lates st store (late_step st store)
lates st store =
    record {
      answer = refl;
      state = record { source = refl; type = refl; phase = refl; heard = refl; last = refl; timestamp = refl; f = refl; records = refl; cells = refl; packets = refl; fresh = refl; missing = refl };
      late = refl;
      remembers = refl;
      remembered = refl;
      store = refl;
    }

fars : (st : State) (number : ℕ) (store : List ℕ) → Fars st number store (far_step st number store)
fars st number store =
    record {
      answer = refl;
      state = record { source = refl; type = refl; phase = refl; heard = refl; last = refl; timestamp = refl; f = refl; records = refl; cells = refl; packets = refl; fresh = refl; missing = refl };
      late = refl;
      remembers = refl;
      remembered = refl;
      store = refl;
    }

-- a far arrival
pub far-exactly : (st : State) (L : Layout) (octets store : List ℕ) (k : Content) → Own st L octets store k → st.heard ≡ true → st.last.0 < 2 ^ 32
    → IsFar st.last.0 k.number → RestartsIf (Remembers st k.number) st k store (step st L octets store)
far-exactly st L octets store k own heard small h =
    record {
      restarts =
          λ r.
          subst (λ (z : Step). Counts st k.number 1 0 0 z.state × Drops answer.Skipped k store z) (sym (step-restart st L octets store k own heard small h r))
          (record { source = refl; type = refl; heard = refl; last = refl; fresh = refl; late = refl; missing = refl; forgets = refl; forgotten = refl }, drops (open_state st.source st.payload_type) k store 0 answer.Skipped);
      refuses = λ r. subst (Fars st k.number store) (sym (step-far st L octets store k own heard small h r)) (fars st k.number store);
    }

-- what restarts, in other words
pub restarts-of : (st : State) (L : Layout) (octets store : List ℕ) (k : Content) → Own st L octets store k → st.heard ≡ true → st.last.0 < 2 ^ 32
    → IsFar st.last.0 k.number → Remembers st k.number → Restarts st L octets store
restarts-of st L octets store k own heard small h r =
    record {
      passes = sound-passes st (length store) own.passes;
      heard = heard;
      says = k;
      accepts = admit-own L st.source st.payload_type octets k own.reads own.source own.type;
      is_far = place-far st.last.0 k.number small h;
      remembered = remembered-is st k.number r;
    }

-- THE TABLE
pub told : (st : State) (L : Layout) (octets store : List ℕ) → st.last.0 < 2 ^ 32 → Told st L octets store (step st L octets store)
told st L octets store small = go (sound st (length store)) refl
  where
    far-told : (k : Content) → Own st L octets store k → st.heard ≡ true → IsFar st.last.0 k.number → (b : Bool) → is_remembered st k.number ≡ b
        → Told st L octets store (step st L octets store)
    far-told k own heard h true e =
        let p = and-true st.remembers (eqb st.remembered.0 k.number) e in
        let r : Remembers st k.number = (p.0, eqb-true st.remembered.0 k.number p.1) in
        let d = (far-exactly st L octets store k own heard small h).restarts r in
        table.restarts k own heard h r d.0 d.1
    far-told k own heard h false e =
        let r : (Remembers st k.number → ⊥) = λ r. true≢false (sym (remembered-is st k.number r) ∙ e) in
        table.far k own heard h r ((far-exactly st L octets store k own heard small h).refuses r)

    place-told : (k : Content) → Own st L octets store k → st.heard ≡ true → Places st.last.0 k.number → Told st L octets store (step st L octets store)
    place-told k own heard (inl h) =
        subst (Told st L octets store) (sym (step-late st L octets store k own heard small h)) (table.late k own heard h (lates st store))
    place-told k own heard (inr (inl h)) =
        subst (Told st L octets store) (sym (step-next st L octets store k own heard small h))
        (table.next k own heard h (counts-on st k store 0 (follow (gathered st) (carried k) (length store)).gathered) (follows st k store))
    place-told k own heard (inr (inr (inl (d, l, m, h)))) =
        subst (Told st L octets store) (sym (step-ahead st L octets store k own heard small d l m h))
        (table.ahead k own heard d l m h (counts st k store (d - 1) (cond (marked k) ready lost)) (drops st k store (d - 1) answer.Skipped))
    place-told k own heard (inr (inr (inr h))) = far-told k own heard h (is_remembered st k.number) refl

    own-told : (k : Content) → Own st L octets store k → (b : Bool) → st.heard ≡ b → Told st L octets store (step st L octets store)
    own-told k own false e =
        subst (Told st L octets store) (sym (step-first st L octets store k own e))
        (table.first k own e (counts-on st k store 0 (cond (marked k) ready lost)) (drops st k store 0 answer.Skipped))
    own-told k own true e = place-told k own e (placed st.last.0 k.number small)

    type-told : (Named35 st (length store) → ⊥) → (k : Content) → read_content L octets ≡ Ok k → k.source ≡ st.source
        → (b : Bool) → eqb k.type st.payload_type ≡ b → Told st L octets store (step st L octets store)
    type-told f k e s false t =
        let q = eqb-false k.type st.payload_type t in
        table.other_type f k e s q (step-31 st L octets store f k e s q)
    type-told f k e s true t =
        own-told k (record { passes = f; reads = e; source = s; type = eqb-true k.type st.payload_type t }) st.heard refl

    source_told : (Named35 st (length store) → ⊥) → (k : Content) → read_content L octets ≡ Ok k → (b : Bool) → eqb k.source st.source ≡ b
        → Told st L octets store (step st L octets store)
    source_told f k e false s =
        let q = eqb-false k.source st.source s in
        table.other_source f k e q (step-30 st L octets store f k e q)
    source_told f k e true s = type-told f k e (eqb-true k.source st.source s) (eqb k.type st.payload_type) refl

    read_told : (Named35 st (length store) → ⊥) → (r : Result Content) → read_content L octets ≡ r → Told st L octets store (step st L octets store)
    read_told f (Err r) e = table.unread f r e (step-unread st L octets store f r e)
    read_told f (Ok k) e = source_told f k e (eqb k.source st.source) refl

    go : (b : Bool) → sound st (length store) ≡ b → Told st L octets store (step st L octets store)
    go false e = let n = unsound-named st (length store) e in table.unsound n (step-35 st L octets store n)
    go true e = read_told (λ n. named-breaks st (length store) n e) (read_content L octets) refl

-- WHICH CASE IT IS, BY THE ANSWER

-- a refusal's number, 1 for the reader's; 0 for a fresh arrival
abbrev code_of : Answer → ℕ
code_of answer.Skipped = 0
code_of answer.Held = 0
code_of answer.Mixed = 0
code_of answer.Overfull = 0
code_of (answer.Whole x) = 0
code_of (answer.Refused r) = cond (is_reading r.number) 1 r.number

takes-code : {k : Content} {r c n : ℕ} {store : List ℕ} {x : Step} → Takes k r c n store x → code_of x.answer ≡ 0
takes-code (table.overfull f d) = ap code_of d.answer
takes-code (table.held al m h a) = ap code_of h.answer
takes-code (table.whole al m h a) = ap code_of h.answer

follows-code : {st : State} {k : Content} {store : List ℕ} {x : Step} → Follows st k store x → code_of x.answer ≡ 0
follows-code (table.skips p d) = ap code_of d.answer
follows-code (table.starts p d) = takes-code d
follows-code (table.mixes p f d) = ap code_of d.answer
follows-code (table.joins p t f d) = takes-code d

other : {A : Type 0} (a b : ℕ) → eqb a b ≡ false → a ≡ b → A
other a b n e = absurd (eqb-false a b n e)

module _ {st : State} {L : Layout} {octets store : List ℕ} {x : Step} where
  abbrev code : Told st L octets store x → ℕ
  code (table.unsound n e) = 35
  code (table.unread g r e q) = 1
  code (table.other_source g k e s q) = 30
  code (table.other_type g k e s t q) = 31
  code (table.late k o h p l) = 32
  code (table.far k o h p m l) = 36
  code (table.first k o h c d) = 0
  code (table.next k o h p c d) = 0
  code (table.ahead k o h d l m p c w) = 0
  code (table.restarts k o h p m c d) = 0

  coded : (t : Told st L octets store x) → code_of x.answer ≡ code t
  coded (table.unsound n e) = ap (λ (z : Step). code_of z.answer) e
  coded (table.unread g r e q) =
      ap (λ (z : Step). code_of z.answer) q
      ∙ ap (λ (b : Bool). cond b 1 r.number) (subst (Numbered is_reading) e (content-numbered L octets))
  coded (table.other_source g k e s q) = ap (λ (z : Step). code_of z.answer) q
  coded (table.other_type g k e s t q) = ap (λ (z : Step). code_of z.answer) q
  coded (table.late k o h p l) = ap code_of l.answer
  coded (table.far k o h p m l) = ap code_of l.answer
  coded (table.first k o h c d) = ap code_of d.answer
  coded (table.next k o h p c d) = follows-code d
  coded (table.ahead k o h d l m p c w) = ap code_of w.answer
  coded (table.restarts k o h p m c d) = ap code_of d.answer

  only-35 : (t : Told st L octets store x) → code t ≡ 35 → Named35 st (length store)
  only-35 (table.unsound n e) z = n
  only-35 (table.unread g r e q) z = other 1 35 refl z
  only-35 (table.other_source g k e s q) z = other 30 35 refl z
  only-35 (table.other_type g k e s t q) z = other 31 35 refl z
  only-35 (table.late k o h p l) z = other 32 35 refl z
  only-35 (table.far k o h p m l) z = other 36 35 refl z
  only-35 (table.first k o h c d) z = other 0 35 refl z
  only-35 (table.next k o h p c d) z = other 0 35 refl z
  only-35 (table.ahead k o h d l m p c w) z = other 0 35 refl z
  only-35 (table.restarts k o h p m c d) z = other 0 35 refl z

  only-read : (t : Told st L octets store x) → code t ≡ 1 → (Named35 st (length store) → ⊥)
  only-read (table.unsound n e) z = other 35 1 refl z
  only-read (table.unread g r e q) z = g
  only-read (table.other_source g k e s q) z = other 30 1 refl z
  only-read (table.other_type g k e s t q) z = other 31 1 refl z
  only-read (table.late k o h p l) z = other 32 1 refl z
  only-read (table.far k o h p m l) z = other 36 1 refl z
  only-read (table.first k o h c d) z = other 0 1 refl z
  only-read (table.next k o h p c d) z = other 0 1 refl z
  only-read (table.ahead k o h d l m p c w) z = other 0 1 refl z
  only-read (table.restarts k o h p m c d) z = other 0 1 refl z

  only-30 : (t : Told st L octets store x) → code t ≡ 30 → (Named35 st (length store) → ⊥) × (k : Content) × (read_content L octets ≡ Ok k) × (k.source ≡ st.source → ⊥)
  only-30 (table.unsound n e) z = other 35 30 refl z
  only-30 (table.unread g r e q) z = other 1 30 refl z
  only-30 (table.other_source g k e s q) z = (g, k, e, s)
  only-30 (table.other_type g k e s t q) z = other 31 30 refl z
  only-30 (table.late k o h p l) z = other 32 30 refl z
  only-30 (table.far k o h p m l) z = other 36 30 refl z
  only-30 (table.first k o h c d) z = other 0 30 refl z
  only-30 (table.next k o h p c d) z = other 0 30 refl z
  only-30 (table.ahead k o h d l m p c w) z = other 0 30 refl z
  only-30 (table.restarts k o h p m c d) z = other 0 30 refl z

  only-31 : (t : Told st L octets store x) → code t ≡ 31 → (Named35 st (length store) → ⊥) × (k : Content) × (read_content L octets ≡ Ok k) × (k.source ≡ st.source) × (k.type ≡ st.payload_type → ⊥)
  only-31 (table.unsound n e) z = other 35 31 refl z
  only-31 (table.unread g r e q) z = other 1 31 refl z
  only-31 (table.other_source g k e s q) z = other 30 31 refl z
  only-31 (table.other_type g k e s t q) z = (g, k, e, s, t)
  only-31 (table.late k o h p l) z = other 32 31 refl z
  only-31 (table.far k o h p m l) z = other 36 31 refl z
  only-31 (table.first k o h c d) z = other 0 31 refl z
  only-31 (table.next k o h p c d) z = other 0 31 refl z
  only-31 (table.ahead k o h d l m p c w) z = other 0 31 refl z
  only-31 (table.restarts k o h p m c d) z = other 0 31 refl z

  only-32 : (t : Told st L octets store x) → code t ≡ 32 → (k : Content) × Own st L octets store k × (st.heard ≡ true) × IsLate st.last.0 k.number
  only-32 (table.unsound n e) z = other 35 32 refl z
  only-32 (table.unread g r e q) z = other 1 32 refl z
  only-32 (table.other_source g k e s q) z = other 30 32 refl z
  only-32 (table.other_type g k e s t q) z = other 31 32 refl z
  only-32 (table.late k o h p l) z = (k, o, h, p)
  only-32 (table.far k o h p m l) z = other 36 32 refl z
  only-32 (table.first k o h c d) z = other 0 32 refl z
  only-32 (table.next k o h p c d) z = other 0 32 refl z
  only-32 (table.ahead k o h d l m p c w) z = other 0 32 refl z
  only-32 (table.restarts k o h p m c d) z = other 0 32 refl z

  only-36 : (t : Told st L octets store x) → code t ≡ 36 → (k : Content) × Own st L octets store k × (st.heard ≡ true) × IsFar st.last.0 k.number × (Remembers st k.number → ⊥)
  only-36 (table.unsound n e) z = other 35 36 refl z
  only-36 (table.unread g r e q) z = other 1 36 refl z
  only-36 (table.other_source g k e s q) z = other 30 36 refl z
  only-36 (table.other_type g k e s t q) z = other 31 36 refl z
  only-36 (table.late k o h p l) z = other 32 36 refl z
  only-36 (table.far k o h p m l) z = (k, o, h, p, m)
  only-36 (table.first k o h c d) z = other 0 36 refl z
  only-36 (table.next k o h p c d) z = other 0 36 refl z
  only-36 (table.ahead k o h d l m p c w) z = other 0 36 refl z
  only-36 (table.restarts k o h p m c d) z = other 0 36 refl z

  only-fresh : (t : Told st L octets store x) → IsFresh x.answer → (k : Content) × Own st L octets store k × FreshNow st k.number
  only-fresh (table.unsound n e) z = absurd (z _ (ap (λ (w : Step). w.answer) e))
  only-fresh (table.unread g r e q) z = absurd (z _ (ap (λ (w : Step). w.answer) q))
  only-fresh (table.other_source g k e s q) z = absurd (z _ (ap (λ (w : Step). w.answer) q))
  only-fresh (table.other_type g k e s t q) z = absurd (z _ (ap (λ (w : Step). w.answer) q))
  only-fresh (table.late k o h p l) z = absurd (z _ l.answer)
  only-fresh (table.far k o h p m l) z = absurd (z _ l.answer)
  only-fresh (table.first k o h c d) z = (k, o, table.first h)
  only-fresh (table.next k o h p c d) z = (k, o, table.ahead h 1 (omega arith) (omega arith) p)
  only-fresh (table.ahead k o h d l m p c w) z = (k, o, table.ahead h d (omega arith) m p)
  only-fresh (table.restarts k o h p m c d) z = (k, o, table.restart h p m)

-- WHY A FRESH ARRIVAL GOT ITS ANSWER

module _ (st : State) (L : Layout) (octets store : List ℕ) (x : Step) where
  abbrev Why : Type 0
  Why = (a : Answer) → IsFresh a → x.answer ≡ a → Answered st L octets store a

  -- it has one answer
  why : (b : Answer) → x.answer ≡ b → Answered st L octets store b → Why
  why b e h a f q = subst (Answered st L octets store) (sym e ∙ q) h

  refuted : {r : Refusal} → x.answer ≡ answer.Refused r → Why
  refuted {r = r} e a f q = absurd (f r (sym q ∙ e))

  takes-why : (k : Content) (r c n : ℕ) → Following st L octets store k → Enters st k r c n → Takes k r c n store x → Why
  takes-why k r c n o g (table.overfull f d) = why answer.Overfull d.answer (k, r, c, n, o, g, f)
  takes-why k r c n o g (table.held al m h a) = why answer.Held h.answer (k, r, c, n, o, g, al, m)
  takes-why k r c n o g (table.whole al m h a) = why (answer.Whole _) h.answer (k, r, c, n, o, g, al, m, refl)

  follows-why : (k : Content) → Following st L octets store k → Follows st k store x → Why
  follows-why k o (table.skips p d) = why answer.Skipped d.answer (k, o.own, table.lost o.heard o.next p)
  follows-why k o (table.starts p d) = takes-why k 0 0 0 o (table.starts p refl refl refl) d
  follows-why k o (table.mixes p f d) = why answer.Mixed d.answer (k, o, p, f)
  follows-why k o (table.joins p t f d) = takes-why k st.records st.cells st.packets o (table.joins p t f refl refl refl) d

  told-why : Told st L octets store x → Why
  told-why (table.unsound n e) = refuted (ap (λ (w : Step). w.answer) e)
  told-why (table.unread g r e q) = refuted (ap (λ (w : Step). w.answer) q)
  told-why (table.other_source g k e s q) = refuted (ap (λ (w : Step). w.answer) q)
  told-why (table.other_type g k e s t q) = refuted (ap (λ (w : Step). w.answer) q)
  told-why (table.late k o h p l) = refuted l.answer
  told-why (table.far k o h p m l) = refuted l.answer
  told-why (table.first k o h c d) = why answer.Skipped d.answer (k, o, table.first h)
  told-why (table.next k o h p c d) = follows-why k (record { own = o; heard = h; next = p }) d
  told-why (table.ahead k o h d l m p c w) = why answer.Skipped w.answer (k, o, table.ahead h d l m p)
  told-why (table.restarts k o h p m c d) = why answer.Skipped d.answer (k, o, table.restart h p m)

-- and the other way about

apart : {A : Type 0} {p q : Phase} (f : Phase → Bool) → f p ≡ true → f q ≡ false → p ≡ q → A
apart f t n e = absurd (true≢false (sym t ∙ ap f e ∙ n))

takes_at : {k : Content} {store : List ℕ} {x : Step} (r c n r' c' n' : ℕ) → r ≡ r' → c ≡ c' → n ≡ n' → Takes k r' c' n' store x → Takes k r c n store x
takes_at {k = k} {store = store} {x = x} r c n r' c' n' a b d w =
    subst (λ (i : ℕ). Takes k i c n store x) (sym a)
    (subst (λ (i : ℕ). Takes k r' i n store x) (sym b) (subst (λ (i : ℕ). Takes k r' c' i store x) (sym d) w))

enters-takes : {st : State} {k : Content} {r c n : ℕ} {store : List ℕ} {x : Step} → Enters st k r c n → Follows st k store x → Takes k r c n store x
enters-takes (table.starts p a b d) (table.skips q w) = apart is_lost refl refl (sym q ∙ p)
enters-takes {r = r} {c = c} {n = n} (table.starts p a b d) (table.starts q w) = takes_at r c n 0 0 0 a b d w
enters-takes (table.starts p a b d) (table.mixes q f w) = apart is_filling refl refl (sym q ∙ p)
enters-takes (table.starts p a b d) (table.joins q t f w) = apart is_filling refl refl (sym q ∙ p)
enters-takes (table.joins p t f a b d) (table.skips q w) = apart is_lost refl refl (sym q ∙ p)
enters-takes (table.joins p t f a b d) (table.starts q w) = apart is_filling refl refl (sym p ∙ q)
enters-takes (table.joins p t f a b d) (table.mixes q g w) = absurd (g (t, f))
enters-takes {st = st} {r = r} {c = c} {n = n} (table.joins p t f a b d) (table.joins q u g w) =
    takes_at r c n st.records st.cells st.packets a b d w

module _ {k : Content} {r c n : ℕ} {store : List ℕ} {x : Step} where
  takes-overfull : Takes k r c n store x → (AllowedWith k r c n store → ⊥) → Drops answer.Overfull k store x
  takes-overfull (table.overfull f d) g = d
  takes-overfull (table.held al m h a) g = absurd (g al)
  takes-overfull (table.whole al m h a) g = absurd (g al)

  takes-held : Takes k r c n store x → AllowedWith k r c n store → (k.marker ≡ 1 → ⊥)
      → Holds k (r + length k.records) (c + length (list_of k.records)) (n + 1) x × Appends k c n store x
  takes-held (table.overfull f d) al u = absurd (f al)
  takes-held (table.held al m h a) al' u = (h, a)
  takes-held (table.whole al m h a) al' u = absurd (u m)

  takes_whole : Takes k r c n store x → AllowedWith k r c n store → k.marker ≡ 1 → Completes k (r + length k.records) (c + length (list_of k.records)) (n + 1) x × Appends k c n store x
  takes_whole (table.overfull f d) al u = absurd (f al)
  takes_whole (table.held al m h a) al' u = absurd (m u)
  takes_whole (table.whole al m h a) al' u = (h, a)

follows-mixed : {st : State} {k : Content} {store : List ℕ} {x : Step} → Follows st k store x → st.phase ≡ phase.Filling
    → ((st.timestamp.0 ≡ k.timestamp) × (st.f ≡ k.f) → ⊥) → Drops answer.Mixed k store x
follows-mixed (table.skips p d) q f = apart is_lost refl refl (sym p ∙ q)
follows-mixed (table.starts p d) q f = apart is_filling refl refl (sym q ∙ p)
follows-mixed (table.mixes p g d) q f = d
follows-mixed (table.joins p t g d) q f = absurd (f (t, g))

follows-lost : {st : State} {k : Content} {store : List ℕ} {x : Step} → Follows st k store x → st.phase ≡ phase.Lost → Drops answer.Skipped k store x
follows-lost (table.skips p d) q = d
follows-lost (table.starts p d) q = apart is_lost refl refl (sym q ∙ p)
follows-lost (table.mixes p g d) q = apart is_filling refl refl (sym p ∙ q)
follows-lost (table.joins p t g d) q = apart is_filling refl refl (sym p ∙ q)

-- EACH REFUSAL EXACTLY WHEN
pub exactly : (st : State) (L : Layout) (octets store : List ℕ) → st.last.0 < 2 ^ 32 → Exactly st L octets store (step st L octets store)
exactly st L octets store small =
    record {
      by35 = (λ e. only-35 t (by e), λ n. answered (step-35 st L octets store n));
      by_reader = λ r e. (
        λ a. only-read t (sym (coded t) ∙ ap code_of a ∙ ap (λ (b : Bool). cond b 1 r.number) (subst (Numbered is_reading) e (content-numbered L octets))),
        λ f. answered (step-unread st L octets store f r e),
      );
      by30 = (λ e. only-30 t (by e), λ h. answered (step-30 st L octets store h.0 h.1 h.2 h.3));
      by31 = (λ e. only-31 t (by e), λ h. answered (step-31 st L octets store h.0 h.1 h.2 h.3 h.4));
      by32 = (λ e. only-32 t (by e), λ h. answered (step-late st L octets store h.0 h.1 h.2 small h.3));
      by36 = (λ e. only-36 t (by e), λ h. answered (step-far st L octets store h.0 h.1 h.2 small h.3 h.4));
      fresh = (λ f. only-fresh t f, λ h. freshens h.0 h.1 h.2);
      answered = λ a f. (λ e. told-why st L octets store (step st L octets store) t a f e, answers a);
    }
  where
    t : Told st L octets store (step st L octets store)
    t = told st L octets store small

    by : {a : Answer} → (step st L octets store).answer ≡ a → code t ≡ code_of a
    by e = sym (coded t) ∙ ap code_of e

    answered : {z : Step} → step st L octets store ≡ z → (step st L octets store).answer ≡ z.answer
    answered e = ap (λ (w : Step). w.answer) e

    freshened : (from : State) (g : Gathered) (missing : ℕ) (k : Content) → step st L octets store ≡ fresh_step from g missing k store → IsFresh (step st L octets store).answer
    freshened from g missing k e r a = not-refused _ r (follow-answers g (carried k) (length store)) (sym (answered e) ∙ a)

    following : (k : Content) → Following st L octets store k → Follows st k store (step st L octets store)
    following k o = subst (Follows st k store) (sym (step-next st L octets store k o.own o.heard small o.next)) (follows st k store)

    skips : (k : Content) → Own st L octets store k → SkippedNow st k.number → (step st L octets store).answer ≡ answer.Skipped
    skips k o (table.first h) = answered (step-first st L octets store k o h)
    skips k o (table.lost h p q) = (follows-lost (following k (record { own = o; heard = h; next = p })) q).answer
    skips k o (table.ahead h d l m p) = answered (step-ahead st L octets store k o h small d l m p)
    skips k o (table.restart h p m) = answered (step-restart st L octets store k o h small p m)

    answers : (a : Answer) → Answered st L octets store a → (step st L octets store).answer ≡ a
    answers answer.Skipped (k, o, s) = skips k o s
    answers answer.Mixed (k, o, p, f) = (follows-mixed (following k o) p f).answer
    answers answer.Overfull (k, r, c, n, o, g, f) = (takes-overfull (enters-takes g (following k o)) f).answer
    answers answer.Held (k, r, c, n, o, g, al, m) = (takes-held (enters-takes g (following k o)) al m).0.answer
    answers (answer.Whole y) (k, r, c, n, o, g, al, m, e) = (takes_whole (enters-takes g (following k o)) al m).0.answer ∙ ap answer.Whole (sym e)
    answers (answer.Refused r) h = absurd h

    freshens : (k : Content) → Own st L octets store k → FreshNow st k.number → IsFresh (step st L octets store).answer
    freshens k o (table.first h) = freshened st lost 0 k (step-first st L octets store k o h)
    freshens k o (table.ahead h zero l m p) = absurd (omega arith)
    freshens k o (table.ahead h (suc zero) l m p) = freshened st (gathered st) 0 k (step-next st L octets store k o h small p)
    freshens k o (table.ahead h (suc (suc d)) l m p) =
        freshened st lost (suc (suc d) - 1) k (step-ahead st L octets store k o h small (suc (suc d)) (omega arith) m p)
    freshens k o (table.restart h p m) = freshened (open_state st.source st.payload_type) lost 0 k (step-restart st L octets store k o h small p m)

-- "24 if over 127"
pub opens : (source type : ℕ) → Opens source type (open_of source type)
opens source type =
    record {
      refuses = (λ e. over (leb type 127) refl e, λ h. rw (lt-leb type 127 h));
      opens = λ h. (
        open_state source type,
        rw (le-leb type 127 h),
        refl,
        refl,
        refl,
        refl,
        refl,
        refl,
        refl,
        refl,
        refl,
        refl,
        record { timestamp = refl; f = refl; records = refl; cells = refl; packets = refl },
      );
    }
  where
    over : (b : Bool) → leb type 127 ≡ b → cond b (Ok (open_state source type)) (Err (no 24)) ≡ Err (no 24) → 127 < type
    over true e h = let o : ◌≡◌ {A = ℕ} 0 1 = cc in absurd (omega arith)
    over false e h = leb-false type 127 e

-- THE TABLE IS WHOLE: what fits it is the step

states-same : {x y : State} → x.source ≡ y.source → x.payload_type ≡ y.payload_type → x.phase ≡ y.phase → x.heard ≡ y.heard → x.last.0 ≡ y.last.0
    → x.timestamp.0 ≡ y.timestamp.0 → x.f ≡ y.f → x.records ≡ y.records → x.cells ≡ y.cells → x.packets ≡ y.packets → x.fresh ≡ y.fresh
    → x.late ≡ y.late → x.missing ≡ y.missing → x.remembers ≡ y.remembers → x.remembered.0 ≡ y.remembered.0 → x ≡ y
states-same s t p h l ts f r c n fr la mi re rd =
    λ i. record {
      source = s i;
      payload_type = t i;
      phase = p i;
      heard = h i;
      last = record { 0 = l i };
      timestamp = record { 0 = ts i };
      f = f i;
      records = r i;
      cells = c i;
      packets = n i;
      fresh = fr i;
      late = la i;
      missing = mi i;
      remembers = re i;
      remembered = record { 0 = rd i };
    }

steps-same : {x y : Step} → x.answer ≡ y.answer → x.state ≡ y.state → x.store ≡ y.store → x ≡ y
steps-same a s t = λ i. record { answer = a i; state = s i; store = t i }

same-is : {st x y : State} → Same st x → Same st y → x.late ≡ y.late → x.remembers ≡ y.remembers → x.remembered.0 ≡ y.remembered.0 → x ≡ y
same-is a b l r n =
    states-same (a.source ∙ sym b.source) (a.type ∙ sym b.type) (a.phase ∙ sym b.phase) (a.heard ∙ sym b.heard) (ap (λ (z : _). z.0) (a.last ∙ sym b.last)) (ap (λ (z : _). z.0) (a.timestamp ∙ sym b.timestamp)) (a.f ∙ sym b.f) (a.records ∙ sym b.records) (a.cells ∙ sym b.cells) (a.packets ∙ sym b.packets) (a.fresh ∙ sym b.fresh) l (a.missing ∙ sym b.missing) r n

lates-one : {st : State} {store : List ℕ} {x y : Step} → Lates st store x → Lates st store y → x ≡ y
lates-one a b =
    steps-same (a.answer ∙ sym b.answer)
    (same-is a.state b.state (a.late ∙ sym b.late) (a.remembers ∙ sym b.remembers) (ap (λ (z : _). z.0) (a.remembered ∙ sym b.remembered)))
    (a.store ∙ sym b.store)

fars-one : {st : State} {store : List ℕ} {x y : Step} {n : ℕ} → Fars st n store x → Fars st n store y → x ≡ y
fars-one a b =
    steps-same (a.answer ∙ sym b.answer)
    (same-is a.state b.state (a.late ∙ sym b.late) (a.remembers ∙ sym b.remembers) (a.remembered ∙ sym b.remembered))
    (a.store ∙ sym b.store)

module _ (st : State) (k : Content) (store : List ℕ) (x y : Step) where
  module _ {n f l m : ℕ} (a : Counts st n f l m x.state) (b : Counts st n f l m y.state) where
    counted_is : x.state.phase ≡ y.state.phase → x.state.timestamp.0 ≡ y.state.timestamp.0 → x.state.f ≡ y.state.f → x.state.records ≡ y.state.records
        → x.state.cells ≡ y.state.cells → x.state.packets ≡ y.state.packets → x.state ≡ y.state
    counted_is p ts g r c n =
        states-same (a.source ∙ sym b.source) (a.type ∙ sym b.type) p (a.heard ∙ sym b.heard) (a.last ∙ sym b.last) ts g r c n (a.fresh ∙ sym b.fresh) (a.late ∙ sym b.late) (a.missing ∙ sym b.missing) (a.forgets ∙ sym b.forgets) (a.forgotten ∙ sym b.forgotten)

    empty-is : x.state.phase ≡ y.state.phase → Empty x.state → Empty y.state → x.state ≡ y.state
    empty-is p u v =
        counted_is p (u.timestamp ∙ sym v.timestamp) (u.f ∙ sym v.f) (u.records ∙ sym v.records) (u.cells ∙ sym v.cells) (u.packets ∙ sym v.packets)

    drops-one : {w : Answer} → Drops w k store x → Drops w k store y → x ≡ y
    drops-one u v = steps-same (u.answer ∙ sym v.answer) (empty-is (go (eqb k.marker 1) refl) u.empty v.empty) (u.store ∙ sym v.store)
      where
        go : (c : Bool) → eqb k.marker 1 ≡ c → x.state.phase ≡ y.state.phase
        go true e = let m = eqb-true k.marker 1 e in u.ready m ∙ sym (v.ready m)
        go false e = let m = eqb-false k.marker 1 e in u.lost m ∙ sym (v.lost m)

    holds-one : {r c i : ℕ} (p q : ℕ) → Holds k r c i x × Appends k p q store x → Holds k r c i y × Appends k p q store y → x ≡ y
    holds-one p q (u, s) (v, t) =
        steps-same (u.answer ∙ sym v.answer)
        (counted_is (u.phase ∙ sym v.phase) (u.timestamp ∙ sym v.timestamp) (u.f ∙ sym v.f) (u.records ∙ sym v.records) (u.cells ∙ sym v.cells) (u.packets ∙ sym v.packets))
        (s ∙ sym t)

    completes-one : {r c i : ℕ} (p q : ℕ) → Completes k r c i x × Appends k p q store x → Completes k r c i y × Appends k p q store y → x ≡ y
    completes-one p q (u, s) (v, t) = steps-same (u.answer ∙ sym v.answer) (empty-is (u.ready ∙ sym v.ready) u.empty v.empty) (s ∙ sym t)

    takes_one : {r c i : ℕ} → Takes k r c i store x → Takes k r c i store y → x ≡ y
    takes_one (table.overfull g d) w = drops-one d (takes-overfull w g)
    takes_one {c = c} {i = i} (table.held al u h s) w = holds-one c i (h, s) (takes-held w al u)
    takes_one {c = c} {i = i} (table.whole al u h s) w = completes-one c i (h, s) (takes_whole w al u)

    follows-one : {from : State} → Follows from k store x → Follows from k store y → x ≡ y
    follows-one (table.skips p d) w = drops-one d (follows-lost w p)
    follows-one (table.starts p d) w = takes_one d (enters-takes (table.starts p refl refl refl) w)
    follows-one (table.mixes p g d) w = drops-one d (follows-mixed w p g)
    follows-one (table.joins p t g d) w = takes_one d (enters-takes (table.joins p t g refl refl refl) w)

-- what fits the table is the step
pub told-step : (st : State) (L : Layout) (octets store : List ℕ) (x : Step) → st.last.0 < 2 ^ 32 → Told st L octets store x → x ≡ step st L octets store
told-step st L octets store x small (table.unsound n e) = e ∙ sym (step-35 st L octets store n)
told-step st L octets store x small (table.unread g r e q) = q ∙ sym (step-unread st L octets store g r e)
told-step st L octets store x small (table.other_source g k e s q) = q ∙ sym (step-30 st L octets store g k e s)
told-step st L octets store x small (table.other_type g k e s t q) = q ∙ sym (step-31 st L octets store g k e s t)
told-step st L octets store x small (table.late k o h p l) = lates-one l (lates st store) ∙ sym (step-late st L octets store k o h small p)
told-step st L octets store x small (table.far k o h p m l) = fars-one l (fars st k.number store) ∙ sym (step-far st L octets store k o h small p m)
told-step st L octets store x small (table.first k o h c d) =
    drops-one st k store x _ c (counts-on st k store 0 (cond (marked k) ready lost)) d (drops st k store 0 answer.Skipped) ∙ sym (step-first st L octets store k o h)
told-step st L octets store x small (table.next k o h p c d) =
    follows-one st k store x _ c (counts-on st k store 0 (follow (gathered st) (carried k) (length store)).gathered) d (follows st k store)
    ∙ sym (step-next st L octets store k o h small p)
told-step st L octets store x small (table.ahead k o h d l m p c w) =
    drops-one st k store x _ c (counts st k store (d - 1) (cond (marked k) ready lost)) w (drops st k store (d - 1) answer.Skipped)
    ∙ sym (step-ahead st L octets store k o h small d l m p)
told-step st L octets store x small (table.restarts k o h p m c d) =
    let y = (far-exactly st L octets store k o h small p).restarts m in drops-one st k store x (step st L octets store) c y.0 d y.1

-- THE TABLE IS THE STEP
pub told-iff : (st : State) (L : Layout) (octets store : List ℕ) (x : Step) → st.last.0 < 2 ^ 32 → Told st L octets store x ↔ (x ≡ step st L octets store)
told-iff st L octets store x small =
    (told-step st L octets store x small, λ e. subst (Told st L octets store) (sym e) (told st L octets store small))
