-- What lets an arrival pass, and where its packet is in the sequence, from what was found of it.
-- By cases on the tests, in their order.
use Rattle.wire_spec.proofs.ResultLaws.{accepted-inj}
use Rattle.std.proofs.Common.{◌≡◌, ℕ, Bool, true, false, cond, eqb, List, [], ◌∷◌, refl, ap, ◌∙◌, arith}
use Rattle.wire_spec.specs.declared.refusal.Refusal.{Refusal}
use Rattle.wire_spec.specs.Layout.{Layout}
use Rattle.wire_spec.specs.Result.{Result, Err, Ok, Checks, judge, ◌then◌}
use Rattle.wire_spec.specs.Packet.{Content, read_content}
use Rattle.rtp_strict_reader.specs.Answers.{checked_of, read_of}
use Rattle.rtp_strict_reader.specs.declared.packet.Outline.{Outline}
use Rattle.rtp_strict_reader.specs.declared.packet.Summary.{Summary}
use Rattle.depacketizer.specs.declared.inspect.Inspected.{Inspected}
use Rattle.depacketizer_spec.specs.declared.state.State.{State}
use Rattle.depacketizer_sequence.specs.declared.place.Fresh.{Fresh}
use Rattle.depacketizer_sequence.specs.declared.place.NotFresh.{NotFresh}
use Rattle.depacketizer_sequence.specs.Answers.{Placed, far_of, place_of, freshness_of}
use Rattle.std.specs.Result.{MatchResult}
use Rattle.depacketizer_spec.specs.Step.{Class, late, next, far, ahead, classify, distance, lost, gathered}
use Rattle.depacketizer_spec.specs.Step.{sound, opened_checks, admission, open_state, is_remembered, packet_step}
use Rattle.depacketizer_spec.specs.Step.{class_step, far_or_restart, fresh_step, Step}
use Rattle.depacketizer.specs.Answers.{admitted, arrival_of, from_opened, inspected_of, passing, refused_of}
use Rattle.depacketizer.specs.Answers.{stage_of}

-- one check, then the others
pub stage-first : (b : Bool) (n : ℕ) (ts : Checks) → stage_of ((b, n) ∷ ts) ≡ passing (stage_of ((b, n) ∷ [])) Err (stage_of ts)
stage-first true n ts = refl
stage-first false n ts = refl

-- what is admitted, stage by stage
module _ (st : State) (room : ℕ) (i : Result Inspected) where
  pub first-stage : (y : Result (Unit {0})) → stage_of ((sound st room, 35) ∷ []) ≡ y
      → admitted st room i ≡ passing y Err (from_opened st i)
  first-stage y e = ap (λ (z : Result (Unit {0})). passing z Err (from_opened st i)) e

  pub second-stage : (o : Outline) (m : Summary) (y : Result (Unit {0})) → i ≡ Ok (record { outline = o; summary = m })
      → stage_of (opened_checks st.source st.payload_type m.head.source m.head.payload_type) ≡ y
      → from_opened st i ≡ passing y Err (Ok (record { outline = o; summary = m }))
  second-stage o m y h e =
      ap (from_opened st) h ∙ ap (λ (z : Result (Unit {0})). passing z Err (Ok (record { outline = o; summary = m }))) e

-- what is admitted of octets that were inspected: what passes 35, 1 to 13, 30 and 31
module _ (st : State) (L : Layout) (room : ℕ) (s : List ℕ) where
  abbrev checks : Content → Checks
  checks k = opened_checks st.source st.payload_type k.source k.type

  abbrev Admits : (sound : Bool) → Result Content → Type 0
  Admits b r =
      passing (stage_of ((b, 35) ∷ [])) Err (from_opened st (inspected_of L s r))
      ≡ inspected_of L s (judge 0 ((b, 35) ∷ []) (r then λ k. judge 0 (checks k) (Ok k)))

  pub admits : admitted st room (inspected_of L s (read_content L s)) ≡ inspected_of L s (admission st L room s)
  admits = go (sound st room) (read_content L s)
    where
      typed : (k : Content) (a b : Bool) →
          passing (stage_of ((a, 30) ∷ (b, 31) ∷ [])) Err (inspected_of L s (Ok k))
          ≡ inspected_of L s (judge 0 ((a, 30) ∷ (b, 31) ∷ []) (Ok k))
      typed k false b = refl
      typed k true false = refl
      typed k true true = refl

      go : (b : Bool) (r : Result Content) → Admits b r
      go false r = refl
      go true (Err x) = refl
      go true (Ok k) = typed k (eqb k.source st.source) (eqb k.type st.payload_type)

-- what was inspected is what was checked, and what was read
module _ (L : Layout) (s : List ℕ) where
  pub inspected-refused : (r : Result Content) (x : Refusal) → inspected_of L s r ≡ Err x
      → r ≡ Err x
  inspected-refused (Err y) x h = let e : y ≡ x = cc in ap Err e
  inspected-refused (Ok k) x h = let z : ◌≡◌ {A = ℕ} 0 1 = cc in absurd (omega arith)

  pub inspected-packet : (r : Result Content) (p : Inspected) → inspected_of L s r ≡ Ok p
      → (checked_of L s r ≡ Ok p.outline) × (read_of r ≡ Ok p.summary)
  inspected-packet (Err y) p h = let z : ◌≡◌ {A = ℕ} 0 1 = cc in absurd (omega arith)
  inspected-packet (Ok k) p h =
      let q = accepted-inj h in
      (ap (λ (x : Inspected). Ok x.outline) q, ap (λ (x : Inspected). Ok x.summary) q)

-- where a packet stands, and what its step is then
module _ (st : State) (k : Content) (store : List ℕ) where
  -- the step of a fresh one; what holds of the state found and of one just opened holds of the one that it is fresh to
  pub record Starts (P : State → Type 0) (f : Fresh) (x : Step) : Type 0 where
    pub step : x ≡ fresh_step f.from (cond f.next (gathered f.from) lost) f.missing k store
    pub holds : P f.from

  -- the step of one that is not
  pub record Refuses (y : NotFresh) (x : Step) : Type 0 where
    pub arrival : arrival_of x ≡ refused_of y st k.number
    pub store_is : x.store ≡ store

  abbrev pub Stands : (State → Type 0) → Placed → Step → Type 0
  Stands P r x = MatchResult r (λ f. Starts P f x) (λ y. Refuses y x)

  module _ (P : State → Type 0) (found : P st) (opened : P (open_state st.source st.payload_type)) where
    far-stands : (b : Bool) → Stands P (far_of b st) (far_or_restart b st k store)
    far-stands true = record { step = refl; holds = opened }
    far-stands false = record { arrival = refl; store_is = refl }

    class-stands : (c : Class) → Stands P (place_of c st k.number) (class_step c st k store)
    class-stands late = record { arrival = refl; store_is = refl }
    class-stands next = record { step = refl; holds = found }
    class-stands far = far-stands (is_remembered st k.number)
    class-stands (ahead n) = record { step = refl; holds = found }

    pub packet-stands : (b : Bool) → Stands P (freshness_of b st k.number) (packet_step b st k store)
    packet-stands true = class-stands (classify (distance st.last.0 k.number))
    packet-stands false = record { step = refl; holds = found }
