-- One arrival: the step of one that is refused, of one that is not fresh, and of a fresh one from what was decided of it.
-- By the laws of admission, of places and of decisions, one after the other.
use Rattle.std.proofs.Common.{◌≡◌, ℕ, ◌+◌, ◌≤◌, Bool, true, false, cond, List, length, sym, refl, ap, ◌∙◌, subst, ap₂}
use Rattle.std.proofs.lemmas.Result.{MatchResult-at_ok, MatchResult-at_err}
use Rattle.wire_spec.specs.declared.refusal.Refusal.{Refusal}
use Rattle.wire_spec.specs.Bits.{splice}
use Rattle.wire_spec.specs.Result.{Result, Ok, Err}
use Rattle.wire_spec.specs.Cells.{list_in, list_of}
use Rattle.wire_spec.specs.Packet.{Content, read_content}
use Rattle.wire_spec.specs.Layout.{Layout}
use Rattle.rtp_strict_reader.specs.Answers.{checked_of, summary_of}
use Rattle.rtp_strict_reader.specs.declared.packet.Outline.{Outline}
use Rattle.rtp_strict_reader.specs.declared.packet.Summary.{Summary}
use Rattle.rtp_strict_reader.proofs.ReadLaws.{found, summary-is}
use Rattle.depacketizer_spec.specs.declared.state.State.{State}
use Rattle.depacketizer.specs.declared.decide.Decision.{Decision}
use Rattle.depacketizer.specs.declared.inspect.Inspected.{Inspected}
use Rattle.depacketizer_sequence.specs.declared.place.Fresh.{Fresh}
use Rattle.depacketizer_sequence.specs.declared.place.NotFresh.{NotFresh}
use Rattle.depacketizer_spec.specs.Step.{Step, Gathered, lost, gathered, gathered_cells, gathered_packets, Gather, carried, follow, appended, sound, admission, step}
use Rattle.depacketizer_sequence.specs.Answers.{freshness_of}
use Rattle.depacketizer.specs.Answers.{admitted, arrival_of, carried_by, decision_of, after_of, inspected_of, refused_of}
use Rattle.depacketizer_spec.proofs.FitLaws.{follow-room}
use Rattle.depacketizer_spec.proofs.RestartLaws.{open-sound}
use Rattle.depacketizer_spec.proofs.StepLaws.{unchanged, passed, step-refused, step-admitted}
use Rattle.depacketizer.proofs.AdmitLaws.{Starts, Refuses, Stands, admits, inspected-refused, inspected-packet, packet-stands}
use Rattle.depacketizer.proofs.DecideLaws.{Sound, sound-is, appended-at}

-- an arrival that was admitted, with the packet that was found
pub record Admitted (st : State) (L : Layout) (s store : List ℕ) (p : Inspected) : Type 0 where
  pub says : Content
  pub admits : admission st L (length store) s ≡ Ok says
  pub reads : read_content L s ≡ Ok says
  pub is_sound : sound st (length store) ≡ true
  pub checked : checked_of L s (read_content L s) ≡ Ok p.outline
  pub cells : length (list_of says.records) ≡ p.outline.cells
  pub summary : summary_of says ≡ p.summary

-- the check before it refused it, or admitted it
module _ (st : State) (L : Layout) (s store : List ℕ) (i : Result Inspected)
    (h : i ≡ inspected_of L s (read_content L s)) where
  admission-is : inspected_of L s (admission st L (length store) s) ≡ admitted st (length store) i
  admission-is = sym (ap (admitted st (length store)) h ∙ admits st L (length store) s)

  pub refused-step : (x : Refusal) → admitted st (length store) i ≡ Err x → step st L s store ≡ unchanged st store x
  refused-step x e =
      step-refused st L s store x (inspected-refused L s (admission st L (length store) s) x (admission-is ∙ e))

  pub admitted-packet : (p : Inspected) → admitted st (length store) i ≡ Ok p → Admitted st L s store p
  admitted-packet p e =
      let q = inspected-packet L s (admission st L (length store) s) p (admission-is ∙ e) in
      let f = found L s (admission st L (length store) s) p.outline q.0 in
      let r = passed st L (length store) s f.says f.reads in
      record {
        says = f.says;
        admits = f.reads;
        reads = r.1;
        is_sound = r.0;
        checked = ap (checked_of L s) r.1 ∙ ap Ok f.outline;
        cells = ap (λ (o : Outline). o.cells) f.outline;
        summary = summary-is _ _ _ f.reads q.1;
      }

module _ (st : State) (L : Layout) (s store : List ℕ) (p : Inspected) (w : Admitted st L s store p) where
  number_is : w.says.number ≡ p.summary.head.number.0
  number_is = ap (λ (m : Summary). m.head.number.0) w.summary

  abbrev HasRoom : State → Type 0
  HasRoom z = sound z (length store) ≡ true

  -- where it stands, and what its step is then
  stands : Stands st w.says store HasRoom (freshness_of st.heard st p.summary.head.number.0) (step st L s store)
  stands =
      subst (λ (n : ℕ). Stands st w.says store HasRoom (freshness_of st.heard st n) (step st L s store)) number_is
      (subst (λ (x : Step). Stands st w.says store HasRoom (freshness_of st.heard st w.says.number) x)
      (sym (step-admitted st L s store w.says w.admits))
      (packet-stands st w.says store HasRoom w.is_sound (open-sound st.source st.payload_type (length store)) st.heard))

  -- one that is not fresh
  pub late-or-far : (y : NotFresh) → freshness_of st.heard st p.summary.head.number.0 ≡ Err y
      → (arrival_of (step st L s store) ≡ refused_of y st p.summary.head.number.0) × ((step st L s store).store ≡ store)
  late-or-far y e =
      let r : Refuses st w.says store y (step st L s store) = MatchResult-at_err _ _ y e stands in
      (r.arrival ∙ ap (refused_of y st) number_is, r.store_is)

  -- a fresh one starts from a state that is sound, and does there what was decided
  module _ (f : Fresh) (e : freshness_of st.heard st p.summary.head.number.0 ≡ Ok f) where
    starts : Starts st w.says store HasRoom f (step st L s store)
    starts = MatchResult-at_ok _ _ f e stands

    pub fresh-sound : Sound f.from (length store)
    fresh-sound = sound-is f.from (length store) starts.holds

    abbrev found_gathered : Gathered
    found_gathered = cond f.next (gathered f.from) lost

    abbrev written : Decision → List ℕ
    written d = cond d.append (splice store f.from.cells (list_in f.from.packets w.says.records)) store

    module _ (d : Decision) (q : d ≡ decision_of (follow found_gathered (carried_by p.summary) (length store))) where
      abbrev x : Gather
      x = follow found_gathered (carried w.says) (length store)

      decided : decision_of x ≡ d
      decided = ap (λ (m : Summary). decision_of (follow found_gathered (carried_by m) (length store))) w.summary ∙ sym q

      -- where its cells are appended, and with which index, if they are
      at : x.append ≡ true → (gathered_cells found_gathered ≡ f.from.cells) × (gathered_packets found_gathered ≡ f.from.packets)
      at = appended-at f.from (length store) f.next (carried w.says) fresh-sound

      same_store : (b : Bool) → x.append ≡ b → appended b found_gathered w.says store
          ≡ cond b (splice store f.from.cells (list_in f.from.packets w.says.records)) store
      same_store true t = ap₂ (λ (c n : ℕ). splice store c (list_in n w.says.records)) (at t).0 (at t).1
      same_store false t = refl

      pub fresh_step : step st L s store
          ≡ record { answer = d.answer; state = after_of f.from p.summary.head.number.0 d f.missing; store = written d }
      fresh_step =
          starts.step
          ∙ (λ i. record { answer = x.answer; state = after_of f.from w.says.number (decision_of x) f.missing; store = same_store x.append refl i })
          ∙ λ i. record { answer = (decided i).answer; state = after_of f.from (number_is i) (decided i) f.missing; store = written (decided i) }

      -- appended cells have room behind those that the state has
      pub fresh-room : d.append ≡ true → f.from.cells + p.outline.cells ≤ length store
      fresh-room t =
          let a : x.append ≡ true = ap (λ (y : Decision). y.append) decided ∙ t in
          subst (λ (c : ℕ). c + p.outline.cells ≤ length store) (at a).0
          (subst (λ (c : ℕ). gathered_cells found_gathered + c ≤ length store) w.cells
          (follow-room found_gathered (carried w.says) (length store) a))
