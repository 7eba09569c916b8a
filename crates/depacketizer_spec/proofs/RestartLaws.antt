-- A restart is a first arrival, and demand 3 holds again from it on (02, K11).
-- A restarting call leaves what it leaves in a state just opened, but for the store, which nothing reads then.
use mathlib.Core.Path.{◌≡◌, ◌∙◌, ap₂, sym, subst}
use mathlib.Core.Bool.{Bool, true, false}
use mathlib.Core.List.{List, []}
use Prim.Native.Nat.{ℕ}
use native.Mathlib.Omega.{arith}
use lib.ListN.{length}
use borrow.Author.Tests.{le-leb}
use Rattle.wire_spec.specs.declared.refusal.Refusal.{Refusal}
use Rattle.wire_spec.specs.Layout.{Layout}
use Rattle.wire_spec.specs.Result.{Ok}
use Rattle.wire_spec.specs.Packet.{Content}
use Rattle.depacketizer_spec.specs.declared.state.State.{State}
use Rattle.depacketizer_spec.specs.declared.state.Answer.TheVariants as answer
use Rattle.depacketizer_spec.specs.Step.{Step, step, admit, open_state, fresh_step, lost, gathered, marked, dropped, after, sound}
use Rattle.depacketizer_spec.specs.Stream.{Field, Stream, sent, WellFormedStream, Call, Calls, none, ◌before◌, ◌and_then◌, Proper, Near, Run, run_from, open_run, done, call_step, store_for, octets_of, layout_of, arrived, fresh, Handed, Restarts, RestartsRun, RestartOpens, Demand3Again}
use Rattle.depacketizer_spec.proofs.PlaceLaws.{Holds}
use Rattle.depacketizer_spec.proofs.StepLaws.{sound-step}
use Rattle.depacketizer_spec.proofs.RunInvariant.{Invariant, invariant-open, cells_after}
use Rattle.depacketizer_spec.proofs.Demand3.{invariant-call, demand3-after, never-35-after}

-- a state just opened passes 35, whatever it is lent
pub open-sound : (source type room : ℕ) → sound (open_state source type) room ≡ true
open-sound source type room = rw (le-leb 0 room (omega arith))

pub restart-opens : RestartOpens
unfolding step
restart-opens st L octets store h =
    rw (h.passes, h.accepts, h.heard, h.is_far, h.remembered, open-sound st.source st.payload_type (length store))

-- a first arrival
open_step : (source type : ℕ) (L : Layout) (octets store : List ℕ) (k : Content) → admit L source type octets ≡ Ok k
    → step (open_state source type) L octets store ≡ fresh_step (open_state source type) lost 0 k store
open_step source type L octets store k h =
    sound-step (open_state source type) L octets store (open-sound source type (length store)) ∙ rw h

-- nothing is gathered after it
first_holds : (xs : List Field) (st : State) (k : Content) (store new c : List ℕ) → Holds xs (gathered (fresh_step st lost 0 k store).state) new c
first_holds xs st k store new c = go (marked k)
  where
    go : (b : Bool) → Holds xs (gathered (after st k.number (dropped answer.Skipped b).gathered 0)) new c
    go true = tt
    go false = tt

-- so another store does as well
other-store : {earlier : List Handed} (s : Stream) (js l : List ℕ) (st : State) (handed : List Handed) (old new : List ℕ)
    → Holds s.fields (gathered st) new (cells_after (sent s.fields) l)
    → Invariant s earlier js l (record { state = st; store = old; handed = handed })
    → Invariant s earlier js l (record { state = st; store = new; handed = handed })
other-store s js l st handed old new h v =
    record {
      sent_before = v.sent_before;
      newer = v.newer;
      none_above = v.none_above;
      source = v.source;
      type = v.type;
      heard = v.heard;
      records = v.records;
      cells = v.cells;
      packets = v.packets;
      gathers = v.gathers;
      holds = h;
      handed = v.handed;
      fresh = v.fresh;
      missing = v.missing;
      older = v.older;
      older_is = v.older_is;
      late = v.late;
    }

module _ (s : Stream) (w : WellFormedStream s) (r : Run) (c : Call) (source : r.state.source ≡ s.source) (type : r.state.payload_type ≡ s.type)
    (h : Restarts r.state (layout_of s c.arriving) (octets_of s c.arriving) (store_for (gathered r.state) r.store c.store)) where
  abbrev lent : List ℕ
  lent = store_for (gathered r.state) r.store c.store

  abbrev L : Layout
  L = layout_of s c.arriving

  abbrev o : List ℕ
  o = octets_of s c.arriving

  abbrev opened : Run
  opened = open_run s [] r.handed

  abbrev first : List ℕ → Step
  first store = fresh_step (open_state s.source s.type) lost 0 h.says store

  admits : admit L s.source s.type o ≡ Ok h.says
  admits = sym (ap₂ (λ (a b : ℕ). admit L a b o) source type) ∙ h.accepts

  restarts : call_step s r c ≡ first lent
  restarts =
      restart-opens r.state L o lent h
      ∙ ap₂ (λ (a b : ℕ). step (open_state a b) L o lent) source type
      ∙ open_step s.source s.type L o lent h.says admits

  opens : call_step s opened c ≡ first c.store
  opens = open_step s.source s.type L o c.store h.says admits

  invariant-first : (p : Proper s (none before c)) → Near (none before c)
      → Invariant s r.handed (arrived (none before c)) (fresh (none before c)) (done r (call_step s r c))
  invariant-first p near =
      let v = invariant-call s [] [] opened c w p.1 p.2 near.1 (invariant-open s [] r.handed) in
      let v' = subst (λ (x : Step). Invariant s r.handed (arrived (none before c)) (fresh (none before c)) (done opened x)) opens v in
      rw restarts
      (other-store s (arrived (none before c)) (fresh (none before c)) (first lent).state _ c.store lent
      (first_holds s.fields (open_state s.source s.type) h.says lent lent _)
      v')

  invariant-on : (cs : Calls) → Proper s (c and_then cs) → Near (c and_then cs)
      → Invariant s r.handed (arrived (c and_then cs)) (fresh (c and_then cs)) (run_from r s (c and_then cs))
  invariant-on none p near = invariant-first p near
  invariant-on (cs before d) p near =
      invariant-call s (arrived (c and_then cs)) (fresh (c and_then cs)) (run_from r s (c and_then cs)) d w p.1 p.2 near.1
      (invariant-on cs p.0 near.0)

pub invariant-again : (s : Stream) → WellFormedStream s → (r : Run) (c : Call) → RestartsRun s r c → (cs : Calls) → Proper s (c and_then cs)
    → Near (c and_then cs)
    → Invariant s r.handed (arrived (c and_then cs)) (fresh (c and_then cs)) (run_from r s (c and_then cs))
invariant-again s w r c h cs p near = invariant-on s w r c h.source h.type h.restarts cs p near

-- demand 3, from the restarting packet on
pub demand3-again : Demand3Again
demand3-again s w r c cs source type h p near =
    demand3-after s (c and_then cs) (run_from r s (c and_then cs)) (invariant-on s w r c source type h cs p near)

-- in a run that goes on from a restart no call is refused by 35
pub never-35-again : (s : Stream) → WellFormedStream s → (r : Run) (c : Call) (cs : Calls) (d : Call) → RestartsRun s r c → Proper s (c and_then (cs before d))
    → Near (c and_then cs) → (x : Refusal) → (call_step s (run_from r s (c and_then cs)) d).answer ≡ answer.Refused x → x.number ≡ 35 → ⊥
never-35-again s w r c cs d h p near x e n =
    never-35-after s (c and_then cs) d r.handed (run_from r s (c and_then cs)) w p.2 (invariant-again s w r c h cs p.0 near) x e n
