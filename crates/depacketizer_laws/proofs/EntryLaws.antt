-- DEMAND 3 OF THE ENTRY POINTS.
-- What they return is the library's run, by their contracts.
use mathlib.Core.Path.{◌≡◌, refl, ◌∙◌, ap}
use mathlib.Core.Bool.{Bool, true, false, cond}
use mathlib.Core.List.{List}
use Prim.Native.Nat.{ℕ, ◌+◌, ◌<◌}
use native.Mathlib.Omega.{arith}
use lib.Dec.{leb}
use borrow.Author.Tests.{le-leb, lt-leb, leb-false}
use Rattle.wire_spec.specs.Result.{Err, Ok}
use Rattle.depacketizer_spec.specs.declared.state.State.{State}
use Rattle.depacketizer_spec.specs.declared.state.Phase.{Phase}
use Rattle.depacketizer_spec.specs.declared.state.Phase.TheVariants as phase
use Rattle.depacketizer_spec.specs.Step.{gathered_in, open_state}
use Rattle.depacketizer_spec.specs.Stream.{Stream, Call, Calls, none, ◌before◌, Run, store_for, run, call_step, done}
use Rattle.depacketizer_spec.specs.Table.{no}
use Rattle.depacketizer_spec.proofs.Demand3.{demand3}
use Rattle.depacketizer_spec.proofs.TableLaws.{told}
use Rattle.depacketizer.specs.Answers.{opened_of}
use Rattle.depacketizer_laws.specs.Entry.{lent, Kept, called, calls, OpensExactly, ArrivesAsTold, EntryDemand3}

-- what a caller has, as a run
abbrev ran : Kept → Run
ran r = record { state = r.depacketizer.state; store = r.store; handed = r.handed }

lent_is : (p : Phase) (t f r c n : ℕ) (left offered : List ℕ) → lent p left offered ≡ store_for (gathered_in p t f r c n) left offered
lent_is phase.Lost t f r c n left offered = refl
lent_is phase.Ready t f r c n left offered = refl
lent_is phase.Filling t f r c n left offered = refl

called_is : (s : Stream) (r : Kept) (c : Call) → ran (called s r c) ≡ done (ran r) (call_step s (ran r) c)
called_is s r c =
    let st : State = r.depacketizer.state in
    rw (lent_is st.phase st.timestamp.0 st.f st.records st.cells st.packets r.store c.store)

calls_are : (s : Stream) (cs : Calls) → ran (calls s (record { state = open_state s.source s.type }) cs) ≡ run s cs
calls_are s none = refl
calls_are s (cs before c) =
    called_is s (calls s (record { state = open_state s.source s.type }) cs) c ∙ ap (λ (r : Run). done r (call_step s r c)) (calls_are s cs)

-- demand 3 of `Depacketizer::open` and `Depacketizer::arrive`
pub entry-demand3 : EntryDemand3
entry-demand3 s w t = (
  record { state = open_state s.source s.type },
  rw (le-leb s.type 127 t),
  λ cs p near.
      let d = demand3 s w cs p near in
      let e = calls_are s cs in
      record {
        handed = ap (λ (r : Run). r.handed) e ∙ d.handed;
        fresh_count = ap (λ (r : Run). r.state.fresh) e ∙ d.fresh_count;
        missing = ap (λ (r : Run). r.state.fresh + r.state.missing) e ∙ d.missing;
        late = ap (λ (r : Run). r.state.late) e ∙ d.late;
      },
)

pub opens-exactly : OpensExactly
opens-exactly source type = (λ e. over (leb type 127) refl e, λ h. rw (lt-leb type 127 h))
  where
    over : (b : Bool) → leb type 127 ≡ b → opened_of (cond b (Ok (open_state source type)) (Err (no 24))) ≡ Err (no 24) → 127 < type
    over true e h = let o : ◌≡◌ {A = ℕ} 0 1 = cc in absurd (omega arith)
    over false e h = leb-false type 127 e

pub arrives-as-told : ArrivesAsTold
arrives-as-told d L octets store small = told d.state L octets store small
