-- DEMAND 3 OF THE C CALLS.
-- The state in the row is that of the library's run, call after call.
use Rattle.std.specs.Prelude.{Some, None}
use mathlib.Core.Path.{◌≡◌, refl, ap, ap₂, sym, ◌∙◌, subst}
use mathlib.Core.Bool.{Bool, true, false, cond, true≢false}
use mathlib.Core.List.{List, ◌++◌}
use Prim.Native.Nat.{ℕ, zero, suc, ◌+◌, ◌^◌, ◌≤◌, ◌<◌}
use native.Mathlib.Omega.{arith}
use lib.Dec.{eqb}
use lib.ListN.{length, get_or}
use borrow.Author.Tests.{le-leb, ne_eqb}
use Rattle.wire_spec.specs.declared.refusal.Refusal.{Refusal}
use Rattle.wire_spec.specs.Layout.{Layout}
use Rattle.wire_spec.specs.Packet.{Content}
use Rattle.wire_spec.proofs.ResultLaws.{Numbered, and_both}
use Rattle.depacketizer_spec.specs.declared.state.State.{State}
use Rattle.depacketizer_spec.specs.declared.state.Answer.{Answer}
use Rattle.depacketizer_spec.specs.declared.state.Answer.TheVariants as answer
use Rattle.depacketizer_spec.specs.Step.{Step, step, gathered_in, gathered}
use Rattle.depacketizer_spec.specs.Stream.{Stream, Calls, Handed, handed_by, store_for, Run, run, call_step, octets_of, layout_of}
use Rattle.depacketizer_spec.specs.Table as table
use Rattle.depacketizer_spec.specs.Table.{Own, FreshNow, Told}
use Rattle.depacketizer_spec.proofs.NumberLaws.{is_reading, content-numbered}
use Rattle.depacketizer_spec.proofs.StepLaws.{refusal-inj}
use Rattle.depacketizer_spec.proofs.TableLaws.{told, exactly}
use Rattle.depacketizer_spec.proofs.Demand3.{demand3}
use Rattle.capi_state.specs.State.{is_state, phase_in, state_at, state_in}
use Rattle.capi_state.proofs.StateLaws.{fitting}
use Rattle.capi_answer.specs.Rows as rows
use Rattle.capi_depacketizer.specs.Calls.{Arrived, arrive, rows_fit, state_arrived, stepped}
use Rattle.capi_depacketizer.specs.Rows.{arrival_reply}
use Rattle.capi_laws.specs.Run as ran
use Rattle.capi_laws.specs.Run.{lent, handed_out, Ran, CallsDemand3}

-- no refusal has number 0, which says accepted
refusal-some : (st : State) (L : Layout) (octets store : List ℕ) → st.last.0 < 2 ^ 32 → (r : Refusal) → (step st L octets store).answer ≡ answer.Refused r
    → r.number ≡ 0 → ⊥
refusal-some st L octets store small r e z = go (told st L octets store small)
  where
    is : {q : Refusal} → (step st L octets store).answer ≡ answer.Refused q → q.number ≡ 0
    is h = ap (λ (w : Refusal). w.number) (refusal-inj (sym h ∙ e)) ∙ z

    kept : {q : Refusal} → step st L octets store ≡ record { answer = answer.Refused q; state = st; store = store } → q.number ≡ 0
    kept h = is (ap (λ (w : Step). w.answer) h)

    fresh : (k : Content) × Own st L octets store k × FreshNow st k.number → ⊥
    fresh h = (exactly st L octets store small).fresh.1 h r e

    go : Told st L octets store (step st L octets store) → ⊥
    go (table.unsound n q) = let a : ◌≡◌ {A = ℕ} 35 0 = kept q in omega arith
    go (table.unread f x h q) =
        true≢false (sym (subst (Numbered is_reading) h (content-numbered L octets)) ∙ ap is_reading (kept q))
    go (table.other_source f k h s q) = let a : ◌≡◌ {A = ℕ} 30 0 = kept q in omega arith
    go (table.other_type f k h s t q) = let a : ◌≡◌ {A = ℕ} 31 0 = kept q in omega arith
    go (table.late k o h p l) = let a : ◌≡◌ {A = ℕ} 32 0 = is l.answer in omega arith
    go (table.far k o h p m l) = let a : ◌≡◌ {A = ℕ} 36 0 = is l.answer in omega arith
    go (table.first k o h c d) = fresh (k, o, table.first h)
    go (table.next k o h p c d) = fresh (k, o, table.ahead h 1 (omega arith) (omega arith) p)
    go (table.ahead k o h d l m p c w) = fresh (k, o, table.ahead h d (omega arith) m p)
    go (table.restarts k o h p m c d) = fresh (k, o, table.restart h p m)

state-inj : {a b : State} → Some a ≡ Some b → a ≡ b
state-inj e = cc

-- the state that stands in a row
stands_at : (row : List ℕ) (st : State) → state_in row ≡ Some st → (is_state row ≡ true) × (state_at row ≡ st)
stands_at row st e = go (is_state row) refl e
  where
    go : (b : Bool) → is_state row ≡ b → cond b (Some (state_at row)) None ≡ Some st → (is_state row ≡ true) × (state_at row ≡ st)
    go true h e = (h, state-inj e)
    go false h e = let o : ◌≡◌ {A = ℕ} 0 1 = cc in absurd (omega arith)

lent_is : (n : ℕ) → n ≤ 2 → (t f r c m : ℕ) (left offered : List ℕ) → cond (eqb n 2) left offered ≡ store_for (gathered_in (phase_in n) t f r c m) left offered
lent_is zero h t f r c m left offered = refl
lent_is (suc zero) h t f r c m left offered = refl
lent_is (suc (suc zero)) h t f r c m left offered = refl
lent_is (suc (suc (suc n))) h t f r c m left offered = absurd (omega arith)

handed-is : (a : Answer) (store : List ℕ) → ((r : Refusal) → a ≡ answer.Refused r → r.number ≡ 0 → ⊥) → handed_out (arrival_reply a) store ≡ handed_by a store
handed-is answer.Skipped store h = refl
handed-is answer.Held store h = refl
handed-is answer.Mixed store h = refl
handed-is answer.Overfull store h = refl
handed-is (answer.Whole x) store h = refl
handed-is (answer.Refused r) store h = rw (ne_eqb r.number 0 (h r refl))

fits : (row given : List ℕ) → 15 ≤ length row → 9 ≤ length given → rows_fit (length row) (length given) ≡ true
fits row given l m = and_both (le-leb 15 (length row) l) (le-leb 9 (length given) m)

-- the library's run stands in the rows
record Stands (row store : List ℕ) (handed : List Handed) (r : Run) : Type 0 where
  state : state_in row ≡ Some r.state
  left : store ≡ r.store
  out : handed ≡ r.handed

module _ (row octets store given : List ℕ) (layout : ℕ) (st : State) (l : layout ≤ 1) (long : 15 ≤ length row) (answers : 9 ≤ length given)
    (is : state_in row ≡ Some st) where
  arrive-is : arrive layout row octets store given ≡ stepped (step st (rows.layout_of layout) octets store)
  arrive-is = rw (fits row given long answers, le-leb layout 1 l, is)

  state-is : state_arrived layout row octets store given ≡ Some (step st (rows.layout_of layout) octets store).state
  state-is = rw (fits row given long answers, le-leb layout 1 l, is)

stands : (s : Stream) → s.type ≤ 127 → {cs : Calls} {row store : List ℕ} {handed : List Handed} → Ran s cs row store handed → Stands row store handed (run s cs)
stands s t (ran.opens row₀ given long answers q e) =
    record { state = e ∙ rw (fits row₀ given long answers, le-leb s.type 127 t); left = refl; out = refl }
stands s t (ran.arrives {cs} {row} {store} {handed} p c layout given l told-layout long answers q e) =
    let ih = stands s t p in
    let st : State = (run s cs).state in
    let o : List ℕ = octets_of s c.arriving in
    let lend : List ℕ = lent row store c.store in
    let kept : List ℕ = store_for (gathered st) (run s cs).store c.store in
    let at = stands_at row st ih.state in
    let v = fitting row at.0 in
    let same : lend ≡ kept =
    lent_is (get_or row 2 0) v.phase _ _ _ _ _ store c.store
    ∙ ap (λ (x : State). store_for (gathered x) store c.store) at.1
    ∙ ap (λ (x : List ℕ). store_for (gathered st) x c.store) ih.left in
    let z : Step = call_step s (run s cs) c in
    let steps : step st (rows.layout_of layout) o lend ≡ z = ap₂ (λ (L : Layout) (x : List ℕ). step st L o x) told-layout same in
    let a : arrive layout row o lend given ≡ stepped z = arrive-is row o lend given layout st l long answers ih.state ∙ ap stepped steps in
    let small : st.last.0 < 2 ^ 32 = (let m : get_or row 4 0 ≡ st.last.0 = ap (λ (x : State). x.last.0) at.1 in omega (arith, m, v.last)) in
    record {
      state = e ∙ state-is row o lend given layout st l long answers ih.state ∙ ap (λ (x : Step). Some x.state) steps;
      left = ap (λ (x : Arrived). x.store) a;
      out =
          ap₂ (λ (x y : List Handed). x ++ y) ih.out
          (ap (λ (x : Arrived). handed_out x.reply x.store) a
          ∙ handed-is z.answer z.store (refusal-some st (layout_of s c.arriving) o kept small));
    }

-- demand 3 of `jibhotran_open` and `jibhotran_arrive`
pub calls-demand3 : CallsDemand3
calls-demand3 s w t cs p near row store handed r =
    let h = stands s t r in
    let d = demand3 s w cs p near in
    let at = (stands_at row (run s cs).state h.state).1 in
    record {
      handed = h.out ∙ d.handed;
      fresh_count = ap (λ (x : State). x.fresh) at ∙ d.fresh_count;
      missing = ap (λ (x : State). x.fresh + x.missing) at ∙ d.missing;
      late = ap (λ (x : State). x.late) at ∙ d.late;
    }
