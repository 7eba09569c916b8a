-- Demand 3 over a whole run: what is handed out, and the counts; and no call of such a run is refused by 35.
-- By the invariant of the run, over its calls.
use mathlib.Core.Path.{◌≡◌, refl, ◌∙◌, ap, ap₂, sym}
use mathlib.Core.Bool.{Bool, true, false, cond}
use mathlib.Core.List.{List, [], ◌∷◌, ◌++◌}
use Prim.Native.Nat.{ℕ, ◌+◌, ◌-◌, ◌≤◌, ◌<◌}
use native.Mathlib.Omega.{arith}
use lib.Dec.{leb}
use lib.ListN.{length}
use borrow.Author.Tests.{leb-true, leb-false, le-leb}
use Rattle.wire_spec.specs.declared.refusal.Refusal.{Refusal}
use Rattle.wire_spec.specs.Result.{Result, Ok}
use Rattle.wire_spec.specs.Anc.{Each}
use Rattle.wire_spec.specs.Cells.{all_below}
use Rattle.wire_spec.specs.Packet.{Content}
use Rattle.wire_spec.specs.Writing.{max_type}
use Rattle.depacketizer_spec.specs.declared.state.Answer.TheVariants as answer
use Rattle.depacketizer_spec.specs.Step.{Step, packet_step, admit, admitted_step, open_of}
use Rattle.depacketizer_spec.specs.Stream.{sent, Stream, content_at, Fits, WellFormedStream, Arriving, other, packet, OfStream, Call, Calls, none, ◌before◌, Proper, Handed, Run, octets_of, layout_of, done, call_step, run_from, open_run, run, listed, arrived, listed_fresh, fresh, span, NearLast, Near, Demand3After, Demand3}
use Rattle.depacketizer_spec.proofs.WalkLaws.{packet_at, handed_before, handed-idle, handed-all}
use Rattle.depacketizer_spec.proofs.NumberLaws.{admit-numbered, admit-own, admit-foreign}
use Rattle.depacketizer_spec.proofs.StepLaws.{sound-step, admitted-not-35}
use Rattle.depacketizer_spec.proofs.RunInvariant.{top, Counted, Invariant, invariant-open, store_in, invariant-refused, late-step, invariant-late, sound-run}
use Rattle.depacketizer_spec.proofs.FreshLaws.{invariant-fresh}

-- what an arrival's octets are read as
abbrev reading : Stream → Arriving → Result Content
reading s a = admit (layout_of s a) s.source s.type (octets_of s a)

-- a call passes 35, and reads with the opened source and type
call_step_lem : {earlier : List Handed} (s : Stream) (js l : List ℕ) (r : Run) (c : Call) → WellFormedStream s → Each (Fits c.store) s.fields
    → Invariant s earlier js l r
    → call_step s r c ≡ admitted_step r.state (reading s c.arriving) (store_in r c.store)
call_step_lem s js l r c w e v =
    let t : List ℕ = store_in r c.store in
    let o : List ℕ = octets_of s c.arriving in
    let L = layout_of s c.arriving in
    sound-step r.state L o t (sound-run s js l r c.store w e v)
    ∙ ap₂ (λ (source type : ℕ). admitted_step r.state (admit L source type o) t) v.source v.type

invariant-packet : {earlier : List Handed} (s : Stream) (js l : List ℕ) (r : Run) (i : ℕ) (offered : List ℕ) → NearLast (packet i) l → WellFormedStream s
    → i < length (sent s.fields) → Each (Fits offered) s.fields → Invariant s earlier js l r
    → Invariant s earlier (i ∷ js) (cond (all_below i js) (i ∷ l) l)
    (done r (packet_step r.state.heard r.state (content_at s i (packet_at (sent s.fields) i)) (store_in r offered)))
invariant-packet {earlier = earlier} s js l r i offered near w h e v = go (leb (top l) i) refl
  where
    go : (t : Bool) → leb (top l) i ≡ t
        → Invariant s earlier (i ∷ js) (cond (all_below i js) (i ∷ l) l)
        (done r (packet_step r.state.heard r.state (content_at s i (packet_at (sent s.fields) i)) (store_in r offered)))
    go true q = rw (v.newer i, q) (invariant-fresh s js l r i offered w e v (leb-true (top l) i q) h near)
    go false q =
        let b : i < top l = leb-false (top l) i q in
        rw (v.newer i, q, late-step s js l r i (store_in r offered) v b near) (invariant-late s js l r i offered e b v)

invariant-admitted : {earlier : List Handed} (s : Stream) (js l : List ℕ) (r : Run) (a : Arriving) (offered : List ℕ) → NearLast a l → WellFormedStream s
    → OfStream s a
    → Each (Fits offered) s.fields → Invariant s earlier js l r
    → Invariant s earlier (listed a js) (listed_fresh a js l) (done r (admitted_step r.state (reading s a) (store_in r offered)))
invariant-admitted s js l r (other L o) offered near w h e v =
    let f = admit-foreign L s.source s.type o h in rw f.1 (invariant-refused s js l r offered f.0 e v)
invariant-admitted s js l r (packet i) offered near w h e v = rw (admit-own s.layout s.source s.type _ _ (w.accepts i h) refl refl) (invariant-packet s js l r i offered near w h e v)

-- one call more, from any run
pub invariant-call : {earlier : List Handed} (s : Stream) (js l : List ℕ) (r : Run) (c : Call) → WellFormedStream s → OfStream s c.arriving
    → Each (Fits c.store) s.fields → NearLast c.arriving l → Invariant s earlier js l r
    → Invariant s earlier (listed c.arriving js) (listed_fresh c.arriving js l) (done r (call_step s r c))
invariant-call s js l r c w o e near v =
    rw (call_step_lem s js l r c w e v) (invariant-admitted s js l r c.arriving c.store near w o e v)

-- the invariant holds after any proper calls, none far
pub invariant-run : (s : Stream) (store : List ℕ) (earlier : List Handed) (cs : Calls) → WellFormedStream s → Proper s cs → Near cs
    → Invariant s earlier (arrived cs) (fresh cs) (run_from (open_run s store earlier) s cs)
invariant-run s store earlier none w p near = invariant-open s store earlier
invariant-run s store earlier (cs before c) w p near =
    invariant-call s (arrived cs) (fresh cs) (run_from (open_run s store earlier) s cs) c w p.1 p.2 near.1
    (invariant-run s store earlier cs w p.0 near.0)

counted-span : (l : List ℕ) (a : ℕ) → Counted l a → a ≡ span l
counted-span [] a c = c
counted-span (m ∷ l) a c = omega arith

-- what the invariant says after some calls is demand 3
pub demand3-after : {earlier : List Handed} (s : Stream) (cs : Calls) (r : Run) → Invariant s earlier (arrived cs) (fresh cs) r
    → Demand3After s earlier cs r
demand3-after {earlier = earlier} s cs r v =
    let l = fresh cs in
    let n = length (sent s.fields) in
    let q : n ≡ (n - top l) + top l = omega (arith, v.sent_before) in
    record {
      handed =
          v.handed
          ∙ ap (λ (z : List Handed). earlier ++ z)
          (sym (ap (λ (k : ℕ). handed_before (sent s.fields) l k) q ∙ handed-idle (sent s.fields) l (top l) (n - top l) v.none_above)
          ∙ handed-all s.fields l);
      fresh_count = v.fresh;
      missing = counted-span l _ v.missing;
      late = let d : length (arrived cs) - length l ≡ v.older = omega (arith, v.older_is) in rw d v.late;
    }

-- demand 3 of a run of a depacketizer just opened, whatever was handed out before it
pub demand3-from : (s : Stream) → WellFormedStream s → (store : List ℕ) (earlier : List Handed) (cs : Calls) → Proper s cs → Near cs
    → Demand3After s earlier cs (run_from (open_run s store earlier) s cs)
demand3-from s w store earlier cs p near =
    demand3-after s cs (run_from (open_run s store earlier) s cs) (invariant-run s store earlier cs w p near)

-- demand 3
pub demand3 : Demand3
demand3 s w cs p near = demand3-from s w [] [] cs p near

-- after a run that the invariant holds of no call is refused by 35
pub never-35-after : (s : Stream) (cs : Calls) (c : Call) (earlier : List Handed) (r : Run) → WellFormedStream s → Each (Fits c.store) s.fields
    → Invariant s earlier (arrived cs) (fresh cs) r → (x : Refusal) → (call_step s r c).answer ≡ answer.Refused x → x.number ≡ 35 → ⊥
never-35-after s cs c earlier r w fit v x e n =
    let q = call_step_lem s (arrived cs) (fresh cs) r c w fit v in
    admitted-not-35 r.state (reading s c.arriving) (store_in r c.store) x
    (admit-numbered (layout_of s c.arriving) s.source s.type (octets_of s c.arriving))
    (sym (ap (λ (z : Step). z.answer) q) ∙ e)
    n

-- in a run no call is refused by 35
pub never-35 : (s : Stream) → WellFormedStream s → (cs : Calls) (c : Call) → Proper s (cs before c) → Near cs → (x : Refusal)
    → (call_step s (run s cs) c).answer ≡ answer.Refused x → x.number ≡ 35 → ⊥
never-35 s w cs c p near x e n = never-35-after s cs c [] (run s cs) w p.2 (invariant-run s [] [] cs w p.0 near) x e n

-- a run starts with the state that opening gives
pub opened-is : (s : Stream) → s.type ≤ max_type → open_of s.source s.type ≡ Ok (run s none).state
opened-is s h = rw (le-leb s.type max_type h)
