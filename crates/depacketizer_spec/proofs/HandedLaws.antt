-- A field is handed out at the fresh arrival of its last packet.
-- By demand 3 at two first parts of a run: up to an arrival, and with it.
use mathlib.Core.Path.{◌≡◌, refl, ◌∙◌, ap, sym}
use mathlib.Core.Bool.{Bool, true, false, cond, ◌&&◌}
use mathlib.Core.List.{List, [], ◌∷◌, ◌++◌, append-nil, append_assoc, append_cancel_left, nil≢cons, head-eq_of_cons-eq}
use Prim.Native.Nat.{ℕ, suc, ◌+◌, ◌-◌, ◌≤◌}
use native.Mathlib.Omega.{arith}
use borrow.Author.Tests.{leb-true}
use Rattle.wire_spec.specs.Cells.{all_below}
use Rattle.wire_spec.proofs.ResultLaws.{and-true}
use Rattle.depacketizer_spec.specs.Stream.{Field, Sent, is_last, sent, Stream, WellFormedStream, Arriving, other, packet, Call, Calls, ◌before◌, Proper, Near, Handed, handed_by, Run, done, call_step, run_from, run, ◌and_then◌, RestartsRun, arrived, listed_fresh, fresh, elem, as_sent, only_if}
use Rattle.depacketizer_spec.specs.Laws.{HandedAt}
use Rattle.depacketizer_spec.proofs.WalkLaws.{packet_at, unbroken, handed_before, handed-below, handed-idle}
use Rattle.depacketizer_spec.proofs.RunInvariant.{top, Invariant}
use Rattle.depacketizer_spec.proofs.Demand3.{invariant-run}
use Rattle.depacketizer_spec.proofs.RestartLaws.{invariant-again}

only_one : (b : Bool) (x : Field) (h : Handed) → only_if b x ≡ h ∷ [] → (b ≡ true) × (h ≡ as_sent x)
only_one true x h e = (refl, sym (head-eq_of_cons-eq e))
only_one false x h e = absurd (nil≢cons e)

module _ (s : Stream) (cs : Calls) (h : Handed) (earlier : List Handed) (r : Run) (v : Invariant s earlier (arrived cs) (fresh cs) r) where
  abbrev ps : List Sent
  ps = sent s.fields

  abbrev l : List ℕ
  l = fresh cs

  -- an arrival that is not fresh hands nothing out
  none-handed : handed_before ps l (top l) ++ (h ∷ []) ≡ handed_before ps l (top l) → (a : Arriving) → HandedAt s cs a h
  none-handed e a = absurd (nil≢cons (sym (append_cancel_left (handed_before ps l (top l)) (h ∷ []) [] (e ∙ sym (append-nil _)))))

  fresh-handed : (i : ℕ) → all_below i (arrived cs) ≡ true → handed_before ps l (top l) ++ (h ∷ []) ≡ handed_before ps (i ∷ l) (suc i)
      → HandedAt s cs (packet i) h
  fresh-handed i b e =
      let t : top l ≤ i = leb-true (top l) i (sym (v.newer i) ∙ b) in
      let q : i ≡ (i - top l) + top l = omega arith in
      let p : handed_before ps (i ∷ l) i ≡ handed_before ps l (top l) =
      handed-below ps l i i (omega arith) ∙ ap (λ (n : ℕ). handed_before ps l n) q ∙ handed-idle ps l (top l) (i - top l) v.none_above in
      let o = only_one (elem i (i ∷ l) && (is_last (packet_at ps i) && unbroken ps (i ∷ l) i)) (packet_at ps i).field h (sym (append_cancel_left (handed_before ps l (top l)) (h ∷ []) _ (rw p at e))) in
      record {
        index = i;
        arrives = refl;
        fresh = b;
        last = (and-true (is_last (packet_at ps i)) (unbroken ps (i ∷ l) i) (and-true (elem i (i ∷ l)) (is_last (packet_at ps i) && unbroken ps (i ∷ l) i) o.0).1).0;
        field = o.1;
      }

  arrival-handed : (a : Arriving)
      → handed_before ps l (top l) ++ (h ∷ []) ≡ handed_before ps (listed_fresh a (arrived cs) l) (top (listed_fresh a (arrived cs) l))
      → HandedAt s cs a h
  arrival-handed (other L o) e = none-handed e (other L o)
  arrival-handed (packet i) e = go (all_below i (arrived cs)) refl e
    where
      go : (b : Bool) → all_below i (arrived cs) ≡ b
          → handed_before ps l (top l) ++ (h ∷ []) ≡ handed_before ps (cond b (i ∷ l) l) (top (cond b (i ∷ l) l))
          → HandedAt s cs (packet i) h
      go true b e = fresh-handed i b e
      go false b e = none-handed e (packet i)

-- from one run on to the next
handed-next : (s : Stream) (cs : Calls) (c : Call) (earlier : List Handed) (r : Run) → Invariant s earlier (arrived cs) (fresh cs) r
    → Invariant s earlier (arrived (cs before c)) (fresh (cs before c)) (done r (call_step s r c)) → (h : Handed)
    → handed_by (call_step s r c).answer (call_step s r c).store ≡ h ∷ [] → HandedAt s cs c.arriving h
handed-next s cs c earlier r v v' h e =
    let ps = sent s.fields in
    let l = fresh cs in
    arrival-handed s cs h earlier r v c.arriving
    (append_cancel_left earlier (handed_before ps l (top l) ++ (h ∷ [])) _
    (sym (append_assoc earlier (handed_before ps l (top l)) (h ∷ []))
    ∙ ap (λ (a : List Handed). a ++ (h ∷ [])) (sym v.handed)
    ∙ ap (λ (b : List Handed). r.handed ++ b) (sym e)
    ∙ v'.handed))

-- "A field is handed out by the answer whole to the fresh arrival of its last packet."
pub handed-at : (s : Stream) → WellFormedStream s → (cs : Calls) (c : Call) → Proper s (cs before c) → Near (cs before c) → (h : Handed)
    → handed_by (call_step s (run s cs) c).answer (call_step s (run s cs) c).store ≡ h ∷ [] → HandedAt s cs c.arriving h
handed-at s w cs c p near h e =
    handed-next s cs c [] (run s cs) (invariant-run s [] [] cs w p.0 near.0) (invariant-run s [] [] (cs before c) w p near) h e

-- and so in a run that goes on from a restart
pub handed-again : (s : Stream) → WellFormedStream s → (r : Run) (c : Call) (cs : Calls) (d : Call) → RestartsRun s r c → Proper s (c and_then (cs before d))
    → Near (c and_then (cs before d)) → (h : Handed)
    → handed_by (call_step s (run_from r s (c and_then cs)) d).answer (call_step s (run_from r s (c and_then cs)) d).store ≡ h ∷ []
    → HandedAt s (c and_then cs) d.arriving h
handed-again s w r c cs d re p near h e =
    handed-next s (c and_then cs) d r.handed (run_from r s (c and_then cs)) (invariant-again s w r c re cs p.0 near.0)
    (invariant-again s w r c re (cs before d) p near)
    h
    e
