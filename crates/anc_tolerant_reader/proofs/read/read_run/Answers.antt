use mathlib.Core.Path.{◌≡◌, refl, ap, sym, subst, ◌∙◌}
use mathlib.Core.List.{List, ◌++◌}
use Prim.Native.Nat.{ℕ, suc, ◌≤◌, ◌+◌, ◌-◌}
use native.Mathlib.Nat.{sub-zero}
use native.Mathlib.Omega.{arith}
use lib.ListN.{length, length-take, length-drop, length-append}
use Rattle.wire_spec.specs.Result.{IsAccepted}
use Rattle.wire_spec.specs.Anc.{behind}
use Rattle.wire_spec.proofs.ListLaws.{splice-none}
use Rattle.anc_tolerant_spec.specs.Tolerant.{tolerate_run}
use Rattle.anc_tolerant_reader.specs.Answers.{own_cells, taken_cells}
use Rattle.anc_tolerant_reader.proofs.PacketLaws.{sized, front-passes}
use Rattle.anc_tolerant_reader.proofs.RunLaws.{Left, behind-part, left-goes, Reads, reads-next}
use Rattle.anc_tolerant_reader.proofs.read.read_run.Goals as goal

pub loop-i-init : goal.loop-i-init
loop-i-init c = let a = c.args in
    (rw (sub-zero a.count) c.requires.accepted, rw (sub-zero a.count) record { long = refl; room = omega (arith, c.requires.octets_in_bounds); stored = refl })

pub offset_bounds-cells-to : goal.offset_bounds-cells-to
offset_bounds-cells-to c = let here : Reads c.args.layout c.loop-i.rest.now c.loop-i.i (c.args.count - (c.loop-i.i + 1)) = let a = c.args in
    let l = c.loop-i in
    let n : a.count - l.i ≡ suc (a.count - (l.i + 1)) = omega arith in
    reads-next a.layout l.rest.now l.i _ (subst (λ (k : ℕ). IsAccepted (tolerate_run a.layout l.i k l.rest.now)) n l.invariant.0) in
    let left : let a = c.args in let l = c.loop-i in Left (taken_cells (tolerate_run a.layout 0 a.count a.octets.now)) a.cells.now (own_cells a.layout l.rest.now ++ taken_cells (tolerate_run a.layout (l.i + 1) (a.count - (l.i + 1)) (behind a.layout l.rest.now))) l.cells l.to = let a = c.args in
    let l = c.loop-i in
    let n : a.count - l.i ≡ suc (a.count - (l.i + 1)) = omega arith in
    subst (λ (x : List ℕ). Left (taken_cells (tolerate_run a.layout 0 a.count a.octets.now)) a.cells.now x l.cells l.to)
    (ap (λ (k : ℕ). taken_cells (tolerate_run a.layout l.i k l.rest.now)) n ∙ (here).cells) l.invariant.1 in
    let own_room : c.loop-i.to + length (own_cells c.args.layout c.loop-i.rest.now) ≤ length c.loop-i.cells = omega (arith, (left).room, length-append (own_cells c.args.layout c.loop-i.rest.now) (taken_cells (tolerate_run c.args.layout (c.loop-i.i + 1) (c.args.count - (c.loop-i.i + 1)) (behind c.args.layout c.loop-i.rest.now)))) in
    omega (arith, own_room)

pub slice_bounds-read_own-count : goal.slice_bounds-read_own-count
slice_bounds-read_own-count c = let here : Reads c.args.layout c.loop-i.rest.now c.loop-i.i (c.args.count - (c.loop-i.i + 1)) = let a = c.args in
    let l = c.loop-i in
    let n : a.count - l.i ≡ suc (a.count - (l.i + 1)) = omega arith in
    reads-next a.layout l.rest.now l.i _ (subst (λ (k : ℕ). IsAccepted (tolerate_run a.layout l.i k l.rest.now)) n l.invariant.0) in
    let left : let a = c.args in let l = c.loop-i in Left (taken_cells (tolerate_run a.layout 0 a.count a.octets.now)) a.cells.now (own_cells a.layout l.rest.now ++ taken_cells (tolerate_run a.layout (l.i + 1) (a.count - (l.i + 1)) (behind a.layout l.rest.now))) l.cells l.to = let a = c.args in
    let l = c.loop-i in
    let n : a.count - l.i ≡ suc (a.count - (l.i + 1)) = omega arith in
    subst (λ (x : List ℕ). Left (taken_cells (tolerate_run a.layout 0 a.count a.octets.now)) a.cells.now x l.cells l.to)
    (ap (λ (k : ℕ). taken_cells (tolerate_run a.layout l.i k l.rest.now)) n ∙ (here).cells) l.invariant.1 in
    let own_room : c.loop-i.to + length (own_cells c.args.layout c.loop-i.rest.now) ≤ length c.loop-i.cells = omega (arith, (left).room, length-append (own_cells c.args.layout c.loop-i.rest.now) (taken_cells (tolerate_run c.args.layout (c.loop-i.i + 1) (c.args.count - (c.loop-i.i + 1)) (behind c.args.layout c.loop-i.rest.now)))) in
    omega (arith, own_room)

pub slice_bounds-read_own-start : goal.slice_bounds-read_own-start
slice_bounds-read_own-start c = let here : Reads c.args.layout c.loop-i.rest.now c.loop-i.i (c.args.count - (c.loop-i.i + 1)) = let a = c.args in
    let l = c.loop-i in
    let n : a.count - l.i ≡ suc (a.count - (l.i + 1)) = omega arith in
    reads-next a.layout l.rest.now l.i _ (subst (λ (k : ℕ). IsAccepted (tolerate_run a.layout l.i k l.rest.now)) n l.invariant.0) in
    let left : let a = c.args in let l = c.loop-i in Left (taken_cells (tolerate_run a.layout 0 a.count a.octets.now)) a.cells.now (own_cells a.layout l.rest.now ++ taken_cells (tolerate_run a.layout (l.i + 1) (a.count - (l.i + 1)) (behind a.layout l.rest.now))) l.cells l.to = let a = c.args in
    let l = c.loop-i in
    let n : a.count - l.i ≡ suc (a.count - (l.i + 1)) = omega arith in
    subst (λ (x : List ℕ). Left (taken_cells (tolerate_run a.layout 0 a.count a.octets.now)) a.cells.now x l.cells l.to)
    (ap (λ (k : ℕ). taken_cells (tolerate_run a.layout l.i k l.rest.now)) n ∙ (here).cells) l.invariant.1 in
    let own_room : c.loop-i.to + length (own_cells c.args.layout c.loop-i.rest.now) ≤ length c.loop-i.cells = omega (arith, (left).room, length-append (own_cells c.args.layout c.loop-i.rest.now) (taken_cells (tolerate_run c.args.layout (c.loop-i.i + 1) (c.args.count - (c.loop-i.i + 1)) (behind c.args.layout c.loop-i.rest.now)))) in
    omega (arith, own_room)

pub read_own-step-requires : goal.read_own-step-requires
read_own-step-requires c = let here : Reads c.args.layout c.loop-i.rest.now c.loop-i.i (c.args.count - (c.loop-i.i + 1)) = let a = c.args in
    let l = c.loop-i in
    let n : a.count - l.i ≡ suc (a.count - (l.i + 1)) = omega arith in
    reads-next a.layout l.rest.now l.i _ (subst (λ (k : ℕ). IsAccepted (tolerate_run a.layout l.i k l.rest.now)) n l.invariant.0) in
    let left : let a = c.args in let l = c.loop-i in Left (taken_cells (tolerate_run a.layout 0 a.count a.octets.now)) a.cells.now (own_cells a.layout l.rest.now ++ taken_cells (tolerate_run a.layout (l.i + 1) (a.count - (l.i + 1)) (behind a.layout l.rest.now))) l.cells l.to = let a = c.args in
    let l = c.loop-i in
    let n : a.count - l.i ≡ suc (a.count - (l.i + 1)) = omega arith in
    subst (λ (x : List ℕ). Left (taken_cells (tolerate_run a.layout 0 a.count a.octets.now)) a.cells.now x l.cells l.to)
    (ap (λ (k : ℕ). taken_cells (tolerate_run a.layout l.i k l.rest.now)) n ∙ (here).cells) l.invariant.1 in
    let own_room : c.loop-i.to + length (own_cells c.args.layout c.loop-i.rest.now) ≤ length c.loop-i.cells = omega (arith, (left).room, length-append (own_cells c.args.layout c.loop-i.rest.now) (taken_cells (tolerate_run c.args.layout (c.loop-i.i + 1) (c.args.count - (c.loop-i.i + 1)) (behind c.args.layout c.loop-i.rest.now)))) in
    record { passed = (here).passes; octets_in_bounds = simp (length-take, length-drop) (omega (arith, own_room)) }

pub slice_bounds-rest-count : goal.slice_bounds-rest-count
slice_bounds-rest-count c = let here : Reads c.args.layout c.loop-i.rest.now c.loop-i.i (c.args.count - (c.loop-i.i + 1)) = let a = c.args in
    let l = c.loop-i in
    let n : a.count - l.i ≡ suc (a.count - (l.i + 1)) = omega arith in
    reads-next a.layout l.rest.now l.i _ (subst (λ (k : ℕ). IsAccepted (tolerate_run a.layout l.i k l.rest.now)) n l.invariant.0) in
    let size-there : c.read_own-step.result.octets.0 ≤ length c.loop-i.rest.now = let r = here in
    subst (λ (n : ℕ). n ≤ length c.loop-i.rest.now) (sym c.read_own-step.ensures.octets_value.0) (sized _ _ (front-passes _ _ r.passes)).whole in
    size-there

pub slice_bounds-rest-start : goal.slice_bounds-rest-start
slice_bounds-rest-start c = let here : Reads c.args.layout c.loop-i.rest.now c.loop-i.i (c.args.count - (c.loop-i.i + 1)) = let a = c.args in
    let l = c.loop-i in
    let n : a.count - l.i ≡ suc (a.count - (l.i + 1)) = omega arith in
    reads-next a.layout l.rest.now l.i _ (subst (λ (k : ℕ). IsAccepted (tolerate_run a.layout l.i k l.rest.now)) n l.invariant.0) in
    let size-there : c.read_own-step.result.octets.0 ≤ length c.loop-i.rest.now = let r = here in
    subst (λ (n : ℕ). n ≤ length c.loop-i.rest.now) (sym c.read_own-step.ensures.octets_value.0) (sized _ _ (front-passes _ _ r.passes)).whole in
    size-there

pub overflow_add-to : goal.overflow_add-to
overflow_add-to c = let here : Reads c.args.layout c.loop-i.rest.now c.loop-i.i (c.args.count - (c.loop-i.i + 1)) = let a = c.args in
    let l = c.loop-i in
    let n : a.count - l.i ≡ suc (a.count - (l.i + 1)) = omega arith in
    reads-next a.layout l.rest.now l.i _ (subst (λ (k : ℕ). IsAccepted (tolerate_run a.layout l.i k l.rest.now)) n l.invariant.0) in
    let left : let a = c.args in let l = c.loop-i in Left (taken_cells (tolerate_run a.layout 0 a.count a.octets.now)) a.cells.now (own_cells a.layout l.rest.now ++ taken_cells (tolerate_run a.layout (l.i + 1) (a.count - (l.i + 1)) (behind a.layout l.rest.now))) l.cells l.to = let a = c.args in
    let l = c.loop-i in
    let n : a.count - l.i ≡ suc (a.count - (l.i + 1)) = omega arith in
    subst (λ (x : List ℕ). Left (taken_cells (tolerate_run a.layout 0 a.count a.octets.now)) a.cells.now x l.cells l.to)
    (ap (λ (k : ℕ). taken_cells (tolerate_run a.layout l.i k l.rest.now)) n ∙ (here).cells) l.invariant.1 in
    let own_room : c.loop-i.to + length (own_cells c.args.layout c.loop-i.rest.now) ≤ length c.loop-i.cells = omega (arith, (left).room, length-append (own_cells c.args.layout c.loop-i.rest.now) (taken_cells (tolerate_run c.args.layout (c.loop-i.i + 1) (c.args.count - (c.loop-i.i + 1)) (behind c.args.layout c.loop-i.rest.now)))) in
    omega (arith, own_room, c.read_own-step.ensures.octets_value.1)

pub loop-i-preserved : goal.loop-i-preserved
loop-i-preserved c = let here : Reads c.args.layout c.loop-i.rest.now c.loop-i.i (c.args.count - (c.loop-i.i + 1)) = let a = c.args in
    let l = c.loop-i in
    let n : a.count - l.i ≡ suc (a.count - (l.i + 1)) = omega arith in
    reads-next a.layout l.rest.now l.i _ (subst (λ (k : ℕ). IsAccepted (tolerate_run a.layout l.i k l.rest.now)) n l.invariant.0) in
    let left : let a = c.args in let l = c.loop-i in Left (taken_cells (tolerate_run a.layout 0 a.count a.octets.now)) a.cells.now (own_cells a.layout l.rest.now ++ taken_cells (tolerate_run a.layout (l.i + 1) (a.count - (l.i + 1)) (behind a.layout l.rest.now))) l.cells l.to = let a = c.args in
    let l = c.loop-i in
    let n : a.count - l.i ≡ suc (a.count - (l.i + 1)) = omega arith in
    subst (λ (x : List ℕ). Left (taken_cells (tolerate_run a.layout 0 a.count a.octets.now)) a.cells.now x l.cells l.to)
    (ap (λ (k : ℕ). taken_cells (tolerate_run a.layout l.i k l.rest.now)) n ∙ (here).cells) l.invariant.1 in
    let a = c.args in
    let l = c.loop-i in
    let r = c.read_own-step in
    let m = a.count - (l.i + 1) in (
      subst (λ (x : List ℕ). IsAccepted (tolerate_run a.layout (l.i + 1) m x)) (behind-part a.layout l.rest.now r.result.octets.0 c.read_own-step.ensures.octets_value.0) (here).more,
      left-goes a.layout _ _ l.rest.now l.i m l.cells l.to r.result.octets.0 _ _ (left) c.read_own-step.ensures.octets_value.0 c.read_own-step.ensures.octets_value.1 c.read_own-step.ensures.cells_after,
    )

pub shape_of-cells : goal.shape_of-cells
shape_of-cells c = c.loop-i.invariant.1.long

pub returns : goal.returns
unfolding tolerate_run
returns c = let l = c.loop-i in
    let e : c.args.count - l.i ≡ 0 = omega arith in
    let done = rw e at l.invariant.1 in
    sym (splice-none l.cells l.to) ∙ done.stored
