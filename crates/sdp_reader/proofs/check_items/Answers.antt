use mathlib.Core.Path.{ap, sym, ◌∙◌}
use mathlib.Core.Bool.{Bool, true, false}
use Prim.Native.Nat.{ℕ, ◌≤◌, ◌+◌}
use native.Mathlib.Omega.{arith}
use lib.Dec.{ltb}
use lib.ListN.{length}
use Rattle.wire_spec.specs.Bits.{bit}
use Rattle.sdp_spec.specs.Reading.{gather, none}
use Rattle.sdp_spec.proofs.CutLaws.{left, left-all}
use Rattle.sdp_reader.proofs.GatherLaws.{behind-shorter, gather-refused, gather-accepted, left_less, index-next}
use Rattle.std.proofs.lemmas.Result.{err_from_is_err_and}
use Rattle.sdp_reader.proofs.check_items.Goals as goal

bit-most : (n : ℕ) (b : Bool) → 0 + (n + bit b) ≤ n + 1
bit-most n true = omega arith
bit-most n false = omega arith

pub loop-more-init : goal.loop-more-init
loop-more-init c = (bit-most (length c.args.text.now) (ltb 0 (length c.args.text.now)), ap (gather 0 none) (left-all c.args.text.now))

pub returns-in_err-found : goal.returns-in_err-found
returns-in_err-found c =
    let l = c.loop-more in
    let p = err_from_is_err_and c.from_residual.result c.from_residual.ensures.1 in
    let e = sym c.add_item.ensures ∙ c.in_err-found.was in
    rw (p.1, p.2)
    (sym (gather-refused l.rest.now _ c.next_item-step.ensures l.index l.found _ e)
    ∙ ap (λ (m : Bool). gather l.index l.found (left m l.rest.now)) (sym c.loop-more-test.true) ∙ l.invariant.1)

pub slice_bounds-rest-count : goal.slice_bounds-rest-count
slice_bounds-rest-count c = c.next_item-step.ensures.inside

pub slice_bounds-rest-start : goal.slice_bounds-rest-start
slice_bounds-rest-start c = c.next_item-step.ensures.inside

pub overflow_add-index : goal.overflow_add-index
overflow_add-index c = let l = c.loop-more in omega (arith, l.invariant.0, ap bit c.loop-more-test.true)

pub loop-more-smaller : goal.loop-more-smaller
loop-more-smaller c = let l = c.loop-more in left_less _ (length l.rest.now) (bit l.more) (behind-shorter l.rest.now _ c.next_item-step.ensures) (ap bit c.loop-more-test.true)

pub loop-more-preserved : goal.loop-more-preserved
loop-more-preserved c = let l = c.loop-more in (
  index-next l.index _ (length l.rest.now) (bit l.more) _ (behind-shorter l.rest.now _ c.next_item-step.ensures) (ap bit c.loop-more-test.true) l.invariant.0,
  gather-accepted l.rest.now _ c.next_item-step.ensures l.index l.found _ (sym c.add_item.ensures ∙ c.in_ok-found.was) ∙ ap (λ (m : Bool). gather l.index l.found (left m l.rest.now)) (sym c.loop-more-test.true) ∙ l.invariant.1,
)

pub returns : goal.returns
unfolding gather
returns c = let l = c.loop-more in ap (λ (m : Bool). gather l.index l.found (left m l.rest.now)) (sym c.loop-more-test.false) ∙ l.invariant.1
