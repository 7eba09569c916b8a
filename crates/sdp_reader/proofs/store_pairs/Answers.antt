use mathlib.Core.Path.{ap, sym}
use mathlib.Core.Bool.{Bool}
use lib.ListN.{length}
use Rattle.wire_spec.specs.Bits.{bit}
use Rattle.sdp_spec.specs.Grammar.{pairs_of}
use Rattle.sdp_spec.proofs.CutLaws.{left, left-all}
use Rattle.sdp_reader.proofs.GatherLaws.{behind-shorter, left_less}
use Rattle.text.proofs.LeftLaws.{left-starts, left_as, left-ends}
use Rattle.sdp_reader.proofs.StoreLaws.{item-fits, left_behind}
use Rattle.sdp_reader.proofs.store_pairs.Goals as goal

pub loop-more-init : goal.loop-more-init
loop-more-init c = let a = c.args in
    left_as _ _ _ _ _ _ (ap pairs_of (sym (left-all a.text.now))) (left-starts _ a.pairs.now c.requires)

pub store_item-to-requires : goal.store_item-to-requires
store_item-to-requires c = let l = c.loop-more in item-fits _ _ _ _ _ _ c.next_item-step.ensures (left_as _ _ _ _ _ _ (ap (λ (m : Bool). pairs_of (left m l.rest.now)) c.loop-more-test.true) l.invariant)

pub slice_bounds-rest-count : goal.slice_bounds-rest-count
slice_bounds-rest-count c = c.next_item-step.ensures.inside

pub slice_bounds-rest-start : goal.slice_bounds-rest-start
slice_bounds-rest-start c = c.next_item-step.ensures.inside

pub loop-more-smaller : goal.loop-more-smaller
loop-more-smaller c = let l = c.loop-more in left_less _ (length l.rest.now) (bit l.more) (behind-shorter l.rest.now _ c.next_item-step.ensures) (ap bit c.loop-more-test.true)

pub loop-more-preserved : goal.loop-more-preserved
loop-more-preserved c = let l = c.loop-more in
    left_behind _ _ _ _ _ _ c.next_item-step.ensures (left_as _ _ _ _ _ _ (ap (λ (m : Bool). pairs_of (left m l.rest.now)) c.loop-more-test.true) l.invariant) _ _ c.store_item-to.ensures.0 c.store_item-to.ensures.1

pub shape_of-pairs : goal.shape_of-pairs
shape_of-pairs c = c.loop-more.invariant.long

pub returns : goal.returns
returns c = let l = c.loop-more in (left-ends _ _ _ _ (left_as _ _ _ _ _ _ (ap (λ (m : Bool). pairs_of (left m l.rest.now)) c.loop-more-test.false) l.invariant)).1
