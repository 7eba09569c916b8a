use Rattle.std.proofs.Common.{◌≡◌, ◌+◌, length, drop, refl, sym, ◌∙◌, add-one, arith, drop-cons}
use lib.Seq.{drop-length}
use Rattle.wire_spec.proofs.ListLaws.{splice-set, splice-none}
use Rattle.wire_words.proofs.octet.copy.Goals as goal

pub loop-k-init : goal.loop-k-init
loop-k-init c = refl

pub loop-k-preserved : goal.loop-k-preserved
loop-k-preserved c = let l = c.loop-k in
    let f = c.args.from.now in
    splice-set l.to l.k _ (drop (l.k + 1) f) (omega arith) ∙ rw (add-one l.k) (rw (drop-cons f l.k 0 (omega arith)) at l.invariant)

pub returns : goal.returns
returns c = let l = c.loop-k in
    let f = c.args.from.now in
    let e : l.k ≡ length f = omega arith in
    sym (splice-none l.to (length f)) ∙ (rw (e, drop-length f) at l.invariant)
