use Rattle.std.proofs.Common.{◌≡◌, length, sym, ◌∙◌, add-one, arith, drop-cons}
use mathlib.Core.Bool.{and_assoc, and-true}
use lib.Seq.{drop-length}
use Rattle.anc_record.proofs.check.words_clear.Goals as goal

pub loop-w-preserved : goal.loop-w-preserved
loop-w-preserved c = let l = c.loop-w in
    rw (add-one l.w-index) (and_assoc l.clear _ _ ∙ (rw (drop-cons c.args.words.now l.w-index 0 (omega arith)) at l.invariant))

pub returns : goal.returns
returns c = let w = c.args.words.now in
    let l = c.loop-w in
    let e : l.w-index ≡ length w = omega arith in
    sym (and-true l.clear) ∙ (rw (e, drop-length w) at l.invariant)
