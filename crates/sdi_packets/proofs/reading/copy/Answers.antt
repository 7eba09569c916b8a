use Rattle.std.proofs.Common.{◌≡◌, ◌+◌, ◌++◌, List, ℕ, length, drop, ap, refl, sym, ◌∙◌, add-one, arith, drop-cons}
use lib.ListN.{drop_of_length-le}
use lib.Seq.{drop-length}
use Rattle.std.proofs.lemmas.List.{append-nil}
use Rattle.wire_spec.proofs.ListLaws.{splice-set, splice-none}
use Rattle.sdi_packets.proofs.reading.copy.Goals as goal

pub loop-k-init : goal.loop-k-init
loop-k-init c = refl

pub loop-k-preserved : goal.loop-k-preserved
loop-k-preserved c = let l = c.loop-k in
    let f = c.args.from.now in
    splice-set l.to l.k _ (drop (l.k + 1) f) (omega arith) ∙ rw (add-one l.k) (rw (drop-cons f l.k 0 (omega arith)) at l.invariant)

pub returns : goal.returns
returns c = let l = c.loop-k in
    let f = c.args.from.now in
    let e : l.k ≡ length f = omega arith in
    sym (splice-none l.to (length f))
    ∙ (rw (e, drop-length f) at l.invariant)
    ∙ ap (λ (t : List ℕ). f ++ t) (drop_of_length-le c.args.to.now (omega arith))
    ∙ append-nil f
