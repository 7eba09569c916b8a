use Rattle.std.proofs.Common.{◌≡◌, ◌+◌, length, drop, sym, ◌∙◌, add-zero, add-one, arith, drop-cons}
use lib.Seq.{drop-length}
use Rattle.wire_spec.proofs.ListLaws.{splice-set, splice-none}
use Rattle.wire_row_reader.proofs.row.put.Goals as goal

pub loop-k-init : goal.loop-k-init
loop-k-init c = simp add-zero

pub loop-k-preserved : goal.loop-k-preserved
loop-k-preserved c = let a = c.args in
    let l = c.loop-k in
    let w = a.words.now in
    let t : a.to + (l.k + 1) ≡ a.to + l.k + 1 = omega arith in
    rw t
    (splice-set l.cells (a.to + l.k) _ (drop (l.k + 1) w) (omega arith)
    ∙ rw (add-one l.k) (rw (drop-cons w l.k 0 (omega arith)) at l.invariant))

pub returns : goal.returns
returns c = let l = c.loop-k in
    let a = c.args in
    let w = a.words.now in
    let e : l.k ≡ length w = omega arith in
    sym (splice-none l.cells (a.to + length w)) ∙ (rw (e, drop-length w) at l.invariant)
