use Rattle.std.proofs.Common.{sum, ◌≡◌, ℕ, ◌+◌, ◌%◌, length, get_or, add-zero, add-one, arith, drop-cons}
use lib.Seq.{drop-length}
use Rattle.std.proofs.lemmas.List.Sums.{sum_by-set}
use Rattle.wire_row_scan.proofs.scan.add_lanes.Goals as goal

-- one word more, in a lane whose sum was `old`
step : (t u old w r a : ℕ) → u + old ≡ t + (old + w) % 65536 → (t + (w % 512 + r)) % 512 ≡ a → (u + r) % 512 ≡ a
step t u old w r a e h = omega arith

pub loop-j-preserved : goal.loop-j-preserved
loop-j-preserved c = let l = c.loop-j in
    let w = c.args.words.now in
    let y = (get_or l.sums l.j 0 + get_or w l.j 0) % 65536 in
    rw (add-one l.j)
    (step (sum l.sums) _ (get_or l.sums l.j 0) (get_or w l.j 0) _ _ (sum_by-set (λ x. x) l.sums l.j y 0 (omega arith))
    (rw (drop-cons w l.j 0 (omega arith)) at l.invariant))

pub returns : goal.returns
returns c = let l = c.loop-j in
    let w = c.args.words.now in
    let e : l.j ≡ length w = omega arith in
    rw (e, drop-length w, add-zero (sum l.sums)) at l.invariant
