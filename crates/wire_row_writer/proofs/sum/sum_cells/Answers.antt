use Rattle.std.proofs.Common.{◌≡◌, ℕ, ◌+◌, ◌%◌, length, get_or, zero-add, add-one, arith, drop-cons}
use lib.Seq.{drop-length}
use Rattle.wire_spec.specs.Words.{sum_low}
use Rattle.wire_row_writer.proofs.sum.sum_cells.Goals as goal

-- one word more
step : (s w r t : ℕ) → (s + (w % 512 + r)) % 512 ≡ t → ((s + w) % 65536 + r) % 512 ≡ t
step s w r t h = omega arith

pub loop-w-init : goal.loop-w-init
loop-w-init c = rw (zero-add (sum_low c.args.words.now))

pub loop-w-preserved : goal.loop-w-preserved
loop-w-preserved c = let l = c.loop-w in
    let w = c.args.words.now in
    rw (add-one l.w-index) (step l.sum (get_or w l.w-index 0) _ _ (rw (drop-cons w l.w-index 0 (omega arith)) at l.invariant))

pub returns : goal.returns
returns c = let w = c.args.words.now in
    let e : c.loop-w.w-index ≡ length w = omega arith in
    omega (arith, rw (e, drop-length w) at c.loop-w.invariant)
