-- `fits_behind` tells whether octets behind others fit.
-- The difference is the sum's.
use mathlib.Core.Path.{◌≡◌, refl}
use mathlib.Core.Bool.{Bool, true, false}
use Prim.Native.Nat.{ℕ, ◌+◌, ◌-◌, ◌≤◌}
use native.Mathlib.Omega.{arith}
use borrow.Author.Tests.{le-leb, lt-leb, leb-true, leb-false}
use lib.Dec.{leb}
use Rattle.anc_writer.proofs.check.fits_behind.Goals as goal

taken-off : (front n most : ℕ) → front ≤ most → leb n (most - front) ≡ leb (front + n) most
taken-off front n most h = go (leb n (most - front)) refl
  where
    go : (t : Bool) → leb n (most - front) ≡ t → t ≡ leb (front + n) most
    go true e = rw (le-leb (front + n) most (omega (arith, leb-true n (most - front) e)))
    go false e = rw (lt-leb (front + n) most (omega (arith, leb-false n (most - front) e)))

pub returns-then-most-front : goal.returns-then-most-front
returns-then-most-front c = rw (lt-leb (c.args.front + c.args.octets.0) c.args.most (omega (arith, c.if-most-front.true)))

pub returns : goal.returns
returns c = taken-off c.args.front c.args.octets.0 c.args.most c.if-most-front.false
