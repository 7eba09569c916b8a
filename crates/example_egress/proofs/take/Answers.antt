-- `take` is safe and ends.
-- The array keeps its length over the call that fills it.
use mathlib.Core.Path.{sym}
use native.Mathlib.Omega.{arith}
use lib.Seq.{length-take-le}
use Rattle.example_egress.proofs.take.Goals as goal

pub slice_bounds-print_octets-end : goal.slice_bounds-print_octets-end
slice_bounds-print_octets-end c = sym (length-take-le _ c.take-taken.new.out (omega (arith, c.take-taken.auto.out)))
