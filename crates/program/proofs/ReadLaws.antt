-- What a read answers: only one that failed can have been interrupted.
-- By the sign of the answer.
use mathlib.Core.Path.{◌≡◌, refl}
use mathlib.Core.Bool.{Bool, false}
use native.Mathlib.Omega.{arith}
use borrow.Author.Tests.{leb-false}
use lib.IntN.{ℤ, pos, negsuc}
use lib.Signed.{le_z}
use Rattle.program_spec.specs.Buffers.{Interrupted}

-- a read that did not fail was not interrupted
pub not-interrupted : (z : ℤ) → Interrupted z false
not-interrupted (pos k) = refl
not-interrupted (negsuc k) = tt

pub failed : (z : ℤ) (b : Bool) → le_z (pos 0) z ≡ false → Interrupted z b
failed (pos k) b e = absurd (omega (arith, leb-false 0 k e))
failed (negsuc k) b e = tt
