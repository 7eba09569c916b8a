-- `code_size` counts the octets of a VPID code with its `;`.
-- By whether there is one.
use mathlib.Core.Path.{ap, sym, ◌∙◌}
use Prim.Native.Nat.{ℕ, ◌+◌}
use native.Mathlib.Omega.{arith}
use Rattle.sdp_spec.specs.Writing.{separated}
use Rattle.text.proofs.TextLaws.{length-decimal}
use Rattle.sdp_spec.proofs.WritingLaws.{codes-size}
use Rattle.sdp_writer.proofs.code_size.Goals as goal

pub overflow_add-result : goal.overflow_add-result
overflow_add-result c = omega (arith, c.decimal_size.ensures, length-decimal c.in-Some.code)

pub returns-in-None : goal.returns-in-None
unfolding separated
returns-in-None c = rw c.in-None.is

pub returns-in-Some : goal.returns-in-Some
returns-in-Some c = rw c.in-Some.is (ap (λ (n : ℕ). 11 + n) c.decimal_size.ensures ∙ sym (codes-size _))
