-- `put_octet` puts a label and two hex digits.
-- By the digits, one by one.
use mathlib.Core.Path.{◌≡◌, ◌∙◌}
use mathlib.Core.List.{List, [], ◌∷◌}
use Prim.Native.Nat.{ℕ}
use native.Mathlib.Omega.{arith}
use Rattle.text.specs.Text.{hex}
use Rattle.text.proofs.PutLaws.{both, same}
use Rattle.text.proofs.TextLaws.{two_digits}
use Rattle.text.proofs.put_octet.Goals as goal

pub returns : goal.returns
returns c = let e : ◌≡◌ {A = List ℕ} _ (hex 2 c.args.x) = (λ i. c.digit.ensures i ∷ c.digit-2.ensures i ∷ []) ∙ two_digits c.args.x (omega arith) in
    record { put = both c.put-next.ensures.put (same e c.put.ensures.put); value = omega (arith, c.put-next.ensures.value, c.put.ensures.value) }
