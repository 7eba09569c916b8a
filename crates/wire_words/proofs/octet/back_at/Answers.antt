-- `back_at` is the thirty-two bits at an octet, its octets in reverse order.
-- By the number that four octets write.
use mathlib.Core.Path.{sym, ◌∙◌}
use Prim.Native.Nat.{ℕ, ◌+◌, ◌<◌}
use native.Mathlib.Omega.{arith}
use lib.ListN.{get_or}
use Rattle.wire_spec.proofs.FieldLaws.{four-octets-at}
use Rattle.wire_words.proofs.Octets.{reversed-quad}
use Rattle.wire_words.proofs.octet.back_at.Goals as goal

pub returns : goal.returns
returns c = let a = c.args in
    let s = a.octets.now in
    let octet : (j : ℕ) → get_or s j 0 < 256 = λ j. (c.shared_slice_known-1.given j).fits in
    rw c.quad.ensures
    (reversed-quad (get_or s a.at 0) (get_or s (a.at + 1) 0) (get_or s (a.at + 2) 0) (get_or s (a.at + 3) 0) (octet a.at) (octet (a.at + 1)) (octet (a.at + 2)) (octet (a.at + 3))
    ∙ sym (four-octets-at s octet a.at (omega arith)))
