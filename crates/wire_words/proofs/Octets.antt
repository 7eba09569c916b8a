-- Numbers of whole octets: four of them reversed, and the bits of a number's octets.
-- By the number that the octets write.
use mathlib.Core.Path.{◌≡◌, sym, ◌∙◌}
use mathlib.Core.List.{◌++◌}
use Prim.Native.Nat.{ℕ, ◌+◌, ◌*◌, ◌/◌, ◌%◌, ◌^◌, ◌<◌}
use native.Mathlib.Omega.{arith}
use lib.ListN.{length-append}
use lib.Pow.{mod-pow-add}
use Rattle.wire_spec.specs.Bits.{quad_of, to_bits}
use Rattle.wire_spec.proofs.BitLaws.{num-inj, num-to_bits, length-to_bits}
use Rattle.wire_spec.proofs.Window.{num-append}
use Rattle.wire_words.specs.Octet.{reversed_of}

-- four octets reversed
reversed-digits : (a b c d : ℕ) → a < 256 → b < 256 → c < 256 → d < 256
    → (quad_of d c b a % 256 ≡ a) × (quad_of d c b a / 256 % 256 ≡ b) × (quad_of d c b a / 65536 % 256 ≡ c) × (quad_of d c b a / 16777216 ≡ d)
reversed-digits a b c d ha hb hc hd =
    let q : quad_of d c b a / 256 ≡ (d * 256 + c) * 256 + b = omega arith in
    let r : quad_of d c b a / 65536 ≡ d * 256 + c = omega arith in
    (omega arith, rw q (omega arith), rw r (omega arith), omega arith)

pub reversed-quad : (a b c d : ℕ) → a < 256 → b < 256 → c < 256 → d < 256 → reversed_of (quad_of d c b a) ≡ quad_of a b c d
reversed-quad a b c d ha hb hc hd =
    let t = reversed-digits a b c d ha hb hc hd in
    λ i. quad_of (t.0 i) (t.1 i) (t.2 i) (t.3 i)

-- the high and the low bits of a number
pub to_bits-append : (m n x : ℕ) → to_bits m (x / 2 ^ n) ++ to_bits n x ≡ to_bits (m + n) x
to_bits-append m n x =
    num-inj (to_bits m (x / 2 ^ n) ++ to_bits n x) (to_bits (m + n) x)
    (length-append (to_bits m (x / 2 ^ n)) (to_bits n x) ∙ rw (length-to_bits m (x / 2 ^ n), length-to_bits n x, length-to_bits (m + n) x))
    (num-append (to_bits m (x / 2 ^ n)) (to_bits n x)
    ∙ rw (length-to_bits n x, num-to_bits m (x / 2 ^ n), num-to_bits n x, num-to_bits (m + n) x) (sym (mod-pow-add x m n)))

-- bits of numbers that agree
pub to_bits-agree : (w x y : ℕ) → x % 2 ^ w ≡ y % 2 ^ w → to_bits w x ≡ to_bits w y
to_bits-agree w x y e =
    num-inj (to_bits w x) (to_bits w y) (length-to_bits w x ∙ sym (length-to_bits w y)) (num-to_bits w x ∙ e ∙ sym (num-to_bits w y))
