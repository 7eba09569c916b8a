-- The checksum word asks for the sum modulo 512, and for no more of it.
-- By the definition.
use mathlib.Core.Path.{◌≡◌, ap}
use Prim.Native.Nat.{ℕ, ◌+◌, ◌-◌, ◌*◌, ◌/◌, ◌%◌}
use native.Mathlib.Omega.{arith}
use Rattle.wire_spec.specs.Words.{checksum_word}

pub checksum-agree : (x y : ℕ) → x % 512 ≡ y % 512 → checksum_word x ≡ checksum_word y
unfolding checksum_word
checksum-agree x y e = ap (λ (low : ℕ). low + 512 * (1 - low / 256)) e

-- of two sums, either or both modulo 512
pub low_first : (a b : ℕ) → (a % 512 + b) % 512 ≡ (a + b) % 512
low_first a b = omega arith

pub low_second : (a b : ℕ) → (a + b % 512) % 512 ≡ (a + b) % 512
low_second a b = omega arith
