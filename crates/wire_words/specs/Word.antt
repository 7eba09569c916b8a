-- Where ten-bit words may stand in octets, and one of them put there.
use Rattle.std.specs.Prelude.{◌≡◌, List, ℕ, ◌+◌, ◌*◌, ◌/◌, ◌%◌, ◌^◌, ◌≤◌, ◌<◌, length}
use Rattle.wire_spec.specs.Words.{word_bits}

-- `count` words from the bit `bit` on lie in the octets; at an even bit, so that each lies in two neighbouring octets;
-- near the front, so that no place or sum of them passes its type
pub record WordsFit (octets : List ℕ) (bit count : ℕ) : Type 0 where
  pub even : bit % 2 ≡ 0
  pub inside : bit + word_bits * count ≤ 8 * length octets
  pub near : bit + word_bits * count < 2 ^ 16

-- sixteen bits `x` with the ten that end `m` bits before the last replaced by `w`
abbrev pub replaced : ℕ → ℕ → ℕ → ℕ
replaced x m w = (x / 2 ^ (word_bits + m) * 2 ^ word_bits + w) * 2 ^ m + x % 2 ^ m
