-- The first four octets of a packet: C, Line_Number, Horizontal_Offset, S and StreamNum.
-- Each is a quotient of the number that the four octets write.
use mathlib.Core.Path.{◌≡◌, ◌∙◌}
use mathlib.Core.List.{List, [], ◌∷◌}
use Prim.Native.Nat.{ℕ, ◌+◌, ◌-◌, ◌*◌, ◌/◌, ◌%◌, ◌^◌, ◌<◌, ◌≤◌}
use native.Mathlib.Omega.{arith}
use lib.ListN.{length, take, get_or}
use Rattle.wire_spec.specs.Bits.{bits_at, quad_of}
use Rattle.wire_spec.proofs.Window.{window, number, below_all}

pub front-number : (l : List ℕ) → 4 ≤ length l → number (take 4 l) ≡ quad_of (get_or l 0 0) (get_or l 1 0) (get_or l 2 0) (get_or l 3 0)
front-number (a ∷ b ∷ c ∷ d ∷ l) h = omega arith
front-number [] h = absurd (omega arith)
front-number (a ∷ []) h = absurd (omega arith)
front-number (a ∷ b ∷ []) h = absurd (omega arith)
front-number (a ∷ b ∷ c ∷ []) h = absurd (omega arith)

module _ (s : List ℕ) (octet : (j : ℕ) → get_or s j 0 < 256) (long : 4 ≤ length s) where
  run : (p n : ℕ) → p + n ≤ 32 → bits_at s p n ≡ quad_of (get_or s 0 0) (get_or s 1 0) (get_or s 2 0) (get_or s 3 0) / 2 ^ (32 - p - n) % 2 ^ n
  run p n h =
      let e : 8 * 0 + p ≡ p = omega arith in
      rw (← front-number s long) (rw e at (window s (below_all s octet) 0 4 p n (32 - p - n) (omega arith) long))

  pub c-at : bits_at s 0 1 ≡ get_or s 0 0 / 128
  c-at = run 0 1 (omega arith) ∙ omega (arith, octet 0, octet 1, octet 2, octet 3)

  pub line_at : bits_at s 1 11 ≡ get_or s 0 0 % 128 * 16 + get_or s 1 0 / 16
  line_at = run 1 11 (omega arith) ∙ omega (arith, octet 0, octet 1, octet 2, octet 3)

  pub offset_at : bits_at s 12 12 ≡ get_or s 1 0 % 16 * 256 + get_or s 2 0
  offset_at = run 12 12 (omega arith) ∙ omega (arith, octet 0, octet 1, octet 2, octet 3)

  pub s-at : bits_at s 24 1 ≡ get_or s 3 0 / 128
  s-at = run 24 1 (omega arith) ∙ omega (arith, octet 0, octet 1, octet 2, octet 3)

  pub stream_at : bits_at s 25 7 ≡ get_or s 3 0 % 128
  stream_at = run 25 7 (omega arith) ∙ omega (arith, octet 0, octet 1, octet 2, octet 3)
