-- Eight words that start an octet: the mask and the factor of each lane give its word, and the product fits sixteen bits.
-- By cases on the lane, where both are numerals.
use mathlib.Core.Path.{◌≡◌, ap, sym, ◌∙◌}
use mathlib.Core.List.{List}
use Prim.Native.Nat.{ℕ, zero, suc, ◌+◌, ◌*◌, ◌/◌, ◌%◌, ◌^◌, ◌<◌}
use native.Mathlib.Numerals.{add-one}
use native.Mathlib.Omega.{arith}
use lib.Bits.{bit_and, and_mask}
use lib.ListN.{length, get_or}
use Rattle.wire_spec.specs.Bits.{bits_at}
use Rattle.wire_spec.proofs.Window.{within-two, below_all}
use Rattle.wire_row_reader.specs.Lanes.{lanes}

-- the product fits
pub lane-fits : (j : ℕ) → j < 8 → get_or lanes j 0 * get_or lanes (j + 8) 0 < 65536
lane-fits zero h = omega arith
lane-fits (suc zero) h = omega arith
lane-fits (suc (suc zero)) h = omega arith
lane-fits (suc (suc (suc zero))) h = omega arith
lane-fits (suc (suc (suc (suc zero)))) h = omega arith
lane-fits (suc (suc (suc (suc (suc zero))))) h = omega arith
lane-fits (suc (suc (suc (suc (suc (suc zero)))))) h = omega arith
lane-fits (suc (suc (suc (suc (suc (suc (suc zero))))))) h = omega arith
lane-fits (suc (suc (suc (suc (suc (suc (suc (suc j)))))))) h = absurd (omega arith)

-- the word of each of the four places
place0 : (x : ℕ) → x % 65536 * 1 / 64 ≡ x / 64 % 1024
place0 x = omega arith

place2 : (x : ℕ) → x % 16384 * 4 / 64 ≡ x / 16 % 1024
place2 x = omega arith

place4 : (x : ℕ) → x % 4096 * 16 / 64 ≡ x / 4 % 1024
place4 x = omega arith

place6 : (x : ℕ) → x % 1024 * 64 / 64 ≡ x / 1 % 1024
place6 x = omega arith

module _ (s : List ℕ) (octet : (j : ℕ) → get_or s j 0 < 256) (at : ℕ) (inside : at + 1 < length s) where
  two : (p t : ℕ) → p + 10 + t ≡ 16 → bits_at s (8 * at + p) 10 ≡ (get_or s at 0 * 256 + get_or s (at + 1) 0) / 2 ^ t % 1024
  two p t h = rw (add-one at) (within-two s (below_all s octet) at p 10 t h (omega arith))

  lane0 : bit_and (get_or s at 0 * 256 + get_or s (at + 1) 0) 65535 * 1 / 64 ≡ bits_at s (8 * at + 0) 10
  lane0 = ap (λ (y : ℕ). y * 1 / 64) (and_mask (get_or s at 0 * 256 + get_or s (at + 1) 0) 16) ∙ place0 _ ∙ sym (two 0 6 (omega arith))

  lane2 : bit_and (get_or s at 0 * 256 + get_or s (at + 1) 0) 16383 * 4 / 64 ≡ bits_at s (8 * at + 2) 10
  lane2 = ap (λ (y : ℕ). y * 4 / 64) (and_mask (get_or s at 0 * 256 + get_or s (at + 1) 0) 14) ∙ place2 _ ∙ sym (two 2 4 (omega arith))

  lane4 : bit_and (get_or s at 0 * 256 + get_or s (at + 1) 0) 4095 * 16 / 64 ≡ bits_at s (8 * at + 4) 10
  lane4 = ap (λ (y : ℕ). y * 16 / 64) (and_mask (get_or s at 0 * 256 + get_or s (at + 1) 0) 12) ∙ place4 _ ∙ sym (two 4 2 (omega arith))

  lane6 : bit_and (get_or s at 0 * 256 + get_or s (at + 1) 0) 1023 * 64 / 64 ≡ bits_at s (8 * at + 6) 10
  lane6 = ap (λ (y : ℕ). y * 64 / 64) (and_mask (get_or s at 0 * 256 + get_or s (at + 1) 0) 10) ∙ place6 _ ∙ sym (two 6 0 (omega arith))

  pub lane-is : (j : ℕ) → j < 8
      → bit_and (get_or s at 0 * 256 + get_or s (at + 1) 0) (get_or lanes j 0) * get_or lanes (j + 8) 0 / 64 ≡ bits_at s (8 * at + 2 * (j % 4)) 10
  lane-is zero h = lane0
  lane-is (suc zero) h = lane2
  lane-is (suc (suc zero)) h = lane4
  lane-is (suc (suc (suc zero))) h = lane6
  lane-is (suc (suc (suc (suc zero)))) h = lane0
  lane-is (suc (suc (suc (suc (suc zero))))) h = lane2
  lane-is (suc (suc (suc (suc (suc (suc zero)))))) h = lane4
  lane-is (suc (suc (suc (suc (suc (suc (suc zero))))))) h = lane6
  lane-is (suc (suc (suc (suc (suc (suc (suc (suc j)))))))) h = absurd (omega arith)
