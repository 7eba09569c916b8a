-- Fields that lie within one octet, or that are two or four whole octets.
-- Each is a quotient of the number that its octets write.
use mathlib.Core.Path.{◌≡◌, ap, ◌∙◌}
use mathlib.Core.List.{List}
use Prim.Native.Nat.{ℕ, suc, ◌+◌, ◌-◌, ◌*◌, ◌/◌, ◌%◌, ◌^◌, ◌<◌, ◌≤◌}
use native.Mathlib.Nat.{add-zero}
use native.Mathlib.Omega.{arith}
use lib.ListN.{length, drop, get_or, length-drop}
use lib.Seq.{drop-cons, get_or-drop}
use Rattle.wire_spec.specs.Bits.{bits_at, quad_of}
use Rattle.wire_spec.proofs.Window.{window, below_all}
use Rattle.wire_spec.proofs.HeadLaws.{front-number}

module _ (s : List ℕ) (octet : (j : ℕ) → get_or s j 0 < 256) (i : ℕ) where
  -- n bits from bit p on of one octet
  pub within-octet : i < length s → (p n : ℕ) → p + n ≤ 8 → bits_at s (8 * i + p) n ≡ get_or s i 0 / 2 ^ (8 - p - n) % 2 ^ n
  within-octet l p n h =
      window s (below_all s octet) i 1 p n (8 - p - n) (omega arith) (omega arith)
      ∙ ap (λ (x : ℕ). x / 2 ^ (8 - p - n) % 2 ^ n) (rw (drop-cons s i 0 l) (omega arith))

  -- sixteen bits
  pub two-octets-at : suc i < length s → bits_at s (8 * i) 16 ≡ get_or s i 0 * 256 + get_or s (suc i) 0
  two-octets-at l =
      let e : 8 * i + 0 ≡ 8 * i = add-zero (8 * i) in
      let w = window s (below_all s octet) i 2 0 16 0 (omega arith) (omega arith) in
      (rw e at w) ∙ rw (drop-cons s i 0 (omega arith), drop-cons s (suc i) 0 l) (omega (arith, octet i, octet (suc i)))

  -- thirty-two bits
  pub four-octets-at : i + 4 ≤ length s → bits_at s (8 * i) 32 ≡ quad_of (get_or s i 0) (get_or s (i + 1) 0) (get_or s (i + 2) 0) (get_or s (i + 3) 0)
  four-octets-at l =
      let e : 8 * i + 0 ≡ 8 * i = add-zero (8 * i) in
      let w = window s (below_all s octet) i 4 0 32 0 (omega arith) l in
      let f = front-number (drop i s) (rw (length-drop i s) (omega arith)) in
      let g = rw (get_or-drop i s 0 0, get_or-drop i s 1 0, get_or-drop i s 2 0, get_or-drop i s 3 0, add-zero i) at f in
      (rw e at w) ∙ rw g (omega (arith, octet i, octet (i + 1), octet (i + 2), octet (i + 3)))
