-- The distance of two sent packets tells by their indices which was sent later, and how many were sent between them.
-- The residue of the numbers' difference is the difference of the indices, or 2^32 less it.
use mathlib.Core.Path.{◌≡◌, ◌∙◌, ap}
use Prim.Native.Nat.{ℕ, zero, suc, ◌+◌, ◌-◌, ◌^◌, ◌%◌, ◌≤◌, ◌<◌}
use native.Mathlib.Omega.{arith}
use lib.IntN.{pos, negsuc}
use borrow.Author.Tests.{lt-ltb, le-ltb, le-leb}
use Rattle.depacketizer_spec.specs.Step.{distance, max_ahead, max_behind, Class, late, next, ahead, classify}

residue-ahead : (n m d : ℕ) → d < 2 ^ 31 → ((n + (m + d)) % 2 ^ 32 + (2 ^ 32 - (n + m) % 2 ^ 32)) % 2 ^ 32 ≡ d
residue-ahead n m d h = omega arith

residue-behind : (n i d : ℕ) → 0 < d → d < 2 ^ 31 → ((n + i) % 2 ^ 32 + (2 ^ 32 - (n + (i + d)) % 2 ^ 32)) % 2 ^ 32 ≡ 2 ^ 32 - d
residue-behind n i d p h = omega arith

-- from a packet to one sent `d` packets later
pub distance-ahead : (n m d : ℕ) → d < 2 ^ 31 → distance ((n + m) % 2 ^ 32) ((n + (m + d)) % 2 ^ 32) ≡ pos d
distance-ahead n m d h = rw (residue-ahead n m d h, lt-ltb d (2 ^ 31) h)

-- from a packet to one sent `d` packets before it
pub distance-behind : (n i d : ℕ) → 0 < d → d < 2 ^ 31
    → distance ((n + (i + d)) % 2 ^ 32) ((n + i) % 2 ^ 32) ≡ negsuc (2 ^ 32 - suc (2 ^ 32 - d))
distance-behind n i d p h = rw (residue-behind n i d p h, le-ltb (2 ^ 32 - d) (2 ^ 31) (omega arith))

-- packet `i`, after packet `m`, is late where it was not sent later, nor too long before
pub class-late : (n m i : ℕ) → i ≤ m → m ≤ i + max_behind → classify (distance ((n + m) % 2 ^ 32) ((n + i) % 2 ^ 32)) ≡ late
class-late n m i h q = go (m - i) (omega arith)
  where
    go : (d : ℕ) → m ≡ i + d → classify (distance ((n + m) % 2 ^ 32) ((n + i) % 2 ^ 32)) ≡ late
    go zero e =
        let q : m ≡ i = omega arith in
        let z : n + i ≡ n + (i + 0) = omega arith in
        rw q
        (ap (λ (k : ℕ). classify (distance ((n + i) % 2 ^ 32) (k % 2 ^ 32))) z ∙ rw (distance-ahead n i 0 (omega arith)))
    go (suc d) e =
        rw e
        (rw (distance-behind n i (suc d) (omega arith) (omega arith))
        (rw (le-leb (suc (2 ^ 32 - suc (2 ^ 32 - suc d))) max_behind (omega arith))))

-- what a distance says of a packet with `d` packets between it and the last
abbrev pub class_ahead : ℕ → Class
class_ahead zero = next
class_ahead (suc d) = ahead (suc d)

-- packet `m + 1 + d`, after packet `m`, has `d` packets missing before it
pub class-ahead : (n m d : ℕ) → suc d ≤ max_ahead → classify (distance ((n + m) % 2 ^ 32) ((n + (m + suc d)) % 2 ^ 32)) ≡ class_ahead d
class-ahead n m zero q = rw (distance-ahead n m 1 (omega arith))
class-ahead n m (suc d) q = rw (distance-ahead n m (suc (suc d)) (omega arith)) (rw (le-leb (suc (suc d)) max_ahead q))
