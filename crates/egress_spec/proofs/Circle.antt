-- The circle of the channels: every channel stands fewer than eight behind every other.
use mathlib.Core.Path.{◌≡◌, refl, ◌∙◌}
use mathlib.Core.Bool.{Bool, true, false, cond}
use Prim.Native.Nat.{ℕ, zero, suc, ◌+◌, ◌-◌, ◌%◌, ◌≤◌, ◌<◌}
use native.Mathlib.Omega.{arith}
use lib.Dec.{leb, ltb}
use borrow.Author.Tests.{lt-ltb, ltb-true, ltb-false, leb-true, leb-false}
use Rattle.egress_spec.specs.Queues.{behind}

-- the channel that many behind `p`
abbrev pub from : ℕ → ℕ → ℕ
from zero p = p
from (suc n) p = from n (behind p)

pub behind-low : (p : ℕ) → p < 7 → behind p ≡ suc p
behind-low p h = rw (lt-ltb p 7 h)

behind-last : (p : ℕ) → p ≡ 7 → behind p ≡ 0
behind-last p e = rw e

-- "a number out of range" never comes up
pub behind-channel : (p : ℕ) → behind p ≤ 7
behind-channel p = go (ltb p 7) refl
  where
    go : (b : Bool) → ltb p 7 ≡ b → cond b (suc p) 0 ≤ 7
    go true e = omega (arith, ltb-true p 7 e)
    go false e = omega arith

from_up : (n p c : ℕ) → p + n ≡ c → c ≤ 7 → from n p ≡ c
from_up zero p c e h = omega arith
from_up (suc n) p c e h = rw (behind-low p (omega arith)) (from_up n (suc p) c (omega arith) h)

from-round : (n m p c : ℕ) → p + n ≡ 7 → m ≡ n + c → c ≤ 7 → from (suc m) p ≡ c
from-round zero m p c e f h = rw (behind-last p (omega arith)) (from_up m 0 c (omega arith) h)
from-round (suc n) zero p c e f h = absurd (omega arith)
from-round (suc n) (suc m) p c e f h = rw (behind-low p (omega arith)) (from-round n m (suc p) c (omega arith) (omega arith) h)

-- every channel stands fewer than eight behind every other
pub from_all : (p c : ℕ) → p ≤ 7 → c ≤ 7 → (n : ℕ) × (n < 8) × (from n p ≡ c)
from_all p c h k = go (leb p c) refl
  where
    go : (b : Bool) → leb p c ≡ b → (n : ℕ) × (n < 8) × (from n p ≡ c)
    go true e = let l = leb-true p c e in (c - p, omega arith, from_up (c - p) p c (omega arith) k)
    go false e = let l = leb-false p c e in
        (suc (7 - p + c), omega arith, from-round (7 - p) (7 - p + c) p c (omega arith) refl k)

-- as remainders
pub behind-is : (p : ℕ) → p < 8 → behind p ≡ (p + 1) % 8
behind-is p h = go (ltb p 7) refl
  where
    go : (b : Bool) → ltb p 7 ≡ b → cond b (suc p) 0 ≡ (p + 1) % 8
    go true e = let l = ltb-true p 7 e in omega arith
    go false e = let l = ltb-false p 7 e in omega arith

pub from_is : (n p : ℕ) → p < 8 → from n p ≡ (p + n) % 8
from_is zero p h = omega arith
from_is (suc n) p h =
    let l = behind-channel p in
    let e = behind-is p h in
    from_is n (behind p) (omega arith) ∙ rw e (omega arith)
