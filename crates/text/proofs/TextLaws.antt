-- The decimal digits of a number: how many there are, and that the fewest digits are the ones written.
-- By induction on the most digits there can be.
use mathlib.Core.Path.{◌≡◌, refl, ap, subst}
use mathlib.Core.Bool.{Bool, true, false}
use mathlib.Core.List.{List, [], ◌∷◌, ◌++◌}
use Prim.Native.Nat.{ℕ, zero, suc, ◌-◌, ◌/◌, ◌%◌, ◌^◌, ◌≤◌, ◌<◌}
use native.Mathlib.Nat.{pow-suc}
use native.Mathlib.Omega.{arith}
use borrow.Author.Tests.{lt-ltb, le-ltb}
use lib.Dec.{ltb}
use lib.ListN.{length, length-append}
use Rattle.io.specs.Digits as io
use Rattle.text.specs.Text.{ascii, digit, digits, decimal_in, decimal, decimal_most, hex}

pub length-decimal_in : (m n : ℕ) → length (decimal_in m n) ≤ m
unfolding decimal_in
length-decimal_in zero n = omega arith
length-decimal_in (suc m) n = go (ltb n 10) refl (length-decimal_in m (n / 10))
  where
    go : (b : Bool) → ltb n 10 ≡ b → length (decimal_in m (n / 10)) ≤ m → length (decimal_in (suc m) n) ≤ suc m
    go true e h = rw e (omega arith)
    go false e h = rw (e, length-append (decimal_in m (n / 10)) (digit (n % 10) ∷ [])) (omega (arith, h))

pub length-decimal : (n : ℕ) → length (decimal n) ≤ decimal_most
unfolding decimal
length-decimal n = length-decimal_in decimal_most n

power-positive : (k : ℕ) → 0 < 10 ^ k
power-positive zero = omega arith
power-positive (suc k) = omega (arith, pow-suc 10 k, power-positive k)

-- the fewest digits are those that the definition writes
fewest : (m k n : ℕ) → n < 10 ^ suc m → io.IsDigitCount 10 1 n k → io.last_digits 10 k n ≡ decimal_in (suc m) n
unfolding decimal_in
fewest m zero n h f = absurd (omega (arith, f.0))
fewest m (suc zero) n h f =
    let small : n < 10 = omega (arith, f.1) in
    let e : n % 10 ≡ n = omega arith in
    rw (e, lt-ltb n 10 small)
fewest zero (suc (suc k)) n h f =
    let large : 10 ^ suc k ≤ n = subst (λ (x : ℕ). 10 ^ x ≤ n) (omega arith) (f.2 (omega arith)) in
    absurd (omega (arith, h, large, pow-suc 10 k, power-positive k))
fewest (suc m) (suc (suc k)) n h f =
    let large : 10 ^ suc k ≤ n = subst (λ (x : ℕ). 10 ^ x ≤ n) (omega arith) (f.2 (omega arith)) in
    let g : io.IsDigitCount 10 1 (n / 10) (suc k) =
    (omega arith, omega (arith, f.1, pow-suc 10 (suc k)), λ x. subst (λ (y : ℕ). 10 ^ y ≤ n / 10) (let t : k ≡ suc k - 1 = omega arith in t) (omega (arith, large, pow-suc 10 k))) in
    rw (le-ltb n 10 (omega (arith, large, pow-suc 10 k, power-positive k)))
    (ap (λ (x : List ℕ). x ++ (digit (n % 10) ∷ [])) (fewest m (suc k) (n / 10) (omega (arith, h, pow-suc 10 (suc m))) g))

pub fewest-is : (k n : ℕ) → n < 2 ^ 64 → io.IsDigitCount 10 1 n k → io.last_digits 10 k n ≡ decimal n
unfolding decimal
fewest-is k n h f = fewest 19 k n (omega arith) f

-- two and three hex digits
pub two_digits : (x : ℕ) → x < 256 → digit (x / 16) ∷ digit (x % 16) ∷ [] ≡ hex 2 x
unfolding hex digits
two_digits x h =
    let e : x / 16 % 16 ≡ x / 16 = omega arith in
    rw e

pub word-digits : (w : ℕ) → w < 1024 → 0x20 ∷ digit (w / 256) ∷ digit (w / 16 % 16) ∷ digit (w % 16) ∷ [] ≡ ascii " " ++ hex 3 w
unfolding ascii hex digits
word-digits w h =
    let e : w / 16 / 16 % 16 ≡ w / 256 = omega arith in
    rw e
