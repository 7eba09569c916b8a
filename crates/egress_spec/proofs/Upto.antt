-- Tests of every number below a bound.
use mathlib.Core.Path.{◌≡◌, refl, sym, ◌∙◌}
use mathlib.Core.Bool.{Bool, true, false, true≢false, ◌&&◌}
use Prim.Native.Nat.{ℕ, zero, suc, ◌+◌, ◌<◌}
use native.Mathlib.Omega.{arith}
use native.Mathlib.Numerals.{add-one}
use lib.Dec.{eqb}
use borrow.Author.Tests.{eqb-true, eqb-false}
use Rattle.egress_spec.specs.Places.{all_upto}

pub and_left : (a b : Bool) → a && b ≡ true → a ≡ true
and_left true b e = refl
and_left false b e = e

pub and_right : (a b : Bool) → a && b ≡ true → b ≡ true
and_right true b e = e
and_right false b e = absurd (true≢false (sym e))

pub upto-at : (f : ℕ → Bool) (n k : ℕ) → all_upto f n ≡ true → k < n → f k ≡ true
unfolding all_upto
upto-at f zero k e h = absurd (omega arith)
upto-at f (suc n) k e h = go (eqb k n) refl (λ g. upto-at f n k (and_left (all_upto f n) (f n) e) g)
  where
    go : (b : Bool) → eqb k n ≡ b → (k < n → f k ≡ true) → f k ≡ true
    go true z i = rw (eqb-true k n z) (and_right (all_upto f n) (f n) e)
    go false z i = i (let d = eqb-false k n z in omega (arith, d))

pub upto-fails : (f : ℕ → Bool) (n k : ℕ) → f k ≡ false → k < n → all_upto f n ≡ false
upto-fails f n k e h = go (all_upto f n) refl
  where
    go : (b : Bool) → all_upto f n ≡ b → b ≡ false
    go true z = absurd (true≢false (sym (upto-at f n k z h) ∙ e))
    go false z = refl

pub upto-more : (f : ℕ → Bool) (k : ℕ) → all_upto f k ≡ true → f k ≡ true → all_upto f (k + 1) ≡ true
unfolding all_upto
upto-more f k e g = rw (add-one k, e, g)

pub upto-none : (f : ℕ → Bool) → all_upto f 0 ≡ true
unfolding all_upto
upto-none f = refl

pub upto_all : (f : ℕ → Bool) (n : ℕ) → ((k : ℕ) → k < n → f k ≡ true) → all_upto f n ≡ true
unfolding all_upto
upto_all f zero h = refl
upto_all f (suc n) h = rw (upto_all f n (λ k l. h k (omega arith)), h n (omega arith))
