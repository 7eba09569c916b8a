-- `zero` is 0.
-- By induction: the product of two neighbouring numbers grows by an even number.
use mathlib.Core.Path.{◌≡◌, refl}
use Prim.Native.Nat.{ℕ, zero, suc, ◌+◌, ◌*◌, ◌%◌, ◌≤◌}
use native.Mathlib.Nat.{mul-add, mul-le-mul, suc-mul}
use native.Mathlib.Omega.{arith}
use Rattle.wire_words.proofs.unseen.zero.Goals as goal

even : (x : ℕ) → x * (x + 1) % 2 ≡ 0
even zero = refl
even (suc x) =
    let e : suc x * (suc x + 1) ≡ x * (x + 1) + 2 * (x + 1) = omega (arith, suc-mul x (x + 1 + 1), mul-add x (x + 1) 1) in
    rw e (omega (arith, even x))

pub overflow_mul-result : goal.overflow_mul-result
overflow_mul-result c = let x = c.args.n % 256 in
    let a : x ≤ 255 = omega arith in
    let b : x + 1 ≤ 256 = omega arith in
    omega (arith, mul-le-mul a b)

pub returns : goal.returns
returns c = even (c.args.n % 256)
