-- Rows of words one behind the other, summed: as one row.
-- By induction on the words, and by remainders.
use Rattle.std.proofs.Common.{◌≡◌, ℕ, ◌+◌, ◌*◌, ◌%◌, List, [], ◌∷◌, ◌++◌, sym, ap, ◌∙◌, zero-add, arith}
use Rattle.wire_spec.specs.Bits.{row_at}
use Rattle.wire_spec.specs.Words.{word_bits, sum_low}
use Rattle.wire_row_reader.proofs.Rows.{row_at-append}

pub sum-append : (xs ys : List ℕ) → sum_low (xs ++ ys) ≡ sum_low xs + sum_low ys
sum-append [] ys = sym (zero-add (sum_low ys))
sum-append (x ∷ xs) ys = omega (arith, sum-append xs ys)

pub sum_rows : (s : List ℕ) (k m n : ℕ) → sum_low (row_at word_bits s k (m + n)) ≡ sum_low (row_at word_bits s k m) + sum_low (row_at word_bits s (k + 10 * m) n)
sum_rows s k m n = rw (row_at-append s k m n) (sum-append (row_at word_bits s k m) (row_at word_bits s (k + 10 * m) n))

-- the same of two sums that were added, modulo 512
pub both : (x y a b : ℕ) → x % 512 ≡ a % 512 → y % 512 ≡ b % 512 → (x + y) % 65536 % 512 ≡ (a + b) % 512
both x y a b p q = low (x + y) ∙ parts x y ∙ rw (p, q) (sym (parts a b))
  where
    low : (n : ℕ) → n % 65536 % 512 ≡ n % 512
    low n = omega arith

    parts : (m n : ℕ) → (m + n) % 512 ≡ (m % 512 + n % 512) % 512
    parts m n = omega arith

pub sums-added : (s : List ℕ) (k m n x y : ℕ) → x % 512 ≡ sum_low (row_at word_bits s k m) % 512 → y % 512 ≡ sum_low (row_at word_bits s (k + 10 * m) n) % 512
    → (x + y) % 65536 % 512 ≡ sum_low (row_at word_bits s k (m + n)) % 512
sums-added s k m n x y p q =
    both x y (sum_low (row_at word_bits s k m)) (sum_low (row_at word_bits s (k + 10 * m) n)) p q ∙ ap (λ (t : ℕ). t % 512) (sym (sum_rows s k m n))
