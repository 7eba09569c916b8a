-- Protected words: a number that is under 8 where a word is one, and rows that are tested one behind the other.
-- By cases on the tests, and by induction on the words.
use Rattle.std.proofs.Common.{◌≡◌, ℕ, zero, suc, ◌+◌, ◌*◌, ◌%◌, ◌<◌, Bool, true, false, ◌&&◌, leb, List, [], ◌∷◌, ◌++◌, length, get_or, set, sym, refl, ap, ◌∙◌, arith, le-leb, leb-false, leb-true, min}
use mathlib.Core.Bool.{and_assoc}
use native.Mathlib.Nat.{mod-mod}
use borrow.Author.Tests.{lt-leb}
use Rattle.std.proofs.lemmas.Bool.Decides.{nat_tests}
use Rattle.wire_spec.specs.Bits.{Below, row_at}
use Rattle.wire_spec.specs.Words.{word_bits, sum_low, is_clear, all_clear}
use Rattle.wire_spec.proofs.BitLaws.{bits_at-lt}
use Rattle.wire_row_scan.specs.Clear.{all_high, Scanned, Tallied}
use Rattle.wire_row_reader.proofs.Rows.{row_at-append}
use Rattle.wire_row_scan.proofs.SumLaws.{both, sum-append, sums-added}

and-false : (a : Bool) → a && false ≡ false
and-false true = refl
and-false false = refl

pub and_comm : (a b : Bool) → a && b ≡ b && a
and_comm true true = refl
and_comm true false = refl
and_comm false b = sym (and-false b)

-- a word, turned
turned-cases : (w : ℕ) → w < 1024 → (t u : Bool) → leb 4 w ≡ t → leb w 1019 ≡ u → leb 8 ((w + 4) % 1024) ≡ t && u
turned-cases w h true true e f = le-leb 8 ((w + 4) % 1024) (omega (arith, leb-true 4 w e, leb-true w 1019 f))
turned-cases w h true false e f = lt-leb 8 ((w + 4) % 1024) (omega (arith, leb-true 4 w e, leb-false w 1019 f))
turned-cases w h false u e f = lt-leb 8 ((w + 4) % 1024) (omega (arith, leb-false 4 w e))

pub turned_clear : (w : ℕ) → w < 1024 → leb 8 ((w + 4) % 1024) ≡ is_clear w
turned_clear w h = turned-cases w h (leb 4 w) (leb w 1019) refl refl

-- the lesser of two numbers
pub high-min : (a b : ℕ) → leb 8 (min a b) ≡ leb 8 a && leb 8 b
high-min a b = grind (arith, nat_tests)

-- one lane tested
pub high-set : (l : List ℕ) (j y : ℕ) (t : Bool) → j < length l → leb 8 y ≡ leb 8 (get_or l j 0) && t → all_high (set l j y) ≡ all_high l && t
high-set [] j y t h e = absurd (omega arith)
high-set (x ∷ l) zero y t h e =
    ap (λ (b : Bool). b && all_high l) e ∙ and_assoc (leb 8 x) t (all_high l) ∙ ap (λ (b : Bool). leb 8 x && b) (and_comm t (all_high l)) ∙ sym (and_assoc (leb 8 x) (all_high l) t)
high-set (x ∷ l) (suc j) y t h e = ap (λ (b : Bool). leb 8 x && b) (high-set l j y t (omega arith) e) ∙ sym (and_assoc (leb 8 x) (all_high l) t)

-- rows one behind the other
clear-append : (xs ys : List ℕ) → all_clear (xs ++ ys) ≡ all_clear xs && all_clear ys
clear-append [] ys = refl
clear-append (x ∷ xs) ys = ap (λ (b : Bool). is_clear x && b) (clear-append xs ys) ∙ sym (and_assoc (is_clear x) (all_clear xs) (all_clear ys))

pub clear-rows : (s : List ℕ) (k m n : ℕ) → all_clear (row_at word_bits s k (m + n)) ≡ all_clear (row_at word_bits s k m) && all_clear (row_at word_bits s (k + 10 * m) n)
clear-rows s k m n = ap all_clear (row_at-append s k m n) ∙ clear-append (row_at word_bits s k m) (row_at word_bits s (k + 10 * m) n)

pub tallied-rows : (s : List ℕ) (k m n : ℕ) {a b c d t l : ℕ} → Tallied (row_at word_bits s k m) a c → Tallied (row_at word_bits s (k + 10 * m) n) b d
    → t ≡ (a + b) % 65536 → leb 8 l ≡ leb 8 c && leb 8 d → Tallied (row_at word_bits s k (m + n)) t l
tallied-rows s k m n {a} {b} {c} {d} p q e f =
    record {
      sum_is = ap (λ (x : ℕ). x % 512) e ∙ sums-added s k m n a b p.sum_is q.sum_is;
      clear-is = f ∙ (λ i. p.clear-is i && q.clear-is i) ∙ sym (clear-rows s k m n);
    }

-- what is told of words and of the words behind them
pub scanned-both : (xs ys : List ℕ) {a b t : ℕ} {c d u : Bool} → Scanned xs a c → Scanned ys b d → t ≡ (a + b) % 65536 % 512 → u ≡ c && d → Scanned (xs ++ ys) t u
scanned-both xs ys {a} {b} p q e f =
    record {
      sum_is =
          e ∙ both a b (sum_low xs) (sum_low ys) (ap (λ (x : ℕ). x % 512) p.sum_is ∙ mod-mod (sum_low xs) 512) (ap (λ (x : ℕ). x % 512) q.sum_is ∙ mod-mod (sum_low ys) 512)
          ∙ ap (λ (x : ℕ). x % 512) (sym (sum-append xs ys));
      clear-is = f ∙ (λ i. p.clear-is i && q.clear-is i) ∙ sym (clear-append xs ys);
    }

-- the words of a row have ten bits
pub row_below : (s : List ℕ) (k n : ℕ) → Below 1024 (row_at word_bits s k n)
unfolding row_at
row_below s k zero = tt
row_below s k (suc n) = (bits_at-lt s k 10, row_below s (k + 10) n)
