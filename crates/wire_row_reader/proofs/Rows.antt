-- Rows of words one behind the other, read: as one row.
-- By the law of one store after the other.
use mathlib.Core.Path.{◌≡◌, refl, ap, sym, ◌∙◌}
use mathlib.Core.List.{List, [], ◌∷◌, ◌++◌}
use Prim.Native.Nat.{ℕ, zero, suc, ◌+◌, ◌*◌, ◌≤◌}
use native.Mathlib.Nat.{zero-add, suc-add}
use native.Mathlib.Omega.{arith}
use lib.ListN.{length}
use Rattle.wire_spec.specs.Bits.{bits_at, row_at, splice}
use Rattle.wire_spec.specs.Words.{word_bits}
use Rattle.wire_spec.proofs.BitLaws.{length-row_at}
use Rattle.wire_spec.proofs.ListLaws.{splice-append}

-- the words from the bit k on, one by one: those from k + 10 * j on, which computes where j is a numeral
abbrev pub words_from : (n j : ℕ) → List ℕ → ℕ → List ℕ
words_from zero j s k = []
words_from (suc n) j s k = bits_at s (k + 10 * j) word_bits ∷ words_from n (suc j) s k

words-from : (n j : ℕ) (s : List ℕ) (k : ℕ) → words_from n j s k ≡ row_at word_bits s (k + 10 * j) n
unfolding row_at
words-from zero j s k = refl
words-from (suc n) j s k =
    let e : k + 10 * suc j ≡ k + 10 * j + 10 = omega arith in
    ap (λ (t : List ℕ). bits_at s (k + 10 * j) word_bits ∷ t) (words-from n (suc j) s k ∙ ap (λ (b : ℕ). row_at word_bits s b n) e)

pub row-run : (n : ℕ) (s : List ℕ) (k : ℕ) → bits_at s k word_bits ∷ words_from n 1 s k ≡ row_at word_bits s k (suc n)
unfolding row_at
row-run n s k = ap (λ (t : List ℕ). bits_at s k word_bits ∷ t) (words-from n 1 s k)

-- rows one behind the other
pub row_at-append : (s : List ℕ) (k m n : ℕ) → row_at word_bits s k (m + n) ≡ row_at word_bits s k m ++ row_at word_bits s (k + 10 * m) n
unfolding row_at
row_at-append s k zero n = let e : k + 10 * 0 ≡ k = omega arith in rw (zero-add n, e)
row_at-append s k (suc m) n =
    let e : k + 10 + 10 * m ≡ k + 10 * suc m = omega arith in
    rw (suc-add m n, row_at-append s (k + 10) m n, e)

pub splice-rows : (old s : List ℕ) (to k m n : ℕ) → to ≤ length old
    → splice (splice old to (row_at word_bits s k m)) (to + m) (row_at word_bits s (k + 10 * m) n) ≡ splice old to (row_at word_bits s k (m + n))
splice-rows old s to k m n h =
    ap (λ (x : ℕ). splice (splice old to (row_at word_bits s k m)) (to + x) (row_at word_bits s (k + 10 * m) n)) (sym (length-row_at word_bits s k m))
    ∙ splice-append old to (row_at word_bits s k m) (row_at word_bits s (k + 10 * m) n) h
    ∙ ap (splice old to) (sym (row_at-append s k m n))

-- three rows one behind the other
pub splice-three : (old s : List ℕ) (k m n t c : ℕ) → c ≡ m + n + t
    → splice (splice (splice old 0 (row_at word_bits s k m)) m (row_at word_bits s (k + 10 * m) n)) (m + n) (row_at word_bits s (k + 10 * (m + n)) t)
    ≡ splice old 0 (row_at word_bits s k c)
splice-three old s k m n t c e =
    let one : splice (splice old 0 (row_at word_bits s k m)) m (row_at word_bits s (k + 10 * m) n) ≡ splice old 0 (row_at word_bits s k (m + n)) =
    ap (λ (x : ℕ). splice (splice old 0 (row_at word_bits s k m)) x (row_at word_bits s (k + 10 * m) n)) (sym (zero-add m)) ∙ splice-rows old s 0 k m n (omega arith) in
    let two : splice (splice old 0 (row_at word_bits s k (m + n))) (m + n) (row_at word_bits s (k + 10 * (m + n)) t) ≡ splice old 0 (row_at word_bits s k (m + n + t)) =
    ap (λ (x : ℕ). splice (splice old 0 (row_at word_bits s k (m + n))) x (row_at word_bits s (k + 10 * (m + n)) t)) (sym (zero-add (m + n))) ∙ splice-rows old s 0 k (m + n) t (omega arith) in
    ap (λ (x : List ℕ). splice x (m + n) (row_at word_bits s (k + 10 * (m + n)) t)) one ∙ two ∙ ap (λ (x : ℕ). splice old 0 (row_at word_bits s k x)) (sym e)
