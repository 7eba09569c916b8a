-- `write_checksum` stores the checksum word behind a row of words.
-- By the sum of that row, which is nothing where there are no words.
use mathlib.Core.Path.{◌≡◌, refl, ap, ap₂, ◌∙◌}
use mathlib.Core.List.{List, [], ◌∷◌}
use Prim.Native.Nat.{ℕ, ◌+◌, ◌*◌, ◌%◌}
use native.Mathlib.Omega.{arith}
use lib.ListN.{length}
use Rattle.wire_spec.specs.Bits.{bits, to_bits, splice}
use Rattle.wire_spec.specs.Words.{word_bits, sum_low, checksum_word}
use Rattle.wire_spec.proofs.WordLaws.{checksum-lt}
use Rattle.wire_words.proofs.SumLaws.{checksum-agree, low_second}
use Rattle.anc_writer.proofs.write.write_checksum.Goals as goal

-- without words the sum is that of the words before them
none : (words : List ℕ) → length words ≡ 0 → sum_low words ≡ 0
none [] e = refl
none (w ∷ words) e = absurd (omega arith)

pub store-requires : goal.store-requires
store-requires c = let fit = c.requires.2 in
    (record { even = omega (arith, fit.even); inside = omega (arith, fit.inside); near = omega (arith, fit.near) }, rw c.checksum_word.ensures (checksum-lt _))

pub returns-then-words-eq0 : goal.returns-then-words-eq0
returns-then-words-eq0 c = let a = c.args in
    let words = a.words.now in
    let at : a.at ≡ a.at + word_bits * length words = omega arith in
    let sum : c.checksum_word.result ≡ checksum_word (a.sum + sum_low words) =
    c.checksum_word.ensures ∙ ap checksum_word (omega (arith, none words (omega arith))) in
    c.store.ensures ∙ ap₂ (λ (k w : ℕ). splice (bits a.octets.now) k (to_bits word_bits w)) at sum

pub overflow_add-all : goal.overflow_add-all
overflow_add-all c = omega (arith, c.sum_cells.ensures)

pub overflow_add-at : goal.overflow_add-at
overflow_add-at c = omega (arith, c.requires.2.near)

pub store-requires-2 : goal.store-requires-2
store-requires-2 c = let fit = c.requires.2 in
    (record { even = omega (arith, fit.even); inside = omega (arith, fit.inside); near = omega (arith, fit.near) }, rw c.checksum_word-2.ensures (checksum-lt _))

pub returns : goal.returns
returns c = let a = c.args in
    let words = a.words.now in
    let sum : c.checksum_word-2.result ≡ checksum_word (a.sum + sum_low words) =
    c.checksum_word-2.ensures ∙ ap (λ (x : ℕ). checksum_word (a.sum + x)) c.sum_cells.ensures
    ∙ checksum-agree (a.sum + sum_low words % 512) (a.sum + sum_low words) (low_second a.sum (sum_low words)) in
    c.store-2.ensures ∙ ap (λ (w : ℕ). splice (bits a.octets.now) (a.at + word_bits * length words) (to_bits word_bits w)) sum
