-- The rule of the header words, computed once over the table and carried to each entry.
-- By the entries in order.
use mathlib.Core.Path.{◌≡◌, ◌∙◌, ap, sym}
use mathlib.Core.Bool.{Bool, true, ◌&&◌}
use mathlib.Core.List.{List, [], ◌∷◌}
use Prim.Native.Nat.{ℕ, zero, suc, ◌+◌, ◌<◌}
use native.Mathlib.Nat.{add-zero, zero-add, add-suc, suc-add, le_of_suc-le-suc, not-suc-le-zero}
use borrow.Author.Tests.{eqb-true}
use lib.Dec.{eqb}
use lib.ListN.{length, get_or}
use Rattle.wire_spec.specs.Words.{header_numbers, header_word, HeaderTable}
use Rattle.wire_spec.proofs.ResultLaws.{and-true}

-- each of the words is the header word of its number, counted from i
abbrev pub each_header_word : ℕ → List ℕ → Bool
each_header_word i [] = true
each_header_word i (w ∷ ws) = eqb w (header_word i) && each_header_word (suc i) ws

carried : (i : ℕ) (ws : List ℕ) → each_header_word i ws ≡ true → (k : ℕ) → k < length ws → get_or ws k 0 ≡ header_word (i + k)
carried i [] t k h = absurd (not-suc-le-zero h)
carried i (w ∷ ws) t zero h =
    eqb-true w (header_word i) (and-true (eqb w (header_word i)) (each_header_word (suc i) ws) t).0 ∙ ap header_word (sym (add-zero i))
carried i (w ∷ ws) t (suc k) h =
    carried (suc i) ws (and-true (eqb w (header_word i)) (each_header_word (suc i) ws) t).1 k (le_of_suc-le-suc h)
    ∙ ap header_word (suc-add i k ∙ sym (add-suc i k))

pub table-rule : (table : List ℕ) → length table ≡ header_numbers → each_header_word 0 table ≡ true → HeaderTable table
table-rule table l t = record { entry = λ x h. carried 0 table t x (rw l h) ∙ ap header_word (zero-add x) }
