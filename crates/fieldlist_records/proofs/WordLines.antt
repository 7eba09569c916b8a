-- The words of a line, one behind the other.
-- By the words before.
use mathlib.Core.Path.{◌≡◌, ap, sym, ◌∙◌}
use mathlib.Core.List.{List, [], ◌∷◌, ◌++◌, append_assoc, append-nil}
use Prim.Native.Nat.{ℕ, zero, suc, ◌+◌, ◌<◌}
use native.Mathlib.Nat.{suc-add}
use native.Mathlib.Omega.{arith}
use lib.ListN.{length, take, get_or}
use Rattle.fieldlist_records.specs.Records.{word_text, words_text}

-- one word more
pub words-next : (k : ℕ) (ws : List ℕ) → k < length ws → words_text (take k ws) ++ word_text (get_or ws k 0) ≡ words_text (take (k + 1) ws)
words-next zero [] h = absurd (omega arith)
words-next zero (w ∷ ws) h = sym (append-nil (word_text w))
words-next (suc k) [] h = absurd (omega arith)
words-next (suc k) (w ∷ ws) h =
    rw (suc-add k 1)
    (append_assoc (word_text w) (words_text (take k ws)) (word_text (get_or ws k 0)) ∙ ap (λ (x : List ℕ). word_text w ++ x) (words-next k ws (omega arith)))
