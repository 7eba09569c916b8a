-- `put_word` puts a space and three hex digits.
-- By the digits, one by one.
use mathlib.Core.Path.{◌≡◌, ◌∙◌}
use mathlib.Core.List.{List, [], ◌∷◌, ◌++◌}
use Prim.Native.Nat.{ℕ}
use native.Mathlib.Omega.{arith}
use Rattle.text.specs.Text.{ascii, hex}
use Rattle.text.proofs.PutLaws.{same}
use Rattle.text.proofs.TextLaws.{word-digits}
use Rattle.text.proofs.put_word.Goals as goal

pub returns : goal.returns
returns c = let a = c.args in
    let e : ◌≡◌ {A = List ℕ} _ (ascii " " ++ hex 3 a.word) = (λ i. 0x20 ∷ c.digit.ensures i ∷ c.digit-2.ensures i ∷ c.digit-3.ensures i ∷ []) ∙ word-digits a.word (omega arith) in
    record { put = same e c.put.ensures.put; value = c.put.ensures.value }
