-- `header_words` hands out the words of all 256 numbers.
-- By one test computed over the table.
use mathlib.Core.Path.{refl}
use Rattle.wire_spec.specs.Words.{header_word}
use Rattle.wire_words.proofs.TableRule.{table-rule}
use Rattle.wire_words.proofs.table.header_words.Goals as goal

pub returns : goal.returns
unfolding header_word
returns c = table-rule _ refl refl
