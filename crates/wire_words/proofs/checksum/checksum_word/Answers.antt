-- `checksum_word` is the checksum word of a sum.
-- By the definition.
use mathlib.Core.Path.{refl}
use Rattle.wire_spec.specs.Words.{checksum_word}
use Rattle.wire_words.proofs.checksum.checksum_word.Goals as goal

pub returns : goal.returns
unfolding checksum_word
returns c = refl
