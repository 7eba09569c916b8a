-- The words before the place are put.
use Rattle.std.proofs.Common.{◌≡◌, ◌+◌, ◌*◌, take}
use Rattle.text.specs.Put.{Put}
use Rattle.fieldlist_records.specs.Records.{words_text}
use Rattle.fieldlist_records.proofs.put_words.Given as goal

abbrev pub invariant-loop-word : goal.invariant-loop-word
invariant-loop-word l = record {
  place : l.to ≡ l.at + 4 * l.word-index;
  put : Put l.initial.out l.at (words_text (take l.word-index l.words)) l.out l.to;
}
