-- `words_in_range` tells whether each word fits ten bits.
-- Invariant: the test of those that were seen, with the test of those that are left, is the test of all words.
use Rattle.std.proofs.Common.{◌≡◌, ◌&&◌, ◌^◌, drop}
use Rattle.wire_spec.specs.Cells.{all_below}
use Rattle.wire_spec.specs.Words.{word_bits}
use Rattle.anc_record.proofs.check.words_in_range.Given as goal

abbrev pub invariant-loop-w : goal.invariant-loop-w
invariant-loop-w l = l.fit && all_below (2 ^ word_bits) (drop l.w-index l.words) ≡ all_below (2 ^ word_bits) l.words
