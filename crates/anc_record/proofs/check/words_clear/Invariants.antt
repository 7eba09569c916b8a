-- `words_clear` tells whether no word is a protected one.
-- Invariant: the test of those that were seen, with the test of those that are left, is the test of all words.
use Rattle.std.proofs.Common.{◌≡◌, ◌&&◌, drop}
use Rattle.wire_spec.specs.Words.{all_clear}
use Rattle.anc_record.proofs.check.words_clear.Given as goal

abbrev pub invariant-loop-w : goal.invariant-loop-w
invariant-loop-w l = l.clear && all_clear (drop l.w-index l.words) ≡ all_clear l.words
