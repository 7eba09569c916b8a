-- One word more.
use Rattle.std.proofs.Common.{◌≡◌, ℕ, ◌∙◌, ap, length, take, arith}
use lib.Seq.{take-length}
use Rattle.wire_spec.proofs.BitLaws.{below_at}
use Rattle.text.proofs.PutLaws.{both, same}
use Rattle.fieldlist_records.specs.Records.{words_text}
use Rattle.fieldlist_records.proofs.WordLines.{words-next}
use Rattle.fieldlist_records.proofs.put_words.Goals as goal

pub put_word-to-requires : goal.put_word-to-requires
put_word-to-requires c =
    (below_at 1024 c.args.words.now c.loop-word.word-index c.requires.0 c.loop-word-test.true, omega (arith, c.requires.1, c.loop-word.invariant.place, c.loop-word-test.true))

pub loop-word-preserved : goal.loop-word-preserved
loop-word-preserved c =
    let l = c.loop-word in
    let w = c.put_word-to.ensures in
    record {
      place = omega (arith, w.value, l.invariant.place);
      put = same (words-next l.word-index c.args.words.now c.loop-word-test.true) (both l.invariant.put w.put);
    }

pub returns-clause-put : goal.returns-clause-put
returns-clause-put c =
    let l = c.loop-word in
    let w = c.args.words.now in
    let e : l.word-index ≡ length w = omega arith in
    same (ap words_text (ap (λ (k : ℕ). take k w) e ∙ take-length w)) l.invariant.put
