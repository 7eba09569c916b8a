-- `header_words_ok` tests DID, SDID and Data_Count.
-- Each return knows the tests of the words before it.
use mathlib.Core.Bool.{and-true, not}
use Rattle.sdi_spec.proofs.CodeLaws.{headers-test, passed, failed}
use mathlib.Core.Path.{ap}
use Rattle.sdi_check.proofs.check.header_words_ok.Goals as goal

pub returns-then-not-has : goal.returns-then-not-has
returns-then-not-has c = rw (headers-test c.args.words.now c.requires, failed _ _ c.has.ensures (ap not c.if-not-has.true))

pub returns-then-not-has-2 : goal.returns-then-not-has-2
returns-then-not-has-2 c = rw (
  headers-test c.args.words.now c.requires,
  passed _ _ c.has.ensures (ap not c.if-not-has.false),
  failed _ _ c.has-2.ensures (ap not c.if-not-has-2.true),
)

pub returns : goal.returns
returns c = rw (
  headers-test c.args.words.now c.requires,
  passed _ _ c.has.ensures (ap not c.if-not-has.false),
  passed _ _ c.has-2.ensures (ap not c.if-not-has-2.false),
  c.has-3.ensures,
  and-true _,
)
