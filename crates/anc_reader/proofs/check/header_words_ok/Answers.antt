-- `header_words_ok` tests three words.
-- Each return knows the tests of the words before it.
use mathlib.Core.Bool.{and-true, not}
use borrow.Author.Tests.{not-true, not-false}
use Rattle.anc_reader.proofs.PacketLaws.{headers-test, fetched}
use mathlib.Core.Path.{ap}
use Rattle.anc_reader.proofs.check.header_words_ok.Goals as goal

pub returns-then-not-has : goal.returns-then-not-has
returns-then-not-has c = let t = c.has in
    let a = c.args in
    rw (headers-test a.octets.now a.at, fetched _ _ _ c.fetch.ensures c.has.ensures, not-true t.result (ap not c.if-not-has.true))

pub returns-then-not-has-2 : goal.returns-then-not-has-2
returns-then-not-has-2 c = let t = c.has in
    let u = c.has-2 in
    let a = c.args in
    rw (
      headers-test a.octets.now a.at,
      fetched _ _ _ c.fetch.ensures c.has.ensures,
      not-false t.result (ap not c.if-not-has.false),
      fetched _ _ _ c.fetch-2.ensures c.has-2.ensures,
      not-true u.result (ap not c.if-not-has-2.true),
    )

pub returns : goal.returns
returns c = let t = c.has in
    let u = c.has-2 in
    let v = c.has-3 in
    let a = c.args in
    rw (
      headers-test a.octets.now a.at,
      fetched _ _ _ c.fetch.ensures c.has.ensures,
      not-false t.result (ap not c.if-not-has.false),
      fetched _ _ _ c.fetch-2.ensures c.has-2.ensures,
      not-false u.result (ap not c.if-not-has-2.false),
      fetched _ _ _ c.fetch-3.ensures c.has-3.ensures,
      and-true v.result,
    )
