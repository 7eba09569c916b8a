-- `check_offset` gives 55 or 54, or passes.
-- Each return knows the tests before it, in the order of the definition.
use mathlib.Core.Path.{sym, ◌∙◌}
use borrow.Author.Tests.{eq-eqb, ne_eqb}
use lib.ListN.{length}
use Rattle.fieldfile_spec.specs.File.{offset_checks}
use Rattle.fieldfile_reader.proofs.stages.check_offset.Goals as goal

pub returns-then-not-offset_ok : goal.returns-then-not-offset_ok
unfolding offset_checks
returns-then-not-offset_ok c = let h1 = sym c.offset_ok.ensures ∙ c.if-not-offset_ok.true in
    rw (c.refuse.ensures, h1)

pub returns-then-at-file : goal.returns-then-at-file
unfolding offset_checks
returns-then-at-file c = let a = c.args in
    let h1 = sym c.offset_ok.ensures ∙ c.if-not-offset_ok.false in
    let h2 = eq-eqb a.at.0 (length a.file.now) c.if-at-file.true in
    rw (c.refuse-then-at-file.ensures, h1, h2)

pub returns : goal.returns
unfolding offset_checks
returns c = let a = c.args in
    let h1 = sym c.offset_ok.ensures ∙ c.if-not-offset_ok.false in
    let h2 = ne_eqb a.at.0 (length a.file.now) c.if-at-file.false in
    rw (h1, h2)
