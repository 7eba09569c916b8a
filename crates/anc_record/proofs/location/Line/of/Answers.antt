-- `Line::of` gives the line that the number stands for.
-- Each return knows which of the special numbers it is, or that it is none.
use borrow.Author.Tests.{eq-eqb, ne_eqb}
use Rattle.anc_record.specs.Location.{line_of}
use Rattle.anc_record.proofs.location.Line.of.Goals as goal

pub returns-then-x-eq-UNSPECIFIED : goal.returns-then-x-eq-UNSPECIFIED
unfolding line_of
returns-then-x-eq-UNSPECIFIED c = simp (eq-eqb _ _ c.if-x-eq-UNSPECIFIED.true)

pub returns-then-x-eq-VERTICAL : goal.returns-then-x-eq-VERTICAL
unfolding line_of
returns-then-x-eq-VERTICAL c = simp (ne_eqb _ _ c.if-x-eq-UNSPECIFIED.false, eq-eqb _ _ c.if-x-eq-VERTICAL.true)

pub returns-then-x-eq-TOO_LARGE : goal.returns-then-x-eq-TOO_LARGE
unfolding line_of
returns-then-x-eq-TOO_LARGE c = simp (ne_eqb _ _ c.if-x-eq-UNSPECIFIED.false, ne_eqb _ _ c.if-x-eq-VERTICAL.false, eq-eqb _ _ c.if-x-eq-TOO_LARGE.true)

pub returns : goal.returns
unfolding line_of
returns c = simp (ne_eqb _ _ c.if-x-eq-UNSPECIFIED.false, ne_eqb _ _ c.if-x-eq-VERTICAL.false, ne_eqb _ _ c.if-x-eq-TOO_LARGE.false)
