-- `layout_of` is the layout that a number names.
-- By the test of its number.
use borrow.Author.Tests.{eq-eqb, ne_eqb}
use Rattle.capi_answer.proofs.layout.layout_of.Goals as goal

pub returns-then-number-eq-RFC_8331 : goal.returns-then-number-eq-RFC_8331
returns-then-number-eq-RFC_8331 c = rw (eq-eqb _ 0 c.if-number-eq-RFC_8331.true)

pub returns-else-number-eq-RFC_8331 : goal.returns-else-number-eq-RFC_8331
returns-else-number-eq-RFC_8331 c = rw (ne_eqb _ 0 c.if-number-eq-RFC_8331.false)
