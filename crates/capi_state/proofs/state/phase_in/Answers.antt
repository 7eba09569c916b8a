-- `phase_in` gives the phase of a number.
-- By the two tests.
use borrow.Author.Tests.{eq-eqb, ne_eqb}
use Rattle.capi_state.proofs.state.phase_in.Goals as goal

pub returns-then-number-eq0 : goal.returns-then-number-eq0
returns-then-number-eq0 c = rw (eq-eqb _ _ c.if-number-eq0.true)

pub returns-then-number-eq1 : goal.returns-then-number-eq1
returns-then-number-eq1 c = rw (ne_eqb _ _ c.if-number-eq0.false, eq-eqb _ _ c.if-number-eq1.true)

pub returns : goal.returns
returns c = rw (ne_eqb _ _ c.if-number-eq0.false, ne_eqb _ _ c.if-number-eq1.false)
