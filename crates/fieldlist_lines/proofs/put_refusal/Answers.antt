-- By the test.
use borrow.Author.Tests.{eq-eqb}
use Rattle.text.specs.Text.{ascii}
use Rattle.fieldlist_lines.proofs.put_refusal.Goals as goal

pub returns-then-refusal-eq-LATE : goal.returns-then-refusal-eq-LATE
unfolding ascii
returns-then-refusal-eq-LATE c = rw (eq-eqb c.args.refusal.number 32 c.if-refusal-eq-LATE.true) c.put_numbered.ensures.put
