-- By the test.
use borrow.Author.Tests.{ne_eqb}
use Rattle.text.proofs.PutLaws.{both}
use Rattle.fielddiff_lines.proofs.put_differing.Goals as goal

pub returns-clause-put : goal.returns-clause-put
returns-clause-put c = rw (ne_eqb c.args.l c.args.r c.if-l-r.false) (both c.put_decimal-next.ensures.put c.put_sides.ensures.put)
