-- By C.
use Rattle.std.proofs.Common.{ℕ, ap, ◌++◌}
use Rattle.text.specs.Text.{ascii, decimal}
use Rattle.text.proofs.PutLaws.{same}
use Rattle.fieldlist_records.specs.Records.{line_text}
use Rattle.fieldlist_records.proofs.put_line.Goals as goal

pub returns-then-c-clause-put : goal.returns-then-c-clause-put
unfolding line_text ascii
returns-then-c-clause-put c = rw c.if-c.true (same (ap (λ (n : ℕ). ascii " c line=" ++ decimal n) c.number-number.ensures) c.put_labelled.ensures.put)

pub returns-clause-put : goal.returns-clause-put
unfolding line_text ascii
returns-clause-put c = rw c.if-c.false (same (ap (λ (n : ℕ). ascii " y line=" ++ decimal n) c.number-number.ensures) c.put_labelled-2.ensures.put)
