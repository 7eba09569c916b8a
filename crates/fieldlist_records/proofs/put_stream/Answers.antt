-- Two pieces one behind the other are one piece.
use Rattle.std.proofs.Common.{ℕ, ap, ◌++◌}
use Rattle.text.specs.Text.{ascii, decimal}
use Rattle.text.proofs.PutLaws.{both, same}
use Rattle.fieldlist_records.proofs.put_stream.Goals as goal

pub returns-clause-put : goal.returns-clause-put
unfolding ascii
returns-clause-put c =
    both (same (ap (λ (n : ℕ). ascii " s=" ++ decimal n) c.flag.ensures) c.put_labelled-next.ensures.put) c.put_labelled.ensures.put
