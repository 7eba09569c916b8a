-- Pieces one behind the other are one piece.
use Rattle.std.proofs.Common.{ℕ, ap, ◌++◌}
use Rattle.text.specs.Text.{ascii, decimal}
use Rattle.text.proofs.PutLaws.{both, same}
use Rattle.fieldlist_records.specs.Records.{location_text}
use Rattle.fieldlist_records.proofs.put_location.Goals as goal

pub returns-clause-put : goal.returns-clause-put
unfolding location_text ascii
returns-clause-put c =
    let offset = same (ap (λ (n : ℕ). ascii " off=" ++ decimal n) c.number.ensures) c.put_labelled-next.ensures.put in
    both (both c.put_line-next.ensures.put offset) c.put_stream.ensures.put
