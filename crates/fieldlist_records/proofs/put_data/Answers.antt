-- Pieces one behind the other are one piece.
use Rattle.std.proofs.Common.{ℕ, ap, ◌++◌}
use Rattle.text.specs.Text.{ascii, decimal}
use Rattle.text.proofs.PutLaws.{both, same}
use Rattle.fieldlist_records.specs.Records.{data_text}
use Rattle.fieldlist_records.proofs.put_data.Goals as goal

pub returns-clause-put : goal.returns-clause-put
unfolding data_text ascii
returns-clause-put c =
    let count = same (ap (λ (m : ℕ). ascii " words=" ++ decimal m) c.requires.words_value.0) c.put_labelled-next.ensures.put in
    both (both (both c.put_type-next.ensures.put count) c.put_words-next.ensures.put) c.put.ensures.put
