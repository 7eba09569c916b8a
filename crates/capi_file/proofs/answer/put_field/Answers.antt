-- `put_field` writes what a field says to the first numbers of a row.
-- By what `put` gives.
use Rattle.capi_file.proofs.answer.put_field.Goals as goal

pub returns : goal.returns
returns c = c.put.ensures
