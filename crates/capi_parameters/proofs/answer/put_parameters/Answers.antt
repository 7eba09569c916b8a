-- `put_parameters` writes what a text says to the first numbers of a row.
-- By what `has_code`, `code_or_0` and `put` give.
use Rattle.capi_parameters.proofs.answer.put_parameters.Goals as goal

pub returns : goal.returns
returns c = rw (← c.has_code.ensures, ← c.code_or_0.ensures) c.put.ensures
