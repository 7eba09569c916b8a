-- `put_whole` writes what a field says to the first numbers of a row.
-- By what `put` gives.
use Rattle.capi_depacketizer.proofs.answer.put_whole.Goals as goal

pub returns : goal.returns
returns c = c.put.ensures
