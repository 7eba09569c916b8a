-- `put_summary` writes what a packet says to the first numbers of a row.
-- By what `flag` and `put` give.
use Rattle.capi_packet.proofs.answer.put_summary.Goals as goal

pub returns : goal.returns
returns c = rw (← c.flag.ensures) c.put.ensures
