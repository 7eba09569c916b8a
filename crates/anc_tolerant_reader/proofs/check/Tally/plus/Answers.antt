-- `Tally::plus` counts one packet more.
-- By whether it comes through.
use Rattle.anc_tolerant_reader.proofs.check.Tally.plus.Goals as goal

pub returns-then-own : goal.returns-then-own
returns-then-own c = rw c.if-own.true

pub returns : goal.returns
returns c = rw c.if-own.false
