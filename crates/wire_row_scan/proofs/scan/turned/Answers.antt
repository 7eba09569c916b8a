-- `turned` is under 8 for a protected word.
-- By the two tests.
use Rattle.wire_row_scan.proofs.ClearLaws.{turned_clear}
use Rattle.wire_row_scan.proofs.scan.turned.Goals as goal

pub returns : goal.returns
returns c = turned_clear c.args.w c.requires
