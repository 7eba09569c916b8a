-- `told` tells of words by their tally.
-- By the definition.
use Rattle.std.proofs.Common.{refl}
use Rattle.wire_row_scan.proofs.scan.told.Goals as goal

pub returns : goal.returns
returns c = (refl, refl)
