-- `scan_words` tells of the words from a bit on: their sum modulo 512, and whether none is protected.
-- By their tally.
use Rattle.std.proofs.Common.{◌∙◌}
use Rattle.wire_row_scan.proofs.scan.scan_words.Goals as goal

pub returns : goal.returns
returns c = let t = c.tally_row.ensures in
    record { sum_is = c.told.ensures.0 ∙ t.sum_is; clear-is = c.told.ensures.1 ∙ t.clear-is }
