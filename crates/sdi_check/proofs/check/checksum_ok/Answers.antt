-- `checksum_ok` tests the checksum word.
-- By the words that are summed.
use Rattle.sdi_spec.proofs.CodeLaws.{sum-test}
use Rattle.sdi_check.proofs.check.checksum_ok.Goals as goal

pub returns : goal.returns
returns c = sum-test c.args.words.now c.args.n _ _ c.requires.0 c.sum_cells-sum.ensures c.checksum_word.ensures
