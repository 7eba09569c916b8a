-- `checksum_ok` tests the word behind the user data words.
-- By the definition.
use Rattle.anc_reader.proofs.check.checksum_ok.Goals as goal

pub returns : goal.returns
returns c = rw (c.checksum_word.ensures, c.fetch.ensures, c.words_at.ensures)
