-- Two pieces one behind the other are one piece.
use Rattle.text.specs.Text.{ascii}
use Rattle.text.proofs.PutLaws.{both}
use Rattle.fieldlist_records.proofs.put_type.Goals as goal

pub returns-clause-put : goal.returns-clause-put
unfolding ascii
returns-clause-put c = both c.put_octet-next.ensures.put c.put_octet.ensures.put
