-- Two pieces one behind the other are one piece.
use Rattle.text.proofs.PutLaws.{both}
use Rattle.fieldlist_records.specs.Records.{location_text}
use Rattle.fieldlist_records.proofs.put_record.Goals as goal

pub returns-clause-put : goal.returns-clause-put
unfolding location_text
returns-clause-put c = both c.put_location-next.ensures.put c.put_data.ensures.put
