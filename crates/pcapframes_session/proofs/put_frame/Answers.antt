-- `put_frame` puts the length, and then the payload.
-- Two pieces one behind the other are one piece.
use Rattle.text.proofs.PutLaws.{both}
use Rattle.pcapframes_session.proofs.put_frame.Goals as goal

pub returns : goal.returns
returns c = both c.put-at.ensures.put c.put.ensures.put
