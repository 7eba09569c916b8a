-- `count` goes behind a frame.
-- By its definition.
use mathlib.Core.Path.{refl}
use Rattle.streamcheck_session.proofs.session.count.Goals as goal

pub returns : goal.returns
returns c = refl
