-- `begin` is before the first frame.
-- By what `open` gives.
use Rattle.streamcheck_session.proofs.session.begin.Goals as goal

pub returns : goal.returns
returns c = λ i. record { layout = c.args.layout; index = 0; checker = c.open.ensures i }
