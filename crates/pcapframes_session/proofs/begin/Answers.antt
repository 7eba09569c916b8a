-- `begin` is before the first octet.
-- As it stands.
use Rattle.std.specs.Prelude.{None}
use Rattle.pcapframes_session.proofs.begin.Goals as goal

pub returns : goal.returns
returns c = λ i. record { state = c.begin.ensures i; refusal = None; packets = 0; fragments = 0; cut = 0 }
