-- `octet` is an octet of the header at `at`.
-- By the law of an element behind a drop.
use lib.Seq.{get_or-drop}
use Rattle.capture_datagram.proofs.field.octet.Goals as goal

pub returns : goal.returns
returns c = rw get_or-drop c.wide.ensures
