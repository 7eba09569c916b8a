-- `number` is two octets of the header at `at`.
-- By the law of an element behind a drop, for each.
use mathlib.Core.Path.{sym, ◌∙◌}
use Rattle.capture_datagram.proofs.FieldLaws.{pair-drop}
use Rattle.capture_datagram.proofs.field.number.Goals as goal

pub returns : goal.returns
returns c = let a = c.args in c.pair.ensures ∙ sym (pair-drop a.packet.now a.at a.k)
