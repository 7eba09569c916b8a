-- `finish` refuses a capture that is cut.
-- By whether it was refused before, and whether it may end there.
use mathlib.Core.Path.{sym, ◌∙◌}
use Rattle.pcapframes_spec.proofs.SessionLaws.{last-open, last-refused}
use Rattle.pcapframes_session.proofs.finish.Goals as goal

pub returns-then-is_whole : goal.returns-then-is_whole
returns-then-is_whole c = let a = c.args in sym (last-open a.session a.left _ c.in-None.is (sym c.is_whole.ensures ∙ c.if-is_whole.true))

pub returns-in-Some : goal.returns-in-Some
returns-in-Some c = let a = c.args in sym (last-refused a.session a.left _ c.in-Some.is)

pub returns-else-is_whole : goal.returns-else-is_whole
returns-else-is_whole c = let a = c.args in c.refuse.ensures ∙ sym (last-open a.session a.left _ c.in-None.is (sym c.is_whole.ensures ∙ c.if-is_whole.false))
