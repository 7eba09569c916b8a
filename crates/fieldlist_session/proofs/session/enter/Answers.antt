-- `enter` gives the depacketizer that a packet arrives at.
-- By the session.
use mathlib.Core.Path.{ap, sym}
use Rattle.fieldlist_session.specs.declared.session.Session.{Session}
use Rattle.fieldlist_session.specs.Answers.{entered_by}
use Rattle.fieldlist_session.proofs.session.enter.Goals as goal

pub returns-in-Open : goal.returns-in-Open
returns-in-Open c = let a = c.args in sym (ap (λ (s : Session). entered_by s a.inspected) c.in-Open.is)
