-- `layout_of` is the layout of a session.
-- By the session.
use Rattle.fieldlist_session.proofs.session.layout_of.Goals as goal

pub returns-in-Waiting : goal.returns-in-Waiting
returns-in-Waiting c = rw c.in-Waiting.is

pub returns-in-Open : goal.returns-in-Open
returns-in-Open c = rw c.in-Open.is
