-- `put_counts_of` puts the counts of a session.
-- By the session.
use mathlib.Core.Path.{ap, sym}
use Rattle.text.proofs.PutLaws.{same}
use Rattle.fieldlist_session.specs.Session.{counts_of}
use Rattle.fieldlist_session.proofs.session.put_counts_of.Goals as goal

pub returns-in-Waiting : goal.returns-in-Waiting
returns-in-Waiting c = same (sym (ap counts_of c.in-Waiting.is)) c.put_counts.ensures

pub returns-in-Open : goal.returns-in-Open
returns-in-Open c = same (sym (ap counts_of c.in-Open.is)) c.put_counts-in-Open.ensures
