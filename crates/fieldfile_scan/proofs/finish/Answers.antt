-- `finish` gives 21 or the field.
-- By the test.
use mathlib.Core.Path.{sym, ◌∙◌}
use Rattle.fieldfile_scan.proofs.finish.Goals as goal

pub returns-then-not-within_limits : goal.returns-then-not-within_limits
returns-then-not-within_limits c = let h = sym c.within_limits.ensures ∙ c.if-not-within_limits.true in c.refuse.ensures ∙ rw h

pub returns : goal.returns
returns c = let h = sym c.within_limits.ensures ∙ c.if-not-within_limits.false in rw h
