-- `measure` says what a list is, or why it is refused.
-- A list that was measured is what the check would say of it.
use mathlib.Core.Path.{sym, ◌∙◌}
use Rattle.anc_writer.proofs.ListedLaws.{measured-is}
use Rattle.sdi.proofs.measure.Goals as goal

pub returns-in-Some : goal.returns-in-Some
returns-in-Some c = sym (measured-is _ _ _ (sym c.measure_list.ensures ∙ c.in-Some.is))
