-- `step` steps past an accepted packet.
-- By 30, then 31.
use Rattle.std.proofs.Common.{sym, ◌∙◌}
use Rattle.streamcheck_spec.specs.Code.{step_of}
use Rattle.streamcheck_step.proofs.step.step.Goals as goal

pub returns-then-not-is_source : goal.returns-then-not-is_source
unfolding step_of
returns-then-not-is_source c = rw (sym c.is_source.ensures ∙ c.if-not-is_source.true)

pub returns-then-not-is_type : goal.returns-then-not-is_type
unfolding step_of
returns-then-not-is_type c = rw (sym c.is_source.ensures ∙ c.if-not-is_source.false, sym c.is_type.ensures ∙ c.if-not-is_type.true)

pub returns : goal.returns
unfolding step_of
returns c = rw (c.sound_step.ensures, sym c.is_source.ensures ∙ c.if-not-is_source.false, sym c.is_type.ensures ∙ c.if-not-is_type.false)
