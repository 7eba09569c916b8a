-- `sound_step` steps past a packet that is not refused.
-- By its tests.
use Rattle.streamcheck_spec.specs.Code.{sound_step}
use Rattle.streamcheck_step.proofs.step.sound_step.Goals as goal

pub returns : goal.returns
unfolding sound_step
returns c = rw (c.place_within.ensures, c.is_change.ensures, c.is_gap.ensures)
