-- `survey` tells whether a state is sound, and then which slots are used.
-- Invariant: the places passed are sound, and their slots are the marks.
use Rattle.std.proofs.Common.{◌+◌, ◌*◌}
use Rattle.egress_state.proofs.SurveyLaws.{Passed}
use Rattle.egress_state.proofs.survey.survey.Given as goal

abbrev pub invariant-loop-i : goal.invariant-loop-i
invariant-loop-i l = Passed l.state l.memory (8 * l.c + l.i) l.used

abbrev pub invariant-loop-c : goal.invariant-loop-c
invariant-loop-c l = Passed l.state l.memory (8 * l.c) l.used
