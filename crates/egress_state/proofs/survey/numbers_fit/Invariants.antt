-- `numbers_fit` tells whether the heads, the counts, the next channel and the slots are in range.
-- Invariant: those of the channels passed are.
use Rattle.std.proofs.Common.{◌≡◌, true}
use Rattle.egress_spec.specs.Places.{all_upto, channel_ok}
use Rattle.egress_state.proofs.survey.numbers_fit.Given as goal

abbrev pub invariant-loop-c : goal.invariant-loop-c
invariant-loop-c l = all_upto (channel_ok l.state) l.c ≡ true
