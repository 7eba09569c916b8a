-- `slots_fit` tells whether every slot's number is in range.
-- Invariant: those of the places passed are.
use Rattle.std.proofs.Common.{◌≡◌, true}
use Rattle.egress_spec.specs.Places.{all_upto, slot_ok}
use Rattle.egress_state.proofs.survey.slots_fit.Given as goal

abbrev pub invariant-loop-k : goal.invariant-loop-k
invariant-loop-k l = all_upto (slot_ok l.state) l.k ≡ true
