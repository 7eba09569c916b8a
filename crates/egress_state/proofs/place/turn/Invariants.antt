-- `turn` finds the channel whose turn it is.
-- Invariant: from `c` on, the channels that are left find what all eight find from `next` on.
use Rattle.std.proofs.Common.{◌≡◌, ◌-◌, ◌<◌}
use Rattle.egress_spec.specs.Step.{turn_of}
use Rattle.egress_state.proofs.place.turn.Given as goal

abbrev pub invariant-loop : goal.invariant-loop
invariant-loop l = (l.c < 8) × (turn_of (8 - l.counter) l.counts l.c ≡ turn_of 8 l.counts l.next)
