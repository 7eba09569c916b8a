-- `put_octets` puts numbers of 8 bits into a row from a place on, and no other number changes.
-- Invariant: the numbers that are left, written behind those that are, make all of them written.
use Rattle.std.proofs.Common.{◌≡◌, ◌+◌, drop}
use Rattle.wire_spec.specs.Bits.{splice}
use Rattle.capi_egress_state.proofs.numbers.put_octets.Given as goal

abbrev pub invariant-loop-k : goal.invariant-loop-k
invariant-loop-k l = splice l.row (l.at + l.k) (drop l.k l.octets) ≡ splice l.initial.row l.at l.octets
