-- `put_lengths` puts numbers of 16 bits into a row from a place on, and no other number changes.
-- Invariant: the numbers that are left, written behind those that are, make all of them written.
use Rattle.std.proofs.Common.{◌≡◌, ◌+◌, drop}
use Rattle.wire_spec.specs.Bits.{splice}
use Rattle.capi_egress_state.proofs.numbers.put_lengths.Given as goal

abbrev pub invariant-loop-k : goal.invariant-loop-k
invariant-loop-k l = splice l.row (l.at + l.k) (drop l.k l.lengths) ≡ splice l.initial.row l.at l.lengths
