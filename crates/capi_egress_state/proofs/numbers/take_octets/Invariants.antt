-- `take_octets` takes numbers of 8 bits out of a row.
-- Invariant: the numbers that are left, written behind those that are, make all of them written.
use Rattle.std.proofs.Common.{◌≡◌, drop}
use Rattle.wire_spec.specs.Bits.{overwrite, splice}
use Rattle.capi_egress_state.proofs.numbers.take_octets.Given as goal

abbrev pub invariant-loop-k : goal.invariant-loop-k
invariant-loop-k l = splice l.out l.k (drop l.k l.numbers) ≡ overwrite l.numbers l.initial.out
