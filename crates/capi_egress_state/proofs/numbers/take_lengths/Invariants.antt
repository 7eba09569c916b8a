-- `take_lengths` takes numbers of 16 bits out of a row.
-- Invariant: the numbers that are left, written behind those that are, make all of them written.
use Rattle.std.proofs.Common.{◌≡◌, drop}
use Rattle.wire_spec.specs.Bits.{overwrite, splice}
use Rattle.capi_egress_state.proofs.numbers.take_lengths.Given as goal

abbrev pub invariant-loop-k : goal.invariant-loop-k
invariant-loop-k l = splice l.out l.k (drop l.k l.numbers) ≡ overwrite l.numbers l.initial.out
