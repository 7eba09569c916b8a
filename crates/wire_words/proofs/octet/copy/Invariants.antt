-- `copy` writes all of one slice to the first of another, and no other.
-- Invariant: what is left, written behind what is, makes all of it written.
use Rattle.std.proofs.Common.{◌≡◌, drop}
use Rattle.wire_spec.specs.Bits.{overwrite, splice}
use Rattle.wire_words.proofs.octet.copy.Given as goal

abbrev pub invariant-loop-k : goal.invariant-loop-k
invariant-loop-k l = splice l.to l.k (drop l.k l.from) ≡ overwrite l.from l.initial.to
