-- `store_pairs` writes the pairs of a text.
-- Invariant: the pairs of the items that are left, written behind those that are, make all of them written.
use Prim.Native.Nat.{◌+◌}
use lib.ListN.{length}
use Rattle.wire_spec.specs.Bits.{bit}
use Rattle.sdp_spec.specs.Grammar.{pairs_of}
use Rattle.sdp_spec.specs.Reading.{items}
use Rattle.sdp_spec.proofs.CutLaws.{left}
use Rattle.text.proofs.LeftLaws.{Left}
use Rattle.sdp_reader.proofs.store_pairs.Given as goal

abbrev pub invariant-loop-more : goal.invariant-loop-more
invariant-loop-more l = Left (pairs_of (items l.text)) l.initial.pairs (pairs_of (left l.more l.rest)) l.pairs l.to

abbrev pub decreases-loop-more : goal.decreases-loop-more
decreases-loop-more l = length l.rest + bit l.more
