-- `put_pairs` puts the items of pairs.
-- Invariant: the items that are left, put behind those that are, make all of them put.
use Rattle.std.proofs.Common.{◌*◌, drop}
use Rattle.sdp_spec.specs.Writing.{pair_texts, joined}
use Rattle.sdp_writer.specs.Parts.{following}
use Rattle.text.proofs.LeftLaws.{Left}
use Rattle.sdp_writer.proofs.put_pairs.Given as goal

abbrev pub invariant-loop-k : goal.invariant-loop-k
invariant-loop-k l = Left (joined (pair_texts l.pairs)) l.initial.out (following l.to (pair_texts (drop (2 * l.k) l.pairs))) l.out l.to
