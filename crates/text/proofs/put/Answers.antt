-- `put` writes a piece at its place, and nothing else.
-- By the copy's contract, over the octets from that place on.
use mathlib.Core.Path.{refl}
use Rattle.wire_spec.proofs.ListLaws.{part-written}
use Rattle.text.proofs.put.Goals as goal

pub returns : goal.returns
returns c = let a = c.args in
    record { put = record { room = c.requires; behind = refl; octets = part-written a.at a.out.now a.piece.now _ c.copy.ensures }; value = refl }
