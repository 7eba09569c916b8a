-- `five_octets` has the bits of four words.
-- By the octets that two words share.
use Rattle.std.proofs.Common.{◌/◌, [], ◌∷◌, ◌∙◌}
use Rattle.wire_spec.specs.Bits.{bits}
use Rattle.wire_row_writer.proofs.FactorLaws.{five-are}
use Rattle.wire_row_writer.proofs.row.five_octets.Goals as goal

pub returns : goal.returns
returns c = let a = c.args in
    let p = c.requires.0 in
    (λ i. bits (a.a / 4 ∷ c.shared_octet.ensures i ∷ c.shared_octet-2.ensures i ∷ c.shared_octet-3.ensures i ∷ c.shared_octet-4.ensures i ∷ []))
    ∙ five-are a.a a.b a.c a.d a.e p.0 p.1.0 p.1.1.0 p.1.1.1.0
