-- `read_refused` gives the refusal of the strict way, and by 11 reads in the tolerant way.
-- Only a refusal by 11 is another there.
use mathlib.Core.Path.{ap, sym, ◌∙◌}
use lib.ListN.{length}
use Rattle.rtp_strict_reader.specs.Answers.{read_of}
use Rattle.rtp_strict_reader.proofs.ReadLaws.{into-refused}
use Rattle.rtp_reader.proofs.ReadLaws.{refused-leaves, refused-other, refused-11}
use Rattle.rtp_reader.proofs.through.read_refused.Goals as goal

pub returns-then-refusal-ne-CHECKSUM_WRONG : goal.returns-then-refusal-ne-CHECKSUM_WRONG
returns-then-refusal-ne-CHECKSUM_WRONG c = let a = c.args in
    let e = ap read_of (into-refused a.layout a.octets.now (length a.cells.now) _ c.requires) in
    let p = refused-other a.layout a.octets.now a.cells.now _ e c.if-refusal-ne-CHECKSUM_WRONG.true in
    record { value = p.0; cells_after = sym (refused-leaves a.layout a.octets.now a.cells.now _ e) ∙ p.1 }

pub read_through-requires : goal.read_through-requires
read_through-requires c = let a = c.args in
    let e = ap read_of (into-refused a.layout a.octets.now (length a.cells.now) _ c.requires) in
    refused-11 a.layout a.octets.now a.cells.now _ e c.if-refusal-ne-CHECKSUM_WRONG.false
