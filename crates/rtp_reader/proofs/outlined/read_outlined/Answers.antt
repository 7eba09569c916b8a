-- `read_outlined` reads a packet that the strict way accepts, or gives 14 and leaves the cells.
-- By what the strict way answers: it leaves none out.
use mathlib.Core.Path.{◌≡◌, ap, sym, ◌∙◌}
use native.Mathlib.Omega.{arith}
use lib.ListN.{length}
use Rattle.wire_spec.specs.Result.{Result}
use Rattle.wire_spec.specs.Packet.{Content}
use Rattle.rtp_strict_reader.specs.Answers.{read_of, cells_after}
use Rattle.rtp_strict_reader.proofs.ReadLaws.{into-short, into-fits}
use Rattle.rtp_reader.proofs.ReadLaws.{strict-packet, refused-leaves, refused-other}
use Rattle.rtp_reader.proofs.outlined.read_outlined.Goals as goal

pub returns-then-cells-outline : goal.returns-then-cells-outline
returns-then-cells-outline c = let a = c.args in
    let e = ap read_of (into-short a.layout a.octets.now _ c.requires (length a.cells.now) c.if-cells-outline.true) in
    let p = refused-other a.layout a.octets.now a.cells.now _ e (λ (z : 14 ≡ 11). omega arith) in
    record { value = c.refuse.ensures ∙ p.0; cells_after = sym (refused-leaves a.layout a.octets.now a.cells.now _ e) ∙ p.1 }

pub returns : goal.returns
returns c = let a = c.args in
    let e = into-fits a.layout a.octets.now _ c.requires (length a.cells.now) c.if-cells-outline.false in
    let p = strict-packet a.layout a.octets.now a.cells.now _ (ap read_of e ∙ c.summary_at.ensures) in
    record { value = p.0; cells_after = c.read_records.ensures ∙ ap (λ (r : Result Content). cells_after r a.cells.now) (sym e) ∙ p.1 }
