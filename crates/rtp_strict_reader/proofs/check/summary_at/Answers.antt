-- `summary_at` tells what a packet says that was checked, with its counts.
-- By what the check found: the six values stand where the header's size says.
use Rattle.wire_spec.specs.Result.{Ok}
use mathlib.Core.Path.{ap, sym, ◌∙◌}
use native.Mathlib.Omega.{arith}
use Rattle.wire_spec.proofs.Window.{below_all}
use Rattle.rtp_strict_reader.specs.declared.packet.Head.{Head}
use Rattle.rtp_strict_reader.proofs.ReadLaws.{Outlined, outlined, says_there}
use Rattle.rtp_strict_reader.proofs.check.summary_at.Goals as goal

pub head_at-requires : goal.head_at-requires
head_at-requires c = let found : Outlined c.args.layout c.args.octets.now c.args.outline c.requires = outlined c.args.layout _ _ _ (below_all c.args.octets.now (λ j. (c.shared_slice_known-1.given j).fits)) in
    let f = found in (f.header_is, f.header-least, omega (arith, f.whole))

pub overflow_cast-result : goal.overflow_cast-result
overflow_cast-result c = let found : Outlined c.args.layout c.args.octets.now c.args.outline c.requires = outlined c.args.layout _ _ _ (below_all c.args.octets.now (λ j. (c.shared_slice_known-1.given j).fits)) in
    omega (arith, (found).few)

pub returns : goal.returns
returns c = let a = c.args in
    says_there a.layout a.octets.now a.outline c.requires
    ∙ ap (λ (x : Head). Ok (record { head = x; records = a.outline.records; cells = a.outline.cells })) (sym c.head_at.ensures)
