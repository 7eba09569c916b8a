-- `read_records` writes the cells of a packet's records to the first cells, and no other cell.
-- By what the check found of its run.
use mathlib.Core.Path.{◌∙◌}
use native.Mathlib.Omega.{arith}
use Rattle.wire_spec.proofs.Window.{below_all}
use Rattle.rtp_strict_reader.proofs.ReadLaws.{Outlined, outlined}
use Rattle.rtp_strict_reader.proofs.check.read_records.Goals as goal

pub overflow_add-at : goal.overflow_add-at
overflow_add-at c = let found : Outlined c.args.layout c.args.octets.now c.args.outline c.requires.octets_value = outlined c.args.layout _ _ _ (below_all c.args.octets.now (λ j. (c.shared_slice_known-1.given j).fits)) in
    omega (arith, c.payload_header_size.ensures, (found).whole)

pub overflow_add-end : goal.overflow_add-end
overflow_add-end c = let found : Outlined c.args.layout c.args.octets.now c.args.outline c.requires.octets_value = outlined c.args.layout _ _ _ (below_all c.args.octets.now (λ j. (c.shared_slice_known-1.given j).fits)) in
    omega (arith, c.payload_header_size.ensures, (found).whole)

pub slice_bounds-read_run-end : goal.slice_bounds-read_run-end
slice_bounds-read_run-end c = let found : Outlined c.args.layout c.args.octets.now c.args.outline c.requires.octets_value = outlined c.args.layout _ _ _ (below_all c.args.octets.now (λ j. (c.shared_slice_known-1.given j).fits)) in
    omega (arith, c.payload_header_size.ensures, (found).whole)

pub read_run-requires : goal.read_run-requires
read_run-requires c = let found : Outlined c.args.layout c.args.octets.now c.args.outline c.requires.octets_value = outlined c.args.layout _ _ _ (below_all c.args.octets.now (λ j. (c.shared_slice_known-1.given j).fits)) in
    let f = found in
    rw c.payload_header_size.ensures (record { accepted = f.accepts; octets_in_bounds = omega (arith, f.size c.args.index) })

pub returns : goal.returns
returns c = let found : Outlined c.args.layout c.args.octets.now c.args.outline c.requires.octets_value = outlined c.args.layout _ _ _ (below_all c.args.octets.now (λ j. (c.shared_slice_known-1.given j).fits)) in
    rw c.payload_header_size.ensures at c.read_run.ensures ∙ (found).after _ _
