-- `record_item` is the packet of a record.
-- By its extent.
use Rattle.std.specs.Prelude.{Ok}
use Rattle.std.proofs.lemmas.Result.{err_from_is_err_and}
use mathlib.Core.Path.{ap, sym, ◌∙◌}
use Prim.Native.Nat.{ℕ, ◌-◌}
use lib.ListN.{length}
use Rattle.capture_spec.specs.Items.{Extent, Read}
use Rattle.capture_spec.specs.declared.state.Item.TheVariants as item
use Rattle.capture_spec.specs.Step.{record_extent, within}
use Rattle.capture_spec.proofs.StepLaws.{record-in, whole_in}
use Rattle.capture_step.proofs.record_item.Goals as goal

abbrev packet : ℕ → ℕ → Read
packet link n = Ok (item.Packet (record { at = 16; size = n - 16; link = link }) n)

pub overflow_sub-result : goal.overflow_sub-result
overflow_sub-result c =
    let a = c.args in
    let s = a.octets.now in
    let whole = sym c.record_extent.ensures ∙ c.in_ok-n.was in
    (whole_in 16 (length s) (record_extent a.order s) c.in_ok-n.n (record-in a.order s) whole).0

pub returns-in_err-n : goal.returns-in_err-n
returns-in_err-n c =
    let p = err_from_is_err_and c.from_residual.result c.from_residual.ensures.1 in
    rw (p.1, p.2) (ap (λ (e : Extent). within e (packet c.args.link)) (sym c.in_err-n.was ∙ c.record_extent.ensures))

pub returns : goal.returns
returns c = ap (λ (e : Extent). within e (packet c.args.link)) (sym c.in_ok-n.was ∙ c.record_extent.ensures)
