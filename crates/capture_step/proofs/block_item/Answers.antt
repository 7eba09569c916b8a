-- `block_item` is a block of a section.
-- By its type and its extent.
-- a block that is no section's head, by its type and its extent
use Rattle.std.specs.Prelude.{Option}
use Rattle.std.proofs.lemmas.Result.{err_from_is_err_and}
use mathlib.Core.Path.{◌≡◌, refl, ap, sym, ◌∙◌}
use mathlib.Core.List.{List}
use Prim.Native.Nat.{ℕ, ◌≤◌}
use lib.ListN.{length}
use borrow.Author.Tests.{eq-eqb, ne_eqb, le-ltb, lt-ltb}
use Rattle.capture_spec.specs.declared.state.Order.{Order}
use Rattle.capture_spec.specs.declared.state.State.{State}
use Rattle.capture_spec.specs.Items.{Extent, Read}
use Rattle.capture_spec.specs.Numbers.{word_at}
use Rattle.capture_spec.specs.Step.{block_extent, block_item, body_item, least_of, section_by, within}
use Rattle.capture_spec.proofs.StepLaws.{block_in, whole_in}
use Rattle.capture_step.proofs.block_item.Goals as goal

other : (o : Order) (st : State) (s : List ℕ) (y l : ℕ) (e : Extent) (x : Read) → 12 ≤ length s → y ≡ word_at o s 0 → (y ≡ 0x0A0D0D0A → ⊥) → l ≡ least_of y → e ≡ block_extent o l s
    → x ≡ within e (λ n. body_item y o st n s) → x ≡ block_item o st s
other o st s y l e x h w n k f g =
    rw (le-ltb (length s) 12 h, ← w, ne_eqb y 0x0A0D0D0A n)
    (g ∙ ap (λ (z : Extent). within z (λ n. body_item y o st n s)) (f ∙ ap (λ (z : ℕ). block_extent o z s) k))

pub returns-then-octets-lt-BLOCK_HEAD : goal.returns-then-octets-lt-BLOCK_HEAD
returns-then-octets-lt-BLOCK_HEAD c = rw (lt-ltb _ 12 c.if-octets-lt-BLOCK_HEAD.true)

pub returns-then-kind-eq-SECTION_TYPE : goal.returns-then-kind-eq-SECTION_TYPE
returns-then-kind-eq-SECTION_TYPE c = let s = c.args.octets.now in
    rw (le-ltb _ 12 c.if-octets-lt-BLOCK_HEAD.false, ← c.word_at-kind.ensures.0, eq-eqb _ 0x0A0D0D0A c.if-kind-eq-SECTION_TYPE.true)
    (c.section_item.ensures ∙ ap (λ (o : Option Order). section_by o s) c.section_order.ensures)

pub body_item-requires : goal.body_item-requires
body_item-requires c =
    let a = c.args in
    let s = a.octets.now in
    let y = c.word_at-kind.result in
    let e : c.block_extent.result ≡ block_extent a.order (least_of y) s =
    c.block_extent.ensures ∙ ap (λ (z : ℕ). block_extent a.order z s) c.least_of.ensures.0 in
    whole_in (least_of y) (length s) (block_extent a.order (least_of y) s) c.in_ok-n.n (block_in a.order (least_of y) s) (sym e ∙ c.in_ok-n.was)

pub returns-in_err-n : goal.returns-in_err-n
returns-in_err-n c =
    let a = c.args in
    let p = err_from_is_err_and c.from_residual.result c.from_residual.ensures.1 in
    rw (p.1, p.2)
    (other a.order a.state a.octets.now _ _ _ _ c.if-octets-lt-BLOCK_HEAD.false c.word_at-kind.ensures.0
    c.if-kind-eq-SECTION_TYPE.false c.least_of.ensures.0 (sym c.in_err-n.was ∙ c.block_extent.ensures) refl)

pub returns : goal.returns
returns c =
    let a = c.args in
    other a.order a.state a.octets.now _ _ _ _ c.if-octets-lt-BLOCK_HEAD.false c.word_at-kind.ensures.0
    c.if-kind-eq-SECTION_TYPE.false c.least_of.ensures.0 (sym c.in_ok-n.was ∙ c.block_extent.ensures) c.body_item.ensures
