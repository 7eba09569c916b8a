-- `body_item` is what a whole block of a type holds.
-- By the tests of the type, and the octets that it has at least.
use mathlib.Core.Path.{ap, ◌∙◌}
use Prim.Native.Nat.{ℕ}
use native.Mathlib.Omega.{arith}
use borrow.Author.Tests.{eq-eqb, ne_eqb}
use Rattle.capture_spec.specs.Step.{enhanced_item}
use Rattle.capture_spec.proofs.StepLaws.{least}
use Rattle.capture_block.proofs.block.body_item.Goals as goal

pub interface_item-requires : goal.interface_item-requires
interface_item-requires c = ((least c.args.kind c.args.n c.requires.0).interface (eq-eqb _ 1 c.if-kind-eq-INTERFACE_TYPE.true), c.requires.1)

pub returns-then-kind-eq-INTERFACE_TYPE : goal.returns-then-kind-eq-INTERFACE_TYPE
returns-then-kind-eq-INTERFACE_TYPE c = rw (eq-eqb _ 1 c.if-kind-eq-INTERFACE_TYPE.true) c.interface_item.ensures

pub simple_item-requires : goal.simple_item-requires
simple_item-requires c = ((least c.args.kind c.args.n c.requires.0).simple (ne_eqb _ 1 c.if-kind-eq-INTERFACE_TYPE.false) (eq-eqb _ 3 c.if-kind-eq-SIMPLE_TYPE.true), c.requires.1)

pub returns-then-kind-eq-SIMPLE_TYPE : goal.returns-then-kind-eq-SIMPLE_TYPE
returns-then-kind-eq-SIMPLE_TYPE c = rw (ne_eqb _ 1 c.if-kind-eq-INTERFACE_TYPE.false, eq-eqb _ 3 c.if-kind-eq-SIMPLE_TYPE.true) c.simple_item.ensures

pub word_at-id-requires : goal.word_at-id-requires
word_at-id-requires c = omega (arith, (least c.args.kind c.args.n c.requires.0).enhanced (ne_eqb _ 1 c.if-kind-eq-INTERFACE_TYPE.false) (ne_eqb _ 3 c.if-kind-eq-SIMPLE_TYPE.false) (eq-eqb _ 6 c.if-kind-eq-ENHANCED_TYPE.true), c.requires.1)

pub enhanced_item-requires : goal.enhanced_item-requires
enhanced_item-requires c = ((least c.args.kind c.args.n c.requires.0).enhanced (ne_eqb _ 1 c.if-kind-eq-INTERFACE_TYPE.false) (ne_eqb _ 3 c.if-kind-eq-SIMPLE_TYPE.false) (eq-eqb _ 6 c.if-kind-eq-ENHANCED_TYPE.true), c.requires.1)

pub returns-then-kind-eq-ENHANCED_TYPE : goal.returns-then-kind-eq-ENHANCED_TYPE
returns-then-kind-eq-ENHANCED_TYPE c = let a = c.args in
    rw (ne_eqb _ 1 c.if-kind-eq-INTERFACE_TYPE.false, ne_eqb _ 3 c.if-kind-eq-SIMPLE_TYPE.false, eq-eqb _ 6 c.if-kind-eq-ENHANCED_TYPE.true)
    (c.enhanced_item.ensures ∙ ap (λ (k : ℕ). enhanced_item a.order a.state k a.n a.octets.now) c.word_at-id.ensures.0)

pub half_at-id-requires : goal.half_at-id-requires
half_at-id-requires c = omega (arith, (least c.args.kind c.args.n c.requires.0).old (ne_eqb _ 1 c.if-kind-eq-INTERFACE_TYPE.false) (ne_eqb _ 3 c.if-kind-eq-SIMPLE_TYPE.false) (ne_eqb _ 6 c.if-kind-eq-ENHANCED_TYPE.false) (eq-eqb _ 2 c.if-kind-eq-PACKET_TYPE.true), c.requires.1)

pub enhanced_item-requires-then-kind-eq-PACKET_TYPE : goal.enhanced_item-requires-then-kind-eq-PACKET_TYPE
enhanced_item-requires-then-kind-eq-PACKET_TYPE c = ((least c.args.kind c.args.n c.requires.0).old (ne_eqb _ 1 c.if-kind-eq-INTERFACE_TYPE.false) (ne_eqb _ 3 c.if-kind-eq-SIMPLE_TYPE.false) (ne_eqb _ 6 c.if-kind-eq-ENHANCED_TYPE.false) (eq-eqb _ 2 c.if-kind-eq-PACKET_TYPE.true), c.requires.1)

pub returns-then-kind-eq-PACKET_TYPE : goal.returns-then-kind-eq-PACKET_TYPE
returns-then-kind-eq-PACKET_TYPE c = let a = c.args in
    rw (ne_eqb _ 1 c.if-kind-eq-INTERFACE_TYPE.false, ne_eqb _ 3 c.if-kind-eq-SIMPLE_TYPE.false, ne_eqb _ 6 c.if-kind-eq-ENHANCED_TYPE.false, eq-eqb _ 2 c.if-kind-eq-PACKET_TYPE.true)
    (c.enhanced_item-then-kind-eq-PACKET_TYPE.ensures ∙ ap (λ (k : ℕ). enhanced_item a.order a.state k a.n a.octets.now) c.half_at-id.ensures)

pub returns : goal.returns
returns c = rw (ne_eqb _ 1 c.if-kind-eq-INTERFACE_TYPE.false, ne_eqb _ 3 c.if-kind-eq-SIMPLE_TYPE.false, ne_eqb _ 6 c.if-kind-eq-ENHANCED_TYPE.false, ne_eqb _ 2 c.if-kind-eq-PACKET_TYPE.false)
