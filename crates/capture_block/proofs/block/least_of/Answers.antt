-- `least_of` is the fewest octets of a block of a type.
-- By the tests of it.
use native.Mathlib.Omega.{arith}
use borrow.Author.Tests.{eq-eqb, ne_eqb}
use Rattle.capture_block.proofs.block.least_of.Goals as goal

pub returns-then-kind-eq-INTERFACE_TYPE : goal.returns-then-kind-eq-INTERFACE_TYPE
returns-then-kind-eq-INTERFACE_TYPE c = (rw (eq-eqb _ 1 c.if-kind-eq-INTERFACE_TYPE.true), omega arith)

pub returns-then-kind-eq-SIMPLE_TYPE : goal.returns-then-kind-eq-SIMPLE_TYPE
returns-then-kind-eq-SIMPLE_TYPE c = (rw (ne_eqb _ 1 c.if-kind-eq-INTERFACE_TYPE.false, eq-eqb _ 3 c.if-kind-eq-SIMPLE_TYPE.true), omega arith)

pub returns-then-kind-eq-ENHANCED_TYPE : goal.returns-then-kind-eq-ENHANCED_TYPE
returns-then-kind-eq-ENHANCED_TYPE c = (rw (ne_eqb _ 1 c.if-kind-eq-INTERFACE_TYPE.false, ne_eqb _ 3 c.if-kind-eq-SIMPLE_TYPE.false, eq-eqb _ 6 c.if-kind-eq-ENHANCED_TYPE.true), omega arith)

pub returns-then-kind-eq-PACKET_TYPE : goal.returns-then-kind-eq-PACKET_TYPE
returns-then-kind-eq-PACKET_TYPE c = (rw (ne_eqb _ 1 c.if-kind-eq-INTERFACE_TYPE.false, ne_eqb _ 3 c.if-kind-eq-SIMPLE_TYPE.false, ne_eqb _ 6 c.if-kind-eq-ENHANCED_TYPE.false, eq-eqb _ 2 c.if-kind-eq-PACKET_TYPE.true), omega arith)

pub returns : goal.returns
returns c = (rw (ne_eqb _ 1 c.if-kind-eq-INTERFACE_TYPE.false, ne_eqb _ 3 c.if-kind-eq-SIMPLE_TYPE.false, ne_eqb _ 6 c.if-kind-eq-ENHANCED_TYPE.false, ne_eqb _ 2 c.if-kind-eq-PACKET_TYPE.false), omega arith)
