-- `Offset::of` gives the offset that the number stands for.
-- Each return knows which of the special numbers it is, or that it is none.
use borrow.Author.Tests.{eq-eqb, ne_eqb}
use Rattle.anc_record.specs.Location.{offset_of}
use Rattle.anc_record.proofs.location.Offset.of.Goals as goal

pub returns-then-x-eq-UNSPECIFIED : goal.returns-then-x-eq-UNSPECIFIED
unfolding offset_of
returns-then-x-eq-UNSPECIFIED c = simp (eq-eqb _ _ c.if-x-eq-UNSPECIFIED.true)

pub returns-then-x-eq-HORIZONTAL : goal.returns-then-x-eq-HORIZONTAL
unfolding offset_of
returns-then-x-eq-HORIZONTAL c = simp (ne_eqb _ _ c.if-x-eq-UNSPECIFIED.false, eq-eqb _ _ c.if-x-eq-HORIZONTAL.true)

pub returns-then-x-eq-SAV_TO_EAV : goal.returns-then-x-eq-SAV_TO_EAV
unfolding offset_of
returns-then-x-eq-SAV_TO_EAV c = simp (ne_eqb _ _ c.if-x-eq-UNSPECIFIED.false, ne_eqb _ _ c.if-x-eq-HORIZONTAL.false, eq-eqb _ _ c.if-x-eq-SAV_TO_EAV.true)

pub returns-then-x-eq-TOO_LARGE : goal.returns-then-x-eq-TOO_LARGE
unfolding offset_of
returns-then-x-eq-TOO_LARGE c = simp (
  ne_eqb _ _ c.if-x-eq-UNSPECIFIED.false,
  ne_eqb _ _ c.if-x-eq-HORIZONTAL.false,
  ne_eqb _ _ c.if-x-eq-SAV_TO_EAV.false,
  eq-eqb _ _ c.if-x-eq-TOO_LARGE.true,
)

pub returns : goal.returns
unfolding offset_of
returns c = simp (
  ne_eqb _ _ c.if-x-eq-UNSPECIFIED.false,
  ne_eqb _ _ c.if-x-eq-HORIZONTAL.false,
  ne_eqb _ _ c.if-x-eq-SAV_TO_EAV.false,
  ne_eqb _ _ c.if-x-eq-TOO_LARGE.false,
)
