-- `version_at` is the version that the file's head says.
-- By the test of its number.
use mathlib.Core.Path.{ap, sym, ◌∙◌}
use Prim.Native.Nat.{ℕ}
use borrow.Author.Tests.{eq-eqb, ne_eqb}
use lib.Dec.{eqb}
use Rattle.fieldfile_spec.specs.declared.format.Version.TheVariants as version
use Rattle.fieldfile_spec.specs.File.{version_number, version_of}
use Rattle.fieldfile_reader.proofs.version.version_at.Goals as goal

pub returns-then-pair_at-eq-VERSION_1 : goal.returns-then-pair_at-eq-VERSION_1
unfolding version_of
returns-then-pair_at-eq-VERSION_1 c = let h = ap (λ (x : ℕ). eqb x (version_number version.One)) (sym c.pair_at.ensures) ∙ eq-eqb _ (version_number version.One) c.if-pair_at-eq-VERSION_1.true in
    rw h

pub returns-else-pair_at-eq-VERSION_1 : goal.returns-else-pair_at-eq-VERSION_1
unfolding version_of
returns-else-pair_at-eq-VERSION_1 c = let h = ap (λ (x : ℕ). eqb x (version_number version.One)) (sym c.pair_at.ensures) ∙ ne_eqb _ (version_number version.One) c.if-pair_at-eq-VERSION_1.false in
    rw h
