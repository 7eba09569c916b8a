-- `name_ok` tells whether the file starts with `ANF`.
-- By the number that its first three octets write.
use mathlib.Core.Path.{ap}
use Prim.Native.Nat.{ℕ}
use native.Mathlib.Omega.{arith}
use lib.Dec.{eqb}
use Rattle.fieldfile_spec.specs.File.{file_name}
use Rattle.fieldfile_reader.proofs.HeadFields.{name-at}
use Rattle.fieldfile_reader.proofs.stages.name_ok.Goals as goal

pub overflow_mul-result : goal.overflow_mul-result
overflow_mul-result c = omega (arith, c.wide.ensures, c.shared_slice_known-1.given 0)

pub overflow_add-result : goal.overflow_add-result
overflow_add-result c = omega (arith, c.wide.ensures, c.wide-2.ensures, c.shared_slice_known-1.given 0, c.shared_slice_known-1.given 1)

pub overflow_mul-result-2 : goal.overflow_mul-result-2
overflow_mul-result-2 c = omega (arith, c.wide.ensures, c.wide-2.ensures, c.shared_slice_known-1.given 0, c.shared_slice_known-1.given 1)

pub overflow_add-result-2 : goal.overflow_add-result-2
overflow_add-result-2 c = omega (arith, c.wide.ensures, c.wide-2.ensures, c.wide-3.ensures, c.shared_slice_known-1.given 0, c.shared_slice_known-1.given 1, c.shared_slice_known-1.given 2)

pub returns : goal.returns
returns c = let s = c.args.file.now in
    rw (c.wide.ensures, c.wide-2.ensures, c.wide-3.ensures) (ap (λ (x : ℕ). eqb x file_name) (name-at s (λ j. (c.shared_slice_known-1.given j).fits) c.requires))
