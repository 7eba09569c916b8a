-- `shared_octet` is what two neighbouring words put into the octet that they share.
-- By the factors of the two.
use Rattle.std.proofs.Common.{◌≡◌, ◌+◌, get_or, arith}
use Rattle.wire_row_writer.specs.Factors.{factors}
use Rattle.wire_row_writer.proofs.FactorLaws.{Shared, shared-fits}
use Rattle.wire_row_writer.proofs.row.shared_octet.Goals as goal

pub overflow_mul-result : goal.overflow_mul-result
overflow_mul-result c = let known : Shared c.args.a c.args.b (get_or factors c.args.j 0) (get_or factors (c.args.j + 1) 0) = shared-fits c.args.a c.args.b c.args.j c.requires.0 c.requires.1 c.requires.4 in
    let index : c.args.z + c.args.j ≡ c.args.j = omega arith in
    rw (c.requires.2, index) (omega (arith, (known).first))

pub overflow_mul-result-2 : goal.overflow_mul-result-2
overflow_mul-result-2 c = let known : Shared c.args.a c.args.b (get_or factors c.args.j 0) (get_or factors (c.args.j + 1) 0) = shared-fits c.args.a c.args.b c.args.j c.requires.0 c.requires.1 c.requires.4 in
    let index : c.args.z + c.args.j ≡ c.args.j = omega arith in
    rw (c.requires.2, index) (omega (arith, (known).second))

pub overflow_add-result-4 : goal.overflow_add-result-4
overflow_add-result-4 c = let known : Shared c.args.a c.args.b (get_or factors c.args.j 0) (get_or factors (c.args.j + 1) 0) = shared-fits c.args.a c.args.b c.args.j c.requires.0 c.requires.1 c.requires.4 in
    let index : c.args.z + c.args.j ≡ c.args.j = omega arith in
    rw (c.requires.2, index) (omega (arith, (known).octet))

pub overflow_cast-result : goal.overflow_cast-result
overflow_cast-result c = let known : Shared c.args.a c.args.b (get_or factors c.args.j 0) (get_or factors (c.args.j + 1) 0) = shared-fits c.args.a c.args.b c.args.j c.requires.0 c.requires.1 c.requires.4 in
    let index : c.args.z + c.args.j ≡ c.args.j = omega arith in
    rw (c.requires.2, index) (omega (arith, (known).octet))

pub returns : goal.returns
returns c = let index : c.args.z + c.args.j ≡ c.args.j = omega arith in
    rw (c.requires.2, index)
