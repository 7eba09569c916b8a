-- `put_if` puts a line where the test holds.
-- By the test.
use native.Mathlib.Omega.{arith}
use Rattle.text.proofs.PutLaws.{nothing}
use Rattle.streamcheck_lines.proofs.put_if.Goals as goal

pub returns-then-test : goal.returns-then-test
returns-then-test c = rw c.if-test.true (record { put = c.put_numbered.ensures.put; upper_bound = c.put_numbered.ensures.upper_bound })

pub returns : goal.returns
returns c = rw c.if-test.false (record { put = nothing c.args.out.now c.args.at (omega (arith, c.requires)); upper_bound = omega arith })
