-- `put_left_out` puts how many fragments and cut packets there were.
-- By whether there were any.
use native.Mathlib.Omega.{arith}
use Rattle.text.specs.Text.{ascii}
use Rattle.text.proofs.PutLaws.{nothing}
use Rattle.pcapframes_spec.specs.Told.{left_out_text}
use Rattle.pcapframes_session.proofs.told.put_left_out.Goals as goal

pub returns-then-fragments-cut : goal.returns-then-fragments-cut
unfolding left_out_text ascii
returns-then-fragments-cut c = rw c.if-fragments-cut.true (record { put = c.put_line.ensures.put; upper_bound = c.put_line.ensures.upper_bound })

pub returns : goal.returns
unfolding left_out_text
returns c = rw c.if-fragments-cut.false (record { put = nothing _ _ (omega arith); upper_bound = omega arith })
