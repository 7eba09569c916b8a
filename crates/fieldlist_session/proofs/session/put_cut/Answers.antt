-- `put_cut` puts `cut` for a broken frame.
-- By what stands at the front.
use native.Mathlib.Omega.{arith}
use Rattle.text.specs.Text.{ascii}
use Rattle.text.proofs.PutLaws.{nothing}
use Rattle.fieldlist_session.specs.Session.{cut_text}
use Rattle.fieldlist_session.proofs.session.put_cut.Goals as goal

pub returns-in-Cut : goal.returns-in-Cut
unfolding cut_text ascii
returns-in-Cut c = rw c.in-Cut.is (record { put = c.put.ensures.put; upper_bound = omega (arith, c.put.ensures.value) })

pub returns-in-End : goal.returns-in-End
unfolding cut_text
returns-in-End c = rw c.in-End.is (record { put = nothing c.args.out.now 0 (omega arith); upper_bound = omega arith })

pub returns-in-Packet : goal.returns-in-Packet
unfolding cut_text
returns-in-Packet c = rw c.in-Packet.is (record { put = nothing c.args.out.now 0 (omega arith); upper_bound = omega arith })
