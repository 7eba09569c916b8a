-- `text_size` counts the octets of a text.
-- By the sizes of its items.
use native.Mathlib.Omega.{arith}
use Rattle.sdp_spec.proofs.WritingLaws.{codes-few, text-size}
use Rattle.sdp_writer.proofs.text_size.Goals as goal

pub overflow_add-size : goal.overflow_add-size
overflow_add-size c = omega (arith, c.code_size.ensures, codes-few c.args.vpid)

pub returns-then-size-eq0 : goal.returns-then-size-eq0
returns-then-size-eq0 c = omega (arith, c.code_size.ensures, text-size c.args.pairs.now c.args.vpid c.requires.0)

pub returns : goal.returns
returns c = omega (arith, c.code_size.ensures, text-size c.args.pairs.now c.args.vpid c.requires.0)
