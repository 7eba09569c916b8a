-- `second_octet` is the second of two octets with a word put in.
-- Every step fits its type, at each of the seven places.
use Prim.Native.Nat.{◌*◌, ◌^◌, ◌%◌}
use native.Mathlib.Omega.{arith}
use Rattle.wire_words.proofs.Unit.{Second, second_fits, second_is}
use Rattle.wire_words.proofs.word.second_octet.Goals as goal

known : (c : goal.Start) → Second c.args.b c.args.w ((1 * 2 ^ c.args.m) % 65536) ((c.args.w * 2 ^ c.args.m) % 65536)
known c = second_fits c.args.m c.args.b c.args.w c.requires.0 c.ranges.b.fits c.requires.1

pub nonzero_rem-result-2 : goal.nonzero_rem-result-2
nonzero_rem-result-2 c = (known c).pos

pub overflow_add-result : goal.overflow_add-result
overflow_add-result c = omega (arith, (known c).whole)

pub overflow_cast-result-2 : goal.overflow_cast-result-2
overflow_cast-result-2 c = omega (arith, (known c).whole)

pub returns : goal.returns
returns c = λ a. second_is c.args.m a c.args.b c.args.w c.requires.0 c.ranges.b.fits c.requires.1
