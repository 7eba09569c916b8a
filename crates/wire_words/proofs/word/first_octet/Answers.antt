-- `first_octet` is the first of two octets with a word put in.
-- Every step fits its type, at each of the seven places.
use Prim.Native.Nat.{◌*◌, ◌^◌, ◌%◌}
use native.Mathlib.Omega.{arith}
use Rattle.wire_words.proofs.Unit.{First, first_fits, first-is}
use Rattle.wire_words.proofs.word.first_octet.Goals as goal

known : (c : goal.Start) → First c.args.a c.args.w ((4 * 2 ^ c.args.m) % 65536) ((c.args.w * 2 ^ c.args.m) % 65536)
known c = first_fits c.args.m c.args.a c.args.w c.requires.0 c.ranges.a.fits c.requires.1

pub nonzero_div-result : goal.nonzero_div-result
nonzero_div-result c = (known c).pos

pub overflow_mul-result : goal.overflow_mul-result
overflow_mul-result c = omega (arith, (known c).cut)

pub overflow_add-result : goal.overflow_add-result
overflow_add-result c = omega (arith, (known c).whole)

pub overflow_cast-result-2 : goal.overflow_cast-result-2
overflow_cast-result-2 c = omega (arith, (known c).whole)

pub returns : goal.returns
returns c = λ b h. first-is c.args.m c.args.a b c.args.w c.requires.0 c.ranges.a.fits h c.requires.1
