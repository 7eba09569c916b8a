-- `put_decimal` puts a number's decimal digits.
-- The fewest digits of a number are the ones that the definition writes.
use mathlib.Core.Path.{◌≡◌, ap, ◌∙◌}
use native.Mathlib.Omega.{arith}
use lib.ListN.{length, take}
use Rattle.text.specs.Text.{decimal}
use Rattle.text.proofs.PutLaws.{same}
use Rattle.text.proofs.TextLaws.{length-decimal, fewest-is}
use Rattle.text.proofs.put_decimal.Goals as goal

pub put-requires : goal.put-requires
put-requires c = let text : take c.decimal-count.result c.decimal-count.new.out ≡ decimal c.args.n = let d = c.decimal-count in
    c.decimal-count.ensures.digits ∙ fewest-is d.result c.args.n (omega arith) c.decimal-count.ensures.len in
    omega (arith, ap length (text), length-decimal c.args.n)

pub returns : goal.returns
returns c = let text : take c.decimal-count.result c.decimal-count.new.out ≡ decimal c.args.n = let d = c.decimal-count in
    c.decimal-count.ensures.digits ∙ fewest-is d.result c.args.n (omega arith) c.decimal-count.ensures.len in
    let t = text in
    record { put = same t c.put.ensures.put; upper_bound = omega (arith, c.put.ensures.value, ap length t, length-decimal c.args.n) }
