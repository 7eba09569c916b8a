-- `fetch` reads the ten bits from a bit on.
-- By the quotient that ten bits are of the two octets that hold them.
use mathlib.Core.Path.{sym}
use native.Mathlib.Omega.{arith}
use Rattle.wire_spec.proofs.Window.{ten-at}
use Rattle.wire_words.proofs.word.fetch.Goals as goal

pub returns : goal.returns
returns c = let a = c.args in
    let p = c.requires in
    rw (c.pair.ensures, c.bits_behind.ensures)
    (sym (ten-at a.octets.now (λ j. (c.shared_slice_known-1.given j).fits) a.bit (omega arith) (omega arith)))
