-- A turn uses no more octets than are at hand.
use Rattle.std.proofs.Common.{ap, ◌∙◌, arith}
use Rattle.fielddiff_side.specs.Side.{used_of}
use Rattle.fielddiff_side.proofs.SideLaws.{turn-fits}
use Rattle.fielddiff_side.proofs.scan_on.Goals as goal

pub overflow_add-result : goal.overflow_add-result
overflow_add-result c =
    let a = c.args in
    let u = c.used_of.ensures ∙ ap used_of c.turn-scanned.ensures.value in
    omega (arith, turn-fits a.side a.input.now c.requires.0 a.state c.requires.1, u)
