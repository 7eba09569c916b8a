-- `scan_part` reads the next packet, or says what stands behind the last.
-- By whether one is left.
use mathlib.Core.Path.{sym, ◌∙◌}
use Rattle.fieldfile_scan.proofs.PacketLaws.{none_left, one_left}
use Rattle.fieldfile_scan.proofs.scan_part.Goals as goal

pub returns-then-part-eq0 : goal.returns-then-part-eq0
returns-then-part-eq0 c = let a = c.args in
    let e = none_left a.part.left a.part a.window.now a.store.now c.if-part-eq0.true in
    record { value = c.finish.ensures ∙ sym e.0; store_after = sym e.1 }

pub returns : goal.returns
returns c = let a = c.args in
    let e = one_left a.part.left a.part a.window.now a.store.now c.if-part-eq0.false in
    record { value = c.scan_packet.ensures.value ∙ sym e.0; store_after = c.scan_packet.ensures.store_after ∙ sym e.1 }
