-- By whether octets are at hand.
use Rattle.std.proofs.Common.{List, ℕ, sym, subst, ◌∙◌}
use Rattle.fieldfile_scan.specs.Scan.{scan}
use Rattle.fielddiff_side.specs.declared.Side.{Side}
use Rattle.fielddiff_side.specs.Side.{Advanced, HeldReachable, behind_turn, unscanned}
use Rattle.fielddiff_side.proofs.SideLaws.{read-advanced, scan-advanced}
use Rattle.fielddiff_side.proofs.advance.Goals as goal

pub returns-then-is_short : goal.returns-then-is_short
returns-then-is_short c =
    let a = c.args in
    let p = c.requires.in_side in
    read-advanced a.side a.input.now p.0 a.store.now c.read_more.result c.read_more.new.input p.1 (sym c.is_short.ensures ∙ c.if-is_short.true) c.read_more.ensures

pub returns-else-is_short : goal.returns-else-is_short
returns-else-is_short c =
    let a = c.args in
    let p = c.requires.in_side in
    let st = c.in-Reading.state in
    let g = c.in-Reading.is in
    let w = unscanned a.side a.input.now in
    let t = c.scan_on in
    subst (λ (r : Side). Advanced a.side a.input.now a.store.now r a.input.now t.new.store) (sym t.ensures.value)
    (subst (λ (z : List ℕ). Advanced a.side a.input.now a.store.now (behind_turn a.side (scan st w)) a.input.now z) (sym t.ensures.store_after)
    (scan-advanced a.side a.input.now p.0 st a.store.now c.requires.max_field_cells_in_bounds g (subst HeldReachable g p.1) (sym c.is_short.ensures ∙ c.if-is_short.false)))
