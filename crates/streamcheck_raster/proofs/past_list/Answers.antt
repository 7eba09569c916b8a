use mathlib.Core.Path.{◌≡◌, ap, sym, ◌∙◌}
use Prim.Native.Nat.{◌+◌}
use native.Mathlib.Omega.{arith}
use lib.ListN.{length-drop}
use Rattle.wire_spec.specs.Cells.{head_cells, cell_record, read_list}
use Rattle.wire_spec.proofs.ListLaws.{part-all}
use Rattle.anc_record.specs.declared.header.Header.{Header}
use Rattle.anc_record.specs.Header.{header_of}
use Rattle.anc_record.proofs.FoundLaws.{Starts, found-starts}
use Rattle.anc_record.proofs.FrontLaws.{rest-is}
use Rattle.streamcheck_spec.specs.Code.{past, past_list}
use Rattle.streamcheck_raster.proofs.RecordsLeft.{Next, all_left, none_left, next, header_is, header-there, left-same}
use Rattle.streamcheck_raster.proofs.past_list.Goals as goal

pub loop-rest-init : goal.loop-rest-init
loop-rest-init c = all_left c.args.scan c.args.cells.now c.requires

-- it has a header
pub returns-in_default : goal.returns-in_default
returns-in_default c = let next_here : let a = c.args in let l = c.loop-rest in Next (past_list a.scan (read_list a.cells.now)) l.rest.now l.scan = let l = c.loop-rest in next _ l.rest.now l.scan l.invariant c.loop-rest-test.true in
    absurd (header-there c.loop-rest.rest.now _ (next_here).passed (sym c.at.ensures ∙ c.in_default.is))

pub offset_bounds-rest-end : goal.offset_bounds-rest-end
offset_bounds-rest-end c = let starts : Starts c.loop-rest.rest.now c.in-Ok.h = found-starts _ 0 _ (sym c.at.ensures ∙ c.in-Ok.is) in
    omega (arith, (starts).inside)

pub slice_bounds-rest-count : goal.slice_bounds-rest-count
slice_bounds-rest-count c = let starts : Starts c.loop-rest.rest.now c.in-Ok.h = found-starts _ 0 _ (sym c.at.ensures ∙ c.in-Ok.is) in
    (starts).inside

pub slice_bounds-rest-start : goal.slice_bounds-rest-start
slice_bounds-rest-start c = let starts : Starts c.loop-rest.rest.now c.in-Ok.h = found-starts _ 0 _ (sym c.at.ensures ∙ c.in-Ok.is) in
    (starts).inside

pub loop-rest-smaller : goal.loop-rest-smaller
loop-rest-smaller c = let r = c.loop-rest.rest.now in
    let k = head_cells + c.in-Ok.h.words.0 in
    rw (part-all k r, length-drop k r) (omega (arith, c.loop-rest-test.true))

pub loop-rest-preserved : goal.loop-rest-preserved
loop-rest-preserved c = let next_here : let a = c.args in let l = c.loop-rest in Next (past_list a.scan (read_list a.cells.now)) l.rest.now l.scan = let l = c.loop-rest in next _ l.rest.now l.scan l.invariant c.loop-rest-test.true in
    let starts : Starts c.loop-rest.rest.now c.in-Ok.h = found-starts _ 0 _ (sym c.at.ensures ∙ c.in-Ok.is) in
    let l = c.loop-rest in
    let r = l.rest.now in
    let s = starts in
    let e : header_of (cell_record r) ≡ c.in-Ok.h = header_is r c.in-Ok.h (next_here).passed (sym c.at.ensures ∙ c.in-Ok.is) in
    left-same _ _ _ _ _ (rest-is r c.in-Ok.h.words.0 s.count) (c.past-scan.ensures ∙ ap (λ (x : Header). past l.scan x.location) (sym e)) (next_here).then

pub returns : goal.returns
returns c = let l = c.loop-rest in
    none_left _ l.rest.now l.scan l.invariant c.loop-rest-test.false
