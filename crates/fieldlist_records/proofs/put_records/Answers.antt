-- By the record at the front of the cells that are left.
use Rattle.std.proofs.Common.{ap, sym, ◌+◌, arith, length-drop}
use Rattle.wire_spec.specs.Cells.{head_cells}
use Rattle.wire_spec.proofs.ListLaws.{part-all}
use Rattle.anc_record.proofs.FoundLaws.{found-starts}
use Rattle.anc_record.proofs.FrontLaws.{rest-is}
use Rattle.text.proofs.PutLaws.{same}
use Rattle.fieldlist_records.specs.Records.{record_text}
use Rattle.fieldlist_records.proofs.RecordsLeft.{all_left, none_left, next, header-there, words_of, left-same}
use Rattle.fieldlist_records.proofs.put_records.Goals as goal

pub loop-rest-init : goal.loop-rest-init
loop-rest-init c = record { room = c.requires.1; left = all_left c.args.out.now c.args.at c.args.cells.now c.requires.0 }

-- it has a header
pub returns-in_default : goal.returns-in_default
returns-in_default c =
    let l = c.loop-rest in
    absurd (header-there l.rest.now _ (next _ _ _ l.out l.rest.now l.to l.invariant.left c.loop-rest-test.true).passed (sym c.in_default.ensures))

pub slice_bounds-put_record-end : goal.slice_bounds-put_record-end
slice_bounds-put_record-end c = omega (arith, (found-starts c.loop-rest.rest.now 0 c.in-Ok.h (sym c.in-Ok.ensures)).inside)

pub put_record-to-requires-clause-words_value : goal.put_record-to-requires-clause-words_value
put_record-to-requires-clause-words_value c =
    let w = words_of _ _ (found-starts c.loop-rest.rest.now 0 c.in-Ok.h (sym c.in-Ok.ensures)) in
    (w.count, w.below)

pub put_record-to-requires-clause-words_in_bounds : goal.put_record-to-requires-clause-words_in_bounds
put_record-to-requires-clause-words_in_bounds c =
    let s = found-starts c.loop-rest.rest.now 0 c.in-Ok.h (sym c.in-Ok.ensures) in
    let w = words_of _ _ s in
    omega (arith, w.count, s.inside, c.loop-rest.invariant.room)

pub slice_bounds-rest-count : goal.slice_bounds-rest-count
slice_bounds-rest-count c = (found-starts c.loop-rest.rest.now 0 c.in-Ok.h (sym c.in-Ok.ensures)).inside

pub slice_bounds-rest-start : goal.slice_bounds-rest-start
slice_bounds-rest-start c = (found-starts c.loop-rest.rest.now 0 c.in-Ok.h (sym c.in-Ok.ensures)).inside

pub loop-rest-preserved : goal.loop-rest-preserved
loop-rest-preserved c =
    let l = c.loop-rest in
    let r = l.rest.now in
    let h = c.in-Ok.h in
    let s = found-starts r 0 h (sym c.in-Ok.ensures) in
    let w = words_of _ _ s in
    let p = c.put_record-to.ensures in
    let n = h.words.0 in
    record {
      room = rw (part-all (head_cells + n) r, length-drop (head_cells + n) r) (omega (arith, p.upper_bound, s.inside, w.count, l.invariant.room));
      left = left-same _ _ _ _ _ _ _ (rest-is r n s.count) ((next _ _ _ l.out r l.to l.invariant.left c.loop-rest-test.true).then _ _ (same (ap record_text w.whole) p.put));
    }

pub returns : goal.returns
returns c =
    let l = c.loop-rest in
    none_left _ _ _ l.out l.rest.now l.to l.invariant.left (omega (arith, l.invariant.room)) c.loop-rest-test.false
