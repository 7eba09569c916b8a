-- `put_field` puts a field's octets where the file takes it, and else nothing.
-- By what the writer answers, for the cells that the store has.
use mathlib.Core.Path.{sym}
use native.Mathlib.Omega.{arith}
use lib.ListN.{take}
use lib.Seq.{length-take-le}
use Rattle.fieldsave_session.proofs.FieldLaws.{put_written, take-least}
use Rattle.fieldsave_session.proofs.put_field.Goals as goal

pub slice_bounds-write_field-end : goal.slice_bounds-write_field-end
slice_bounds-write_field-end c = sym (length-take-le c.least-end.result c.args.store.now (omega (arith, c.least-end.ensures)))

pub returns : goal.returns
returns c = let a = c.args in
    let l = c.least-end in
    let w = c.write_field in
    put_written a.field (take l.result a.store.now) a.out.now c.requires a.store.now (take-least a.field.cells l.result a.store.now c.least-end.ensures) w.result _ _ c.write_field.ensures.value c.write_field.ensures.out_after c.octets_of.ensures
