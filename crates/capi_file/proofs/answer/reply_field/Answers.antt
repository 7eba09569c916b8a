-- `reply_field` gives what a field of a file says, or its refusal.
-- By the answer.
use Rattle.wire_spec.specs.Result.{Result}
use Rattle.fieldfile_reader.specs.declared.field.Summary.{Summary}
use mathlib.Core.Path.{ap, sym, ◌∙◌}
use Rattle.wire_spec.specs.Bits.{overwrite}
use Rattle.capi_file.specs.Rows.{field_reply}
use Rattle.capi_file.proofs.answer.reply_field.Goals as goal

pub returns-in-Err : goal.returns-in-Err
returns-in-Err c = let e = sym c.in-Err.is in
    record { value = c.refuse.ensures.value ∙ ap (λ (x : Result Summary). (field_reply x).number) e; answer_after = c.refuse.ensures.answer_after ∙ ap (λ (x : Result Summary). overwrite (field_reply x).row c.args.answer.now) e }

pub returns-in-Ok : goal.returns-in-Ok
returns-in-Ok c = let e = sym c.in-Ok.is in
    record { value = ap (λ (x : Result Summary). (field_reply x).number) e; answer_after = c.put_field.ensures ∙ ap (λ (x : Result Summary). overwrite (field_reply x).row c.args.answer.now) e }
