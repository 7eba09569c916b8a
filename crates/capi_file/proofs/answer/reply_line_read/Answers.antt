-- `reply_line_read` gives what was read from a line, or its refusal.
-- By the answer.
use Rattle.wire_spec.specs.Result.{Result}
use mathlib.Core.Path.{ap, sym, ◌∙◌}
use Rattle.sdi_spec.specs.declared.answer.ReadLine.{ReadLine}
use Rattle.wire_spec.specs.Bits.{overwrite}
use Rattle.capi_file.specs.Rows.{line_found_reply}
use Rattle.capi_file.proofs.answer.reply_line_read.Goals as goal

pub returns-in-Err : goal.returns-in-Err
returns-in-Err c = let e = sym c.in-Err.is in
    record { value = c.refuse.ensures.value ∙ ap (λ (x : Result ReadLine). (line_found_reply x).number) e; answer_after = c.refuse.ensures.answer_after ∙ ap (λ (x : Result ReadLine). overwrite (line_found_reply x).row c.args.answer.now) e }

pub returns-in-Ok : goal.returns-in-Ok
returns-in-Ok c = let e = sym c.in-Ok.is in
    record { value = ap (λ (x : Result ReadLine). (line_found_reply x).number) e; answer_after = c.put.ensures ∙ ap (λ (x : Result ReadLine). overwrite (line_found_reply x).row c.args.answer.now) e }
