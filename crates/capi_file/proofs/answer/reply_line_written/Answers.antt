-- `reply_line_written` gives the answer of the writer of lines.
-- By the answer.
use Rattle.wire_spec.specs.Result.{Result}
use Rattle.std.specs.Prelude.{ℕ}
use mathlib.Core.Path.{ap, sym, ◌∙◌}
use Rattle.wire_spec.specs.Bits.{overwrite}
use Rattle.capi_file.specs.Rows.{line_written_reply}
use Rattle.capi_file.proofs.answer.reply_line_written.Goals as goal

pub returns-in-Err : goal.returns-in-Err
returns-in-Err c = let e = sym c.in-Err.is in
    record { value = c.refuse.ensures.value ∙ ap (λ (w : Result ℕ). (line_written_reply w).number) e; answer_after = c.refuse.ensures.answer_after ∙ ap (λ (w : Result ℕ). overwrite (line_written_reply w).row c.args.answer.now) e }

pub returns-in-Ok : goal.returns-in-Ok
returns-in-Ok c = let e = sym c.in-Ok.is in
    record { value = c.accept_size.ensures.value ∙ ap (λ (w : Result ℕ). (line_written_reply w).number) e; answer_after = c.accept_size.ensures.answer_after ∙ ap (λ (w : Result ℕ). overwrite (line_written_reply w).row c.args.answer.now) e }
