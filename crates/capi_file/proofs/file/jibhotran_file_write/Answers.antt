-- `jibhotran_file_write` writes a field, or gives 255.
-- By what the library gives, where the answer is long enough.
use Rattle.wire_spec.specs.Result.{Result}
use Rattle.wire_spec.specs.declared.count.OctetCount.{OctetCount}
use mathlib.Core.Path.{ap, ◌∙◌}
use borrow.Author.Tests.{le-leb, lt-leb}
use lib.ListN.{length}
use Rattle.wire_spec.specs.Bits.{overwrite}
use Rattle.capi_answer.specs.Rows.{answer_size, written_reply}
use Rattle.capi_file.proofs.file.jibhotran_file_write.Goals as goal

pub returns-then-answer-lt-ANSWER_SIZE : goal.returns-then-answer-lt-ANSWER_SIZE
returns-then-answer-lt-ANSWER_SIZE c = let h = lt-leb answer_size (length c.args.answer.now) c.if-answer-lt-ANSWER_SIZE.true in record { value = rw h; out_after = rw h; answer_after = rw h }

pub returns : goal.returns
returns c = let a = c.args in
    let h = le-leb answer_size (length a.answer.now) c.if-answer-lt-ANSWER_SIZE.false in
    record { value = rw h (c.reply_written.ensures.value ∙ ap (λ (x : Result OctetCount). (written_reply x).number) c.write_field-written.ensures.value); out_after = rw h c.write_field-written.ensures.out_after; answer_after = rw h (c.reply_written.ensures.answer_after ∙ ap (λ (x : Result OctetCount). overwrite (written_reply x).row a.answer.now) c.write_field-written.ensures.value) }
