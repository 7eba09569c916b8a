-- `jibhotran_line_read` reads a line, or gives 255.
-- By what the library gives, where the answer is long enough.
use Rattle.wire_spec.specs.Result.{Result}
use mathlib.Core.Path.{ap, ◌∙◌}
use borrow.Author.Tests.{le-leb, lt-leb}
use lib.ListN.{length}
use Rattle.wire_spec.specs.Bits.{overwrite}
use Rattle.sdi_spec.specs.declared.answer.ReadLine.{ReadLine}
use Rattle.capi_answer.specs.Rows.{answer_size}
use Rattle.capi_file.specs.Rows.{line_found_reply}
use Rattle.capi_file.proofs.line.jibhotran_line_read.Goals as goal

pub returns-then-answer-lt-ANSWER_SIZE : goal.returns-then-answer-lt-ANSWER_SIZE
returns-then-answer-lt-ANSWER_SIZE c = let h = lt-leb answer_size (length c.args.answer.now) c.if-answer-lt-ANSWER_SIZE.true in record { value = rw h; cells_after = rw h; answer_after = rw h }

pub returns : goal.returns
returns c = let a = c.args in
    let h = le-leb answer_size (length a.answer.now) c.if-answer-lt-ANSWER_SIZE.false in
    record { value = rw h (c.reply_line_read.ensures.value ∙ ap (λ (x : Result ReadLine). (line_found_reply x).number) c.read-read.ensures.value); cells_after = rw h c.read-read.ensures.cells_after; answer_after = rw h (c.reply_line_read.ensures.answer_after ∙ ap (λ (x : Result ReadLine). overwrite (line_found_reply x).row a.answer.now) c.read-read.ensures.value) }
