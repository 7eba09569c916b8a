-- `jibhotran_sdp_read` reads a text, or gives 255.
-- By what the library gives, where the answer is long enough.
use Rattle.wire_spec.specs.Result.{Result}
use Rattle.sdp_spec.specs.declared.parameters.Parameters.{Parameters}
use mathlib.Core.Path.{ap, ◌∙◌}
use borrow.Author.Tests.{le-leb, lt-leb}
use lib.ListN.{length}
use Rattle.wire_spec.specs.Bits.{overwrite}
use Rattle.capi_answer.specs.Rows.{answer_size}
use Rattle.capi_parameters.specs.Rows.{parameters_reply}
use Rattle.capi_parameters.proofs.parameters.jibhotran_sdp_read.Goals as goal

pub returns-then-answer-lt-ANSWER_SIZE : goal.returns-then-answer-lt-ANSWER_SIZE
returns-then-answer-lt-ANSWER_SIZE c = let h = lt-leb answer_size (length c.args.answer.now) c.if-answer-lt-ANSWER_SIZE.true in record { value = rw h; pairs_after = rw h; answer_after = rw h }

pub returns : goal.returns
returns c = let a = c.args in
    let h = le-leb answer_size (length a.answer.now) c.if-answer-lt-ANSWER_SIZE.false in
    record { value = rw h (c.reply_reading.ensures.value ∙ ap (λ (x : Result Parameters). (parameters_reply x).number) c.read-reading.ensures.value); pairs_after = rw h c.read-reading.ensures.pairs_after; answer_after = rw h (c.reply_reading.ensures.answer_after ∙ ap (λ (x : Result Parameters). overwrite (parameters_reply x).row a.answer.now) c.read-reading.ensures.value) }
