-- `jibhotran_write` writes a packet, or gives 255 or 254.
-- By what the library gives, where the answer is long enough and the layout is one.
use mathlib.Core.Path.{ap, ◌∙◌}
use borrow.Author.Tests.{le-leb, lt-leb}
use lib.ListN.{length}
use Rattle.wire_spec.specs.Layout.{Layout}
use Rattle.wire_spec.specs.Bits.{overwrite}
use Rattle.wire_spec.specs.Writing.{write_content}
use Rattle.wire_spec.specs.Written.{octets_after, written_of}
use Rattle.rtp_writer.specs.Answers.{content_of}
use Rattle.capi_answer.specs.Rows.{answer_size, last_layout, written_reply}
use Rattle.capi_packet.specs.Calls.{head_of}
use Rattle.capi_packet.proofs.packet.jibhotran_write.Goals as goal

pub returns-then-answer-lt-ANSWER_SIZE : goal.returns-then-answer-lt-ANSWER_SIZE
returns-then-answer-lt-ANSWER_SIZE c = let h = lt-leb answer_size (length c.args.answer.now) c.if-answer-lt-ANSWER_SIZE.true in record { value = rw h; out_after = rw h; answer_after = rw h }

pub returns-then-layout-gt-LAST_LAYOUT : goal.returns-then-layout-gt-LAST_LAYOUT
returns-then-layout-gt-LAST_LAYOUT c = let h = le-leb answer_size (length c.args.answer.now) c.if-answer-lt-ANSWER_SIZE.false in
    let k = lt-leb c.args.layout last_layout c.if-layout-gt-LAST_LAYOUT.true in
    record { value = rw (h, k); out_after = rw (h, k); answer_after = rw (h, k) }

pub returns : goal.returns
returns c = let a = c.args in
    let head = head_of a.source a.payload_type a.marker a.number a.timestamp a.f in
    let h = le-leb answer_size (length a.answer.now) c.if-answer-lt-ANSWER_SIZE.false in
    let k = le-leb a.layout last_layout c.if-layout-gt-LAST_LAYOUT.false in
    let w0 = c.write-written.ensures.value ∙ ap (λ (y : Layout). written_of (write_content y (content_of head) a.cells.now (length a.out.now))) c.layout_of.ensures in
    let w1 = c.write-written.ensures.out_after ∙ ap (λ (y : Layout). octets_after (write_content y (content_of head) a.cells.now (length a.out.now)) a.out.now) c.layout_of.ensures in
    record { value = rw (h, k) (c.reply_written.ensures.value ∙ ap (λ x. (written_reply x).number) w0); out_after = rw (h, k) w1; answer_after = rw (h, k) (c.reply_written.ensures.answer_after ∙ ap (λ x. overwrite (written_reply x).row a.answer.now) w0) }
