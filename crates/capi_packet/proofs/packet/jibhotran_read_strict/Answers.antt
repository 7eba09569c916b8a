-- `jibhotran_read_strict` reads a packet in the strict way, or gives 255 or 254.
-- By what the library gives, where the answer is long enough and the layout is one.
use mathlib.Core.Path.{ap, ◌∙◌}
use borrow.Author.Tests.{le-leb, lt-leb}
use lib.ListN.{length}
use Rattle.wire_spec.specs.Layout.{Layout}
use Rattle.wire_spec.specs.Bits.{overwrite}
use Rattle.wire_spec.specs.Packet.{read_into}
use Rattle.rtp_strict_reader.specs.Answers.{read_of, cells_after}
use Rattle.rtp_reader.specs.Answers.{strict_of}
use Rattle.capi_answer.specs.Rows.{answer_size, last_layout}
use Rattle.capi_packet.specs.Rows.{packet_reply}
use Rattle.capi_packet.proofs.packet.jibhotran_read_strict.Goals as goal

pub returns-then-answer-lt-ANSWER_SIZE : goal.returns-then-answer-lt-ANSWER_SIZE
returns-then-answer-lt-ANSWER_SIZE c = let h = lt-leb answer_size (length c.args.answer.now) c.if-answer-lt-ANSWER_SIZE.true in record { value = rw h; cells_after = rw h; answer_after = rw h }

pub returns-then-layout-gt-LAST_LAYOUT : goal.returns-then-layout-gt-LAST_LAYOUT
returns-then-layout-gt-LAST_LAYOUT c = let h = le-leb answer_size (length c.args.answer.now) c.if-answer-lt-ANSWER_SIZE.false in
    let k = lt-leb c.args.layout last_layout c.if-layout-gt-LAST_LAYOUT.true in
    record { value = rw (h, k); cells_after = rw (h, k); answer_after = rw (h, k) }

pub returns : goal.returns
returns c = let a = c.args in
    let h = le-leb answer_size (length a.answer.now) c.if-answer-lt-ANSWER_SIZE.false in
    let k = le-leb a.layout last_layout c.if-layout-gt-LAST_LAYOUT.false in
    let w0 = c.strictly.ensures ∙ ap strict_of (c.read_strict-read.ensures.value ∙ ap (λ (y : Layout). read_of (read_into y a.octets.now (length a.cells.now))) c.layout_of.ensures) in
    let w1 = c.read_strict-read.ensures.cells_after ∙ ap (λ (y : Layout). cells_after (read_into y a.octets.now (length a.cells.now)) a.cells.now) c.layout_of.ensures in
    record { value = rw (h, k) (c.reply_read.ensures.value ∙ ap (λ x. (packet_reply x).number) w0); cells_after = rw (h, k) w1; answer_after = rw (h, k) (c.reply_read.ensures.answer_after ∙ ap (λ x. overwrite (packet_reply x).row a.answer.now) w0) }
