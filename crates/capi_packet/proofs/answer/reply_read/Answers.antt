-- `reply_read` gives what a packet says, or its refusal.
-- By the answer.
use Rattle.wire_spec.specs.Result.{Result}
use mathlib.Core.Path.{ap, sym, ◌∙◌}
use Rattle.rtp_reader.specs.declared.packet.TolerantRead.{TolerantRead}
use Rattle.wire_spec.specs.Bits.{overwrite}
use Rattle.capi_packet.specs.Rows.{packet_reply}
use Rattle.capi_packet.proofs.answer.reply_read.Goals as goal

pub returns-in-Err : goal.returns-in-Err
returns-in-Err c = let e = sym c.in-Err.is in
    record { value = c.refuse.ensures.value ∙ ap (λ (x : Result TolerantRead). (packet_reply x).number) e; answer_after = c.refuse.ensures.answer_after ∙ ap (λ (x : Result TolerantRead). overwrite (packet_reply x).row c.args.answer.now) e }

pub returns-in-Ok : goal.returns-in-Ok
returns-in-Ok c = let e = sym c.in-Ok.is in
    record { value = ap (λ (x : Result TolerantRead). (packet_reply x).number) e; answer_after = c.put_summary.ensures ∙ ap (λ (x : Result TolerantRead). overwrite (packet_reply x).row c.args.answer.now) e }
