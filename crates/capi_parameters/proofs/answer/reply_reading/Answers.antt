-- `reply_reading` gives what a text says, or its refusal.
-- By the answer.
use Rattle.wire_spec.specs.Result.{Result}
use Rattle.sdp_spec.specs.declared.parameters.Parameters.{Parameters}
use mathlib.Core.Path.{ap, sym, ◌∙◌}
use Rattle.wire_spec.specs.Bits.{overwrite}
use Rattle.capi_parameters.specs.Rows.{parameters_reply}
use Rattle.capi_parameters.proofs.answer.reply_reading.Goals as goal

pub returns-in-Err : goal.returns-in-Err
returns-in-Err c = let e = sym c.in-Err.is in
    record { value = c.refuse.ensures.value ∙ ap (λ (x : Result Parameters). (parameters_reply x).number) e; answer_after = c.refuse.ensures.answer_after ∙ ap (λ (x : Result Parameters). overwrite (parameters_reply x).row c.args.answer.now) e }

pub returns-in-Ok : goal.returns-in-Ok
returns-in-Ok c = let e = sym c.in-Ok.is in
    record { value = ap (λ (x : Result Parameters). (parameters_reply x).number) e; answer_after = c.put_parameters.ensures ∙ ap (λ (x : Result Parameters). overwrite (parameters_reply x).row c.args.answer.now) e }
