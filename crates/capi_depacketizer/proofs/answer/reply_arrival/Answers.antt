-- `reply_arrival` writes what became of an arrival to the answer.
-- By the answer of the library.
use mathlib.Core.Path.{ap, sym, ◌∙◌}
use Rattle.wire_spec.specs.Bits.{overwrite}
use Rattle.depacketizer_spec.specs.declared.state.Answer.{Answer}
use Rattle.capi_depacketizer.specs.Rows.{arrival_reply}
use Rattle.capi_depacketizer.proofs.answer.reply_arrival.Goals as goal

pub returns-in-Skipped : goal.returns-in-Skipped
returns-in-Skipped c = let e = sym c.in-Skipped.is in
    record { value = c.accept_kind.ensures.value ∙ ap (λ (y : Answer). (arrival_reply y).number) e; answer_after = c.accept_kind.ensures.answer_after ∙ ap (λ (y : Answer). overwrite (arrival_reply y).row c.args.answer.now) e }

pub returns-in-Held : goal.returns-in-Held
returns-in-Held c = let e = sym c.in-Held.is in
    record { value = c.accept_kind-in-Held.ensures.value ∙ ap (λ (y : Answer). (arrival_reply y).number) e; answer_after = c.accept_kind-in-Held.ensures.answer_after ∙ ap (λ (y : Answer). overwrite (arrival_reply y).row c.args.answer.now) e }

pub returns-in-Mixed : goal.returns-in-Mixed
returns-in-Mixed c = let e = sym c.in-Mixed.is in
    record { value = c.accept_kind-in-Mixed.ensures.value ∙ ap (λ (y : Answer). (arrival_reply y).number) e; answer_after = c.accept_kind-in-Mixed.ensures.answer_after ∙ ap (λ (y : Answer). overwrite (arrival_reply y).row c.args.answer.now) e }

pub returns-in-Overfull : goal.returns-in-Overfull
returns-in-Overfull c = let e = sym c.in-Overfull.is in
    record { value = c.accept_kind-in-Overfull.ensures.value ∙ ap (λ (y : Answer). (arrival_reply y).number) e; answer_after = c.accept_kind-in-Overfull.ensures.answer_after ∙ ap (λ (y : Answer). overwrite (arrival_reply y).row c.args.answer.now) e }

pub returns-in-Whole : goal.returns-in-Whole
returns-in-Whole c = let e = sym c.in-Whole.is in
    record { value = ap (λ (y : Answer). (arrival_reply y).number) e; answer_after = c.put_whole.ensures ∙ ap (λ (y : Answer). overwrite (arrival_reply y).row c.args.answer.now) e }

pub returns-in-Refused : goal.returns-in-Refused
returns-in-Refused c = let e = sym c.in-Refused.is in
    record { value = c.refuse.ensures.value ∙ ap (λ (y : Answer). (arrival_reply y).number) e; answer_after = c.refuse.ensures.answer_after ∙ ap (λ (y : Answer). overwrite (arrival_reply y).row c.args.answer.now) e }
