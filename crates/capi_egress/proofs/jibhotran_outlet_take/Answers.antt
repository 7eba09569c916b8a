-- `jibhotran_outlet_take` does one call of the outlet whose state stands in a row, or gives 64 or 255.
-- By what the library gives of that state, where both rows are long enough.
use mathlib.Core.Path.{◌≡◌, ap, sym, ◌∙◌}
use mathlib.Core.Bool.{true}
use Prim.Native.Nat.{◌≤◌}
use lib.ListN.{length}
use Rattle.wire_spec.specs.declared.refusal.Refusal.{Refusal}
use Rattle.wire_spec.specs.Bits.{overwrite}
use Rattle.egress_spec.specs.declared.state.State.{State}
use Rattle.egress_spec.specs.Step.{take_of, taken_of}
use Rattle.capi_egress_state.specs.Row.{is_state, row_size, state_at}
use Rattle.capi_answer.specs.Rows.{answer_size, refused_reply}
use Rattle.capi_egress.specs.Calls.{Given, taken_at, rows_fit}
use Rattle.capi_egress.proofs.CallLaws.{at-short, at-state, at-unsound, handed-changed, rows_long, taken_at_lem}
use Rattle.capi_egress.proofs.jibhotran_outlet_take.Goals as goal

pub returns-then-not-rows_fit : goal.returns-then-not-rows_fit
returns-then-not-rows_fit c = let a = c.args in
    let g = at-short a.state.now a.answer.now a.out.now (taken_at (state_at a.state.now) a.memory.now a.out.now) (sym c.rows_fit.ensures ∙ c.if-not-rows_fit.true) in record { value = ap (λ (z : Given). z.reply.number) g; state_after = ap (λ (z : Given). overwrite z.numbers a.state.now) g; out_after = ap (λ (z : Given). z.lent) g; answer_after = ap (λ (z : Given). overwrite z.reply.row a.answer.now) g }

pub is_state-requires : goal.is_state-requires
is_state-requires c = let fits : rows_fit (length c.args.state.now) (length c.args.answer.now) ≡ true = sym c.rows_fit.ensures ∙ c.if-not-rows_fit.false in
    let long : (row_size ≤ length c.args.state.now) × (answer_size ≤ length c.args.answer.now) = rows_long _ _ (fits) in
    (long).0

pub refuse-requires : goal.refuse-requires
refuse-requires c = let fits : rows_fit (length c.args.state.now) (length c.args.answer.now) ≡ true = sym c.rows_fit.ensures ∙ c.if-not-rows_fit.false in
    let long : (row_size ≤ length c.args.state.now) × (answer_size ≤ length c.args.answer.now) = rows_long _ _ (fits) in
    (long).1

pub returns-then-not-is_state : goal.returns-then-not-is_state
returns-then-not-is_state c = let fits : rows_fit (length c.args.state.now) (length c.args.answer.now) ≡ true = sym c.rows_fit.ensures ∙ c.if-not-rows_fit.false in
    let a = c.args in
    let g = at-unsound a.state.now a.answer.now a.out.now (taken_at (state_at a.state.now) a.memory.now a.out.now) (fits) (sym c.is_state.ensures ∙ c.if-not-is_state.true) in
    record { value = c.refuse.ensures.value ∙ ap (λ (x : Refusal). (refused_reply x).number) c.unsound.ensures ∙ ap (λ (z : Given). z.reply.number) g; state_after = ap (λ (z : Given). overwrite z.numbers a.state.now) g; out_after = ap (λ (z : Given). z.lent) g; answer_after = c.refuse.ensures.answer_after ∙ ap (λ (x : Refusal). overwrite (refused_reply x).row a.answer.now) c.unsound.ensures ∙ ap (λ (z : Given). overwrite z.reply.row a.answer.now) g }

pub state_in-kept-requires : goal.state_in-kept-requires
state_in-kept-requires c = let fits : rows_fit (length c.args.state.now) (length c.args.answer.now) ≡ true = sym c.rows_fit.ensures ∙ c.if-not-rows_fit.false in
    let long : (row_size ≤ length c.args.state.now) × (answer_size ≤ length c.args.answer.now) = rows_long _ _ (fits) in
    let is : is_state c.args.state.now ≡ true = sym c.is_state.ensures ∙ c.if-not-is_state.false in
    ((long).0, is)

pub refuse-requires-in-Err : goal.refuse-requires-in-Err
refuse-requires-in-Err c = let fits : rows_fit (length c.args.state.now) (length c.args.answer.now) ≡ true = sym c.rows_fit.ensures ∙ c.if-not-rows_fit.false in
    let long : (row_size ≤ length c.args.state.now) × (answer_size ≤ length c.args.answer.now) = rows_long _ _ (fits) in
    (long).1

pub put_channel-requires : goal.put_channel-requires
put_channel-requires c = let fits : rows_fit (length c.args.state.now) (length c.args.answer.now) ≡ true = sym c.rows_fit.ensures ∙ c.if-not-rows_fit.false in
    let long : (row_size ≤ length c.args.state.now) × (answer_size ≤ length c.args.answer.now) = rows_long _ _ (fits) in
    let a = c.args in
    let held = length a.memory.now in
    let room = length a.out.now in
    let e = c.take-taken.ensures.value
    ∙ ap (λ (s : State). taken_of s (take_of s held room)) c.state_in-kept.ensures in
    handed-changed a.state.now (long).0 a.memory.now a.out.now _ e _ _ c.in-Ok.is

pub accept_taken-requires : goal.accept_taken-requires
accept_taken-requires c = let fits : rows_fit (length c.args.state.now) (length c.args.answer.now) ≡ true = sym c.rows_fit.ensures ∙ c.if-not-rows_fit.false in
    let long : (row_size ≤ length c.args.state.now) × (answer_size ≤ length c.args.answer.now) = rows_long _ _ (fits) in
    (long).1

pub returns-in-Err : goal.returns-in-Err
returns-in-Err c = let fits : rows_fit (length c.args.state.now) (length c.args.answer.now) ≡ true = sym c.rows_fit.ensures ∙ c.if-not-rows_fit.false in
    let is : is_state c.args.state.now ≡ true = sym c.is_state.ensures ∙ c.if-not-is_state.false in
    let a = c.args in
    let o = c.take-taken in
    let g = taken_at_lem (state_at a.state.now) _ c.state_in-kept.ensures a.memory.now a.out.now _ c.take-taken.new.out c.take-taken.ensures.value c.take-taken.ensures.out_after _ c.in-Err.is
    ∙ at-state a.state.now a.answer.now a.out.now (taken_at (state_at a.state.now) a.memory.now a.out.now) (fits) (is) in record { value = c.refuse-in-Err.ensures.value ∙ ap (λ (z : Given). z.reply.number) g; state_after = ap (λ (z : Given). overwrite z.numbers a.state.now) g; out_after = ap (λ (z : Given). z.lent) g; answer_after = c.refuse-in-Err.ensures.answer_after ∙ ap (λ (z : Given). overwrite z.reply.row a.answer.now) g }

pub returns-in-Ok : goal.returns-in-Ok
returns-in-Ok c = let fits : rows_fit (length c.args.state.now) (length c.args.answer.now) ≡ true = sym c.rows_fit.ensures ∙ c.if-not-rows_fit.false in
    let is : is_state c.args.state.now ≡ true = sym c.is_state.ensures ∙ c.if-not-is_state.false in
    let a = c.args in
    let o = c.take-taken in
    let g = taken_at_lem (state_at a.state.now) _ c.state_in-kept.ensures a.memory.now a.out.now _ c.take-taken.new.out c.take-taken.ensures.value c.take-taken.ensures.out_after _ c.in-Ok.is
    ∙ at-state a.state.now a.answer.now a.out.now (taken_at (state_at a.state.now) a.memory.now a.out.now) (fits) (is) in record { value = c.accept_taken.ensures.value ∙ ap (λ (z : Given). z.reply.number) g; state_after = c.put_channel.ensures ∙ ap (λ (z : Given). overwrite z.numbers a.state.now) g; out_after = ap (λ (z : Given). z.lent) g; answer_after = c.accept_taken.ensures.answer_after ∙ ap (λ (z : Given). overwrite z.reply.row a.answer.now) g }
