-- `jibhotran_open` gives the row of a state just opened, or 24 or 255.
-- By what the library gives, where both rows are long enough.
use Rattle.wire_spec.specs.Result.{Result}
use Rattle.depacketizer.specs.declared.state.Depacketizer.{Depacketizer}
use mathlib.Core.Path.{◌≡◌, ap, sym, ◌∙◌}
use mathlib.Core.Bool.{true}
use Prim.Native.Nat.{◌≤◌}
use lib.ListN.{length}
use Rattle.wire_spec.specs.Bits.{overwrite}
use Rattle.capi_answer.specs.Rows.{answer_size}
use Rattle.capi_depacketizer.specs.Calls.{opened_in, opened_numbers, opened_reply, rows_fit}
use Rattle.capi_state.specs.State.{state_size, state_in}
use Rattle.capi_depacketizer.proofs.RowLaws.{rows_long}
use Rattle.capi_depacketizer.proofs.arrival.jibhotran_open.Goals as goal

pub returns-then-not-rows_fit : goal.returns-then-not-rows_fit
returns-then-not-rows_fit c = let h = sym c.rows_fit.ensures ∙ c.if-not-rows_fit.true in record { value = rw h; state_after = rw h; answer_after = rw h; state_after_2 = rw h }

pub refuse-requires : goal.refuse-requires
refuse-requires c = let fits : rows_fit (length c.args.state.now) (length c.args.answer.now) ≡ true = sym c.rows_fit.ensures ∙ c.if-not-rows_fit.false in
    let long : (state_size ≤ length c.args.state.now) × (answer_size ≤ length c.args.answer.now) = let a = c.args in rows_long (length a.state.now) (length a.answer.now) (fits) in
    (long).1

pub put_state-requires : goal.put_state-requires
put_state-requires c = let fits : rows_fit (length c.args.state.now) (length c.args.answer.now) ≡ true = sym c.rows_fit.ensures ∙ c.if-not-rows_fit.false in
    let long : (state_size ≤ length c.args.state.now) × (answer_size ≤ length c.args.answer.now) = let a = c.args in rows_long (length a.state.now) (length a.answer.now) (fits) in
    (long).0

pub returns-in-Err : goal.returns-in-Err
returns-in-Err c = let fits : rows_fit (length c.args.state.now) (length c.args.answer.now) ≡ true = sym c.rows_fit.ensures ∙ c.if-not-rows_fit.false in
    let a = c.args in
    let h = fits in
    let e = sym c.in-Err.is ∙ c.open-opened.ensures in record { value = rw h (c.refuse.ensures.value ∙ ap (λ (y : Result Depacketizer). (opened_reply y).number) e); state_after = rw h (ap (λ (y : Result Depacketizer). overwrite (opened_numbers y) a.state.now) e); answer_after = rw h (c.refuse.ensures.answer_after ∙ ap (λ (y : Result Depacketizer). overwrite (opened_reply y).row a.answer.now) e); state_after_2 = rw h (ap (λ (y : Result Depacketizer). opened_in y (state_in a.state.now)) e) }

pub returns-in-Ok : goal.returns-in-Ok
returns-in-Ok c = let fits : rows_fit (length c.args.state.now) (length c.args.answer.now) ≡ true = sym c.rows_fit.ensures ∙ c.if-not-rows_fit.false in
    let a = c.args in
    let h = fits in
    let e = sym c.in-Ok.is ∙ c.open-opened.ensures in record { value = rw h (ap (λ (y : Result Depacketizer). (opened_reply y).number) e); state_after = rw h (c.put_state.ensures.row_after ∙ ap (λ (y : Result Depacketizer). overwrite (opened_numbers y) a.state.now) e); answer_after = rw h (ap (λ (y : Result Depacketizer). overwrite (opened_reply y).row a.answer.now) e); state_after_2 = rw h (c.put_state.ensures.row_after_2 ∙ ap (λ (y : Result Depacketizer). opened_in y (state_in a.state.now)) e) }
