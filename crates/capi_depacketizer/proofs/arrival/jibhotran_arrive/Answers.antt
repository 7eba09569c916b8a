-- `jibhotran_arrive` does one step of the state in a row, or gives 35, 254 or 255.
-- By what the library gives of the state that the row is, where both rows are long enough.
use Rattle.std.specs.Prelude.{Option, Some}
use Rattle.depacketizer_spec.specs.declared.state.State.{State}
use mathlib.Core.Path.{◌≡◌, ap, sym, ◌∙◌}
use mathlib.Core.Bool.{true}
use borrow.Author.Tests.{le-leb, lt-leb}
use lib.ListN.{length}
use Rattle.wire_spec.specs.Bits.{overwrite}
use Rattle.wire_spec.specs.Layout.{Layout}
use Rattle.depacketizer_spec.specs.Step.{step}
use Rattle.depacketizer.specs.Answers.{arrival_of}
use Rattle.depacketizer.specs.declared.state.Arrival.{Arrival}
use Rattle.capi_answer.specs.Rows.{answer_size, last_layout, layout_of}
use Rattle.capi_depacketizer.specs.Calls.{Arrived, arrived_at, rows_fit, state_after}
use Rattle.capi_depacketizer.specs.Rows.{arrival_reply}
use Rattle.capi_state.specs.State.{state_size, numbers_of}
use Prim.Native.Nat.{◌≤◌}
use Rattle.capi_depacketizer.proofs.RowLaws.{rows_long}
use Rattle.capi_depacketizer.proofs.arrival.jibhotran_arrive.Goals as goal

pub returns-then-not-rows_fit : goal.returns-then-not-rows_fit
returns-then-not-rows_fit c = let h = sym c.rows_fit.ensures ∙ c.if-not-rows_fit.true in record { value = rw h; state_after = rw h; store_after = rw h; answer_after = rw h; state_after_2 = rw h }

pub returns-then-layout-gt-LAST_LAYOUT : goal.returns-then-layout-gt-LAST_LAYOUT
returns-then-layout-gt-LAST_LAYOUT c = let fits : rows_fit (length c.args.state.now) (length c.args.answer.now) ≡ true = sym c.rows_fit.ensures ∙ c.if-not-rows_fit.false in
    let h = fits in
    let k = lt-leb c.args.layout last_layout c.if-layout-gt-LAST_LAYOUT.true in
    record { value = rw (h, k); state_after = rw (h, k); store_after = rw (h, k); answer_after = rw (h, k); state_after_2 = rw (h, k) }

pub state_in-restored-requires : goal.state_in-restored-requires
state_in-restored-requires c = let fits : rows_fit (length c.args.state.now) (length c.args.answer.now) ≡ true = sym c.rows_fit.ensures ∙ c.if-not-rows_fit.false in
    let long : (state_size ≤ length c.args.state.now) × (answer_size ≤ length c.args.answer.now) = let a = c.args in rows_long (length a.state.now) (length a.answer.now) (fits) in
    (long).0

pub refuse-requires : goal.refuse-requires
refuse-requires c = let fits : rows_fit (length c.args.state.now) (length c.args.answer.now) ≡ true = sym c.rows_fit.ensures ∙ c.if-not-rows_fit.false in
    let long : (state_size ≤ length c.args.state.now) × (answer_size ≤ length c.args.answer.now) = let a = c.args in rows_long (length a.state.now) (length a.answer.now) (fits) in
    (long).1

pub put_state-requires : goal.put_state-requires
put_state-requires c = let fits : rows_fit (length c.args.state.now) (length c.args.answer.now) ≡ true = sym c.rows_fit.ensures ∙ c.if-not-rows_fit.false in
    let long : (state_size ≤ length c.args.state.now) × (answer_size ≤ length c.args.answer.now) = let a = c.args in rows_long (length a.state.now) (length a.answer.now) (fits) in
    (long).0

pub reply_arrival-requires : goal.reply_arrival-requires
reply_arrival-requires c = let fits : rows_fit (length c.args.state.now) (length c.args.answer.now) ≡ true = sym c.rows_fit.ensures ∙ c.if-not-rows_fit.false in
    let long : (state_size ≤ length c.args.state.now) × (answer_size ≤ length c.args.answer.now) = let a = c.args in rows_long (length a.state.now) (length a.answer.now) (fits) in
    (long).1

pub returns-in-None : goal.returns-in-None
returns-in-None c = let fits : rows_fit (length c.args.state.now) (length c.args.answer.now) ≡ true = sym c.rows_fit.ensures ∙ c.if-not-rows_fit.false in
    let a = c.args in
    let h = fits in
    let k = le-leb a.layout last_layout c.if-layout-gt-LAST_LAYOUT.false in
    let L = layout_of a.layout in
    let r = sym c.in-None.is ∙ c.state_in-restored.ensures in
    let e = ap (λ (x : Option State). arrived_at L x a.octets.now a.store.now) r in record { value = rw (h, k) (c.refuse.ensures.value ∙ ap (λ (y : Arrived). y.reply.number) e); state_after = rw (h, k) (ap (λ (y : Arrived). overwrite y.numbers a.state.now) e); store_after = rw (h, k) (ap (λ (y : Arrived). y.store) e); answer_after = rw (h, k) (c.refuse.ensures.answer_after ∙ ap (λ (y : Arrived). overwrite y.reply.row a.answer.now) e); state_after_2 = rw (h, k) (sym r ∙ ap (λ (x : Option State). state_after L x a.octets.now a.store.now) r) }

pub returns-in-Some : goal.returns-in-Some
returns-in-Some c = let fits : rows_fit (length c.args.state.now) (length c.args.answer.now) ≡ true = sym c.rows_fit.ensures ∙ c.if-not-rows_fit.false in
    let a = c.args in
    let h = fits in
    let k = le-leb a.layout last_layout c.if-layout-gt-LAST_LAYOUT.false in
    let L = layout_of a.layout in
    let r = sym c.in-Some.is ∙ c.state_in-restored.ensures in
    let e = ap (λ (x : Option State). arrived_at L x a.octets.now a.store.now) r in
    let s0 = c.arrive-arrival.ensures.value ∙ ap (λ (y : Layout). arrival_of (step c.in-Some.kept y a.octets.now a.store.now)) c.layout_of.ensures in
    let s1 = c.arrive-arrival.ensures.store_after ∙ ap (λ (y : Layout). (step c.in-Some.kept y a.octets.now a.store.now).store) c.layout_of.ensures in record { value = rw (h, k) (c.reply_arrival.ensures.value ∙ ap (λ (y : Arrival). (arrival_reply y.answer).number) s0 ∙ ap (λ (y : Arrived). y.reply.number) e); state_after = rw (h, k) (c.put_state.ensures.row_after ∙ ap (λ (y : Arrival). overwrite (numbers_of y.state.state) a.state.now) s0 ∙ ap (λ (y : Arrived). overwrite y.numbers a.state.now) e); store_after = rw (h, k) (s1 ∙ ap (λ (y : Arrived). y.store) e); answer_after = rw (h, k) (c.reply_arrival.ensures.answer_after ∙ ap (λ (y : Arrival). overwrite (arrival_reply y.answer).row a.answer.now) s0 ∙ ap (λ (y : Arrived). overwrite y.reply.row a.answer.now) e); state_after_2 = rw (h, k) (c.put_state.ensures.row_after_2 ∙ ap (λ (y : Arrival). Some y.state.state) s0 ∙ ap (λ (x : Option State). state_after L x a.octets.now a.store.now) r) }
