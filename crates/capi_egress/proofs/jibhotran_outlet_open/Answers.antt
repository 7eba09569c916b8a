-- `jibhotran_outlet_open` gives the row of an outlet that holds nothing, or 255.
-- By the row's length.
use mathlib.Core.Path.{ap, sym, ◌∙◌}
use mathlib.Core.Bool.{Bool, cond}
use mathlib.Core.List.{[]}
use borrow.Author.Tests.{le-leb, lt-leb}
use lib.ListN.{length}
use Rattle.wire_spec.specs.Bits.{overwrite}
use Rattle.egress_spec.specs.declared.state.State.{State}
use Rattle.egress_spec.specs.Places.{open_state}
use Rattle.capi_egress_state.specs.Row.{numbers_of, row_size}
use Rattle.capi_answer.specs.Rows.{row_too_short}
use Rattle.capi_egress.proofs.jibhotran_outlet_open.Goals as goal

pub returns-then-state-lt-STATE_SIZE : goal.returns-then-state-lt-STATE_SIZE
returns-then-state-lt-STATE_SIZE c = let row = c.args.state.now in
    let h = lt-leb row_size (length row) c.if-state-lt-STATE_SIZE.true in
    record { value = sym (ap (λ (t : Bool). cond t 0 row_too_short) h); state_after = sym (ap (λ (t : Bool). overwrite (cond t (numbers_of open_state) []) row) h) }

pub returns : goal.returns
returns c = let row = c.args.state.now in
    let h = le-leb row_size (length row) c.if-state-lt-STATE_SIZE.false in record { value = sym (ap (λ (t : Bool). cond t 0 row_too_short) h); state_after = c.put_state.ensures ∙ ap (λ (s : State). overwrite (numbers_of s) row) c.open-opened.ensures ∙ sym (ap (λ (t : Bool). overwrite (cond t (numbers_of open_state) []) row) h) }
