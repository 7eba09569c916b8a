-- `state_in` gives the state whose numbers stand in a row, or that they are none.
-- By `is_state`: a number that passed fits its value.
use mathlib.Core.Path.{◌≡◌, sym, ◌∙◌}
use mathlib.Core.Bool.{true}
use native.Mathlib.Omega.{arith}
use Rattle.capi_state.specs.State.{is_state}
use Rattle.capi_state.proofs.StateLaws.{RowFits, fitting}
use Rattle.capi_state.proofs.state.state_in.Goals as goal

pub returns-then-not-is_state : goal.returns-then-not-is_state
returns-then-not-is_state c = rw (sym c.is_state.ensures ∙ c.if-not-is_state.true)

pub overflow_cast-result : goal.overflow_cast-result
overflow_cast-result c = let passes : is_state c.args.row.now ≡ true = sym c.is_state.ensures ∙ c.if-not-is_state.false in
    let fits : RowFits c.args.row.now = fitting _ (passes) in
    omega (arith, (fits).source)

pub overflow_cast-result-2 : goal.overflow_cast-result-2
overflow_cast-result-2 c = let passes : is_state c.args.row.now ≡ true = sym c.is_state.ensures ∙ c.if-not-is_state.false in
    let fits : RowFits c.args.row.now = fitting _ (passes) in
    omega (arith, (fits).type)

pub overflow_cast-result-3 : goal.overflow_cast-result-3
overflow_cast-result-3 c = let passes : is_state c.args.row.now ≡ true = sym c.is_state.ensures ∙ c.if-not-is_state.false in
    let fits : RowFits c.args.row.now = fitting _ (passes) in
    omega (arith, (fits).last)

pub overflow_cast-result-4 : goal.overflow_cast-result-4
overflow_cast-result-4 c = let passes : is_state c.args.row.now ≡ true = sym c.is_state.ensures ∙ c.if-not-is_state.false in
    let fits : RowFits c.args.row.now = fitting _ (passes) in
    omega (arith, (fits).timestamp)

pub overflow_cast-result-5 : goal.overflow_cast-result-5
overflow_cast-result-5 c = let passes : is_state c.args.row.now ≡ true = sym c.is_state.ensures ∙ c.if-not-is_state.false in
    let fits : RowFits c.args.row.now = fitting _ (passes) in
    omega (arith, (fits).f)

pub overflow_cast-result-6 : goal.overflow_cast-result-6
overflow_cast-result-6 c = let passes : is_state c.args.row.now ≡ true = sym c.is_state.ensures ∙ c.if-not-is_state.false in
    let fits : RowFits c.args.row.now = fitting _ (passes) in
    omega (arith, (fits).remembered)

pub returns : goal.returns
returns c = let passes : is_state c.args.row.now ≡ true = sym c.is_state.ensures ∙ c.if-not-is_state.false in
    rw (passes, c.phase_in.ensures)
