-- `put_state` writes the numbers of a state to the first of a row, which is that state again.
-- By what `phase_number`, `flag` and `put` give, and by the types of the numbers.
use mathlib.Core.Path.{◌≡◌, ap, ◌∙◌}
use native.Mathlib.Omega.{arith}
use lib.ListN.{drop}
use Rattle.wire_spec.specs.Bits.{overwrite}
use Rattle.capi_state.specs.State.{state_size, numbers_of, state_in}
use Rattle.capi_state.proofs.StateLaws.{RowFits, phase-known, heard-known, state-again}
use Rattle.capi_state.proofs.state.put_state.Goals as goal

pub returns : goal.returns
returns c = let a = c.args in
    let e : c.put.new.row ≡ overwrite (numbers_of a.state) a.row.now = rw (← c.phase_number.ensures, ← c.flag.ensures, ← c.flag-2.ensures) c.put.ensures in
    let v : RowFits (numbers_of a.state) =
    record {
      source = omega (arith, c.struct_known-1.given);
      type = omega (arith, c.struct_known-2-1.given);
      phase = phase-known a.state.phase;
      heard = heard-known a.state.heard;
      last = omega (arith, c.struct_known-3-1.given);
      timestamp = omega (arith, c.struct_known-4-1.given);
      f = omega (arith, c.struct_known-5-1.given);
      remembers = heard-known a.state.remembers;
      remembered = omega (arith, c.struct_known-6-1.given);
    } in
    record { row_after = e; row_after_2 = ap state_in e ∙ state-again a.state (drop state_size a.row.now) v }
