-- `is_sound` tests a state for 35.
-- By the phase.
use Rattle.std.proofs.Common.{◌&&◌, eqb}
use mathlib.Core.Bool.{and-true, or-true, or-false}
use Rattle.depacketizer.proofs.admit.is_sound.Goals as goal

pub returns-in-Lost : goal.returns-in-Lost
returns-in-Lost c = let a = c.args in
    rw (c.fits-within.ensures, c.in-Lost.is, or-true a.state.heard, and-true (eqb a.state.records 0 && eqb a.state.cells 0))

pub returns-in-Ready : goal.returns-in-Ready
returns-in-Ready c = let a = c.args in
    rw (c.fits-within.ensures, c.in-Ready.is, or-false a.state.heard)

pub returns-in-Filling : goal.returns-in-Filling
returns-in-Filling c = let a = c.args in
    rw (c.fits-within.ensures, c.in-Filling.is, or-false a.state.heard)
