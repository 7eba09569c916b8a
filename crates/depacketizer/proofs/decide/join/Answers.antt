-- `join` decides what a packet that joins does.
-- By the limits; a packet over them by itself is over them with what is gathered.
use Rattle.std.proofs.Common.{◌≡◌, ◌+◌, ◌<◌, false, sym, ◌∙◌, arith}
use Rattle.wire_spec.specs.Writing.{max_field_cells}
use Rattle.depacketizer_spec.specs.Step.{fits}
use Rattle.depacketizer.proofs.DecideLaws.{over-cells}
use Rattle.depacketizer.proofs.decide.join.Goals as goal

pub returns-then-summary-gt-MAX_FIELD_CELLS : goal.returns-then-summary-gt-MAX_FIELD_CELLS
returns-then-summary-gt-MAX_FIELD_CELLS c = let a = c.args in
    let h : max_field_cells < a.cells + a.summary.cells = omega arith in
    rw (c.dropped.ensures, over-cells)

pub returns-then-not-fits : goal.returns-then-not-fits
returns-then-not-fits c = let a = c.args in
    let over : fits (a.records + a.summary.records) (a.cells + a.summary.cells) (a.packets + 1) a.room ≡ false =
    sym c.fits.ensures ∙ c.if-not-fits.true in
    rw (c.dropped-then-not-fits.ensures, over)

pub returns : goal.returns
returns c = rw (c.taken.ensures, sym c.fits.ensures ∙ c.if-not-fits.false)
