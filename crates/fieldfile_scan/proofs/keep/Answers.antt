-- `keep` writes the packet's cells behind those before it, where the field stays within the limits and the store has room.
-- By the two tests.
use mathlib.Core.Path.{sym, ◌∙◌}
use Rattle.wire_spec.specs.Layout.{rfc8331}
use Rattle.wire_spec.specs.Anc.{read_run}
use Rattle.wire_spec.proofs.ListLaws.{part-written}
use Rattle.anc_reader.specs.Answers.{run_cells}
use Rattle.fieldfile_scan.proofs.PacketLaws.{kept-over, kept-short, kept_whole}
use Rattle.fieldfile_scan.proofs.keep.Goals as goal

pub returns-then-not-within_limits : goal.returns-then-not-within_limits
returns-then-not-within_limits c = let a = c.args in
    let p = c.requires.accepted in
    kept-over a.part a.store.now a.cells (read_run rfc8331 0 1 a.window.now) p.0 p.1 (sym c.within_limits.ensures ∙ c.if-not-within_limits.true)

pub returns-then-store-end : goal.returns-then-store-end
returns-then-store-end c = let a = c.args in
    let p = c.requires.accepted in
    kept-short a.part a.store.now a.cells (read_run rfc8331 0 1 a.window.now) p.0 p.1 (sym c.within_limits.ensures ∙ c.if-not-within_limits.false) c.if-store-end.true

pub returns : goal.returns
returns c = let a = c.args in
    let p = c.requires.accepted in
    part-written a.part.cells a.store.now (run_cells (read_run rfc8331 0 1 a.window.now)) c.read_run.new.cells c.read_run.ensures
    ∙ kept_whole a.part a.store.now a.cells (read_run rfc8331 0 1 a.window.now) p.0 p.1 (sym c.within_limits.ensures ∙ c.if-not-within_limits.false) c.if-store-end.false
