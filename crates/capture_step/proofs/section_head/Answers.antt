-- `section_head` is the head of a section.
-- By its extent.
use Rattle.std.proofs.lemmas.Result.{err_from_is_err_and}
use mathlib.Core.Path.{ap, sym, ◌∙◌}
use Rattle.capture_spec.specs.Step.{section_head}
use Rattle.capture_step.proofs.section_head.Goals as goal

pub returns-in_err-used : goal.returns-in_err-used
returns-in_err-used c =
    let p = err_from_is_err_and c.from_residual.result c.from_residual.ensures.1 in
    rw (p.1, p.2) (ap (section_head c.args.order) (sym c.in_err-used.was ∙ c.block_extent.ensures))

pub returns : goal.returns
returns c = ap (section_head c.args.order) (sym c.in_ok-used.was ∙ c.block_extent.ensures)
