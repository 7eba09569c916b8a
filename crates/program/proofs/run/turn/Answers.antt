-- By what is answered for the item at the front (`program_spec` `StepLaws`).
use Rattle.std.proofs.Common.{rules}
use Rattle.program_spec.specs.Run.{at}
use Rattle.program_spec.proofs.StepLaws.{turned_by}
use Rattle.program.proofs.run.turn.Goals as goal

pub returns : goal.returns
returns g c =
    let a = c.args in
    let t = g.P.TakesItems in
    turned_by (t.program a.it) (at (t.carried a.it a.run.now.session a.store.now) a.run.now.buffers a.input.now a.out.now) c.requires.in_bounds (search rules) c.take-step.ensures c.requires.holds.text c.after_step-run.ensures
