-- By the laws of a run in turns. Nothing is read at the start, and nothing waits.
use Rattle.std.proofs.Common.{◌≡◌, ℕ, List, refl, sym, subst, [], arith}
use Rattle.wire_spec.specs.Layout.{Layout}
use Rattle.program.specs.declared.run.Run.{Run}
use Rattle.program_spec.specs.Run.{Started, at}
use Rattle.program_spec.proofs.RunLaws.{bounds, start-bounds}
use Rattle.program_spec.proofs.StepLaws.{first-put, text-put}
use Rattle.streamcheck_session.specs.declared.session.Session.{Session}
use Rattle.streamcheck_session.specs.Answers.{begun}
use Rattle.streamcheck_turns.specs.Turns.{program, started}
use Rattle.streamcheck_turns.proofs.RunLaws.{ended, lasts}
use Rattle.streamcheck.proofs.check.Goals as goal

starts : (L : Layout) (v : Run Session) → v ≡ started L → (input out : List ℕ) → Started program (begun L) (at v.session v.buffers input out)
starts L v e input out =
    subst (λ (w : Run Session). Started program (begun L) (at w.session w.buffers input out)) (sym e) (first-put program refl (text-put [] out refl refl))

pub run_on-run-requires-clause-in_bounds : goal.run_on-run-requires-clause-in_bounds
run_on-run-requires-clause-in_bounds c = start-bounds (starts c.args.layout _ c.start.ensures c.args.input.now c.args.out.now)

pub run_on-run-requires-clause-goes_on : goal.run_on-run-requires-clause-goes_on
run_on-run-requires-clause-goes_on c = (starts c.args.layout _ c.start.ensures [] []).goes_on

pub run_on-run-requires-clause-lasts : goal.run_on-run-requires-clause-lasts
run_on-run-requires-clause-lasts c = lasts c.args.layout (starts c.args.layout _ c.start.ensures c.args.input.now c.args.out.now) c.requires

pub close-requires-clause-in_bounds : goal.close-requires-clause-in_bounds
close-requires-clause-in_bounds c =
    let b = bounds (start-bounds (starts c.args.layout _ c.start.ensures c.args.input.now c.args.out.now)) c.run_on-run.ensures.passed in
    (b.0, b.1, omega arith)

pub returns : goal.returns
returns c =
    let r = c.run_on-run in
    let a = c.args in
    let t = starts a.layout _ c.start.ensures a.input.now a.out.now in
    (at r.result.session r.result.buffers r.new.input r.new.out, ended a.layout t r.ensures c.close.ensures)
