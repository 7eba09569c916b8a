-- By the laws of a run in turns. Nothing is read at the start, and nothing waits.
use Rattle.std.proofs.Common.{◌≡◌, ℕ, List, refl, ap, sym, subst, ◌∙◌, []}
use Rattle.program.specs.declared.run.Run.{Run}
use Rattle.program_spec.specs.Run.{Started, at}
use Rattle.program_spec.proofs.BufferLaws.{short}
use Rattle.program_spec.proofs.RunLaws.{bounds, start-bounds}
use Rattle.program_spec.proofs.StepLaws.{first-put, text-put}
use Rattle.pcapframes_spec.specs.declared.session.Session.{Session}
use Rattle.pcapframes_spec.specs.Session.{begun, frame_walk, last_of}
use Rattle.pcapframes_turns.specs.Turns.{started}
use Rattle.pcapframes_turns.proofs.RunLaws.{ended, lasts}
use Rattle.pcapframes.proofs.extract.Goals as goal

starts : (port : ℕ) (v : Run Session) → v ≡ started → (input out : List ℕ) → Started (frame_walk port) begun (at v.session v.buffers input out)
starts port v e input out =
    subst (λ (w : Run Session). Started (frame_walk port) begun (at w.session w.buffers input out)) (sym e) (first-put (frame_walk port) refl (text-put [] out refl refl))

pub run_on-run-requires-clause-in_bounds : goal.run_on-run-requires-clause-in_bounds
run_on-run-requires-clause-in_bounds c = start-bounds (starts c.args.port _ c.start.ensures c.args.input.now c.args.out.now)

pub run_on-run-requires-clause-goes_on : goal.run_on-run-requires-clause-goes_on
run_on-run-requires-clause-goes_on c = (starts c.args.port _ c.start.ensures [] []).goes_on

pub run_on-run-requires-clause-lasts : goal.run_on-run-requires-clause-lasts
run_on-run-requires-clause-lasts c = lasts (starts c.args.port _ c.start.ensures c.args.input.now c.args.out.now) c.requires

pub returns : goal.returns
returns c =
    let a = c.args in
    let r = c.run_on-run in
    let b = r.result.buffers in
    let t = starts a.port _ c.start.ensures a.input.now a.out.now in
    let last = c.finish.ensures ∙ ap (last_of r.result.session) (sym (short b r.new.input r.new.out (bounds (start-bounds t) r.ensures.passed))) in
    ended t r.ensures last
