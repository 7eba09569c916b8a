-- THE WHOLE OUTPUT of `fieldsave` is the field file of what was read.
-- It files frame by frame, as any program over frames does (`program_spec` `FrameLaws`, `RunLaws`).
use mathlib.Core.Path.{refl, ap, ◌∙◌}
use mathlib.Core.List.{List, ◌++◌}
use Prim.Native.Nat.{ℕ}
use Rattle.wire_spec.specs.Layout.{Layout}
use Rattle.program_spec.specs.Run.{At, Ended, Started, turning}
use Rattle.program_spec.specs.Turns.{Stopped, max_turns}
use Rattle.program_spec.proofs.FrameLaws.{Prints, lawful, walk_is}
use Rattle.program_spec.proofs.RunLaws.{run-ended}
use Rattle.program_spec.proofs.StepLaws.{closed-without}
use Rattle.fieldlist_session.specs.declared.session.Session.{Session}
use Rattle.fieldlist_session.specs.declared.session.Session.TheVariants as session
use Rattle.fieldfile_spec.specs.File.{file_head, written_version}
use Rattle.fieldsave_session.specs.Answers.{fieldsave}
use Rattle.fieldsave_session.specs.Filing.{remaining, filing}
use Rattle.fieldsave_session.proofs.StreamLaws.{next-frame, no_more, file-is}
use Rattle.fieldsave_turns.specs.Turns.{program}

-- what is filed of the rest of an input
abbrev rest : Session × List ℕ → List ℕ → List ℕ
rest s input = remaining s.0 s.1 input

prints : Prints fieldsave rest
prints = record { next = λ s. next-frame s.0 s.1; last = λ s. no_more s.0 s.1 }

-- there is nothing to write at the end
pub ended : (L : Layout) (store : List ℕ) {from here : At (Session × List ℕ)} → Started program (session.Waiting L, store) from → Stopped (turning program) max_turns from here → Ended program (filing L store) (session.Waiting L, store) here here.out here.buffers
ended L store {here = here} t f =
    run-ended program (lawful fieldsave) (filing L store)
    (λ l. file-is L store l ∙ ap (λ (o : List ℕ). file_head written_version ++ o) (walk_is fieldsave rest prints (session.Waiting L, store) l)) t f (closed-without program {a = here} refl)
