-- THE WHOLE OUTPUT of `fieldlist` is the listing of what was read.
-- It prints frame by frame, as any program over frames does (`program_spec` `FrameLaws`, `RunLaws`).
use mathlib.Core.Path.{ap}
use mathlib.Core.List.{List, ◌++◌}
use Prim.Native.Nat.{ℕ}
use Rattle.wire_spec.specs.Layout.{Layout}
use Rattle.program_spec.specs.declared.buffers.Buffers.{Buffers}
use Rattle.program_spec.specs.Run.{At, Closed, Ended, Started, turning}
use Rattle.program_spec.specs.Turns.{Stopped, max_turns}
use Rattle.program_spec.proofs.FrameLaws.{Prints, lawful, walk_is}
use Rattle.program_spec.proofs.RunLaws.{run-ended}
use Rattle.fieldlist_session.specs.declared.session.Session.{Session}
use Rattle.fieldlist_session.specs.declared.session.Session.TheVariants as session
use Rattle.fieldlist_session.specs.Answers.{fieldlist}
use Rattle.fieldlist_session.specs.Session.{title, remaining, listing}
use Rattle.fieldlist_session.proofs.StreamLaws.{next-frame, last-lines}
use Rattle.fieldlist_turns.specs.Turns.{program}

-- what is printed for the rest of an input
abbrev rest : Session × List ℕ → List ℕ → List ℕ
rest s input = remaining s.0 s.1 input

prints : Prints fieldlist rest
prints = record { next = λ s. next-frame s.0 s.1; last = λ s. last-lines s.0 s.1 }

pub ended : (L : Layout) (store : List ℕ) {from here : At (Session × List ℕ)} → Started program (session.Waiting L, store) from → Stopped (turning program) max_turns from here → {r : Buffers} {out' : List ℕ} → Closed program here r out'
    → Ended program (listing L store) (session.Waiting L, store) here out' r
unfolding listing
ended L store =
    run-ended program (lawful fieldlist) (listing L store) (λ l. ap (λ (t : List ℕ). title ++ t) (walk_is fieldlist rest prints (session.Waiting L, store) l))
