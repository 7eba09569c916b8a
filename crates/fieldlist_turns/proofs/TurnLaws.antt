-- The texts of `fieldlist`, where there is room.
-- By the room.
use Rattle.wire_spec.specs.Result.{Result}
use mathlib.Core.Path.{◌≡◌, ap, ◌∙◌}
use mathlib.Core.Bool.{Bool, true}
use mathlib.Core.List.{List}
use Prim.Native.Nat.{ℕ, ◌+◌, ◌*◌, ◌≤◌}
use native.Mathlib.Omega.{arith}
use borrow.Author.Tests.{le-leb}
use lib.Dec.{leb}
use lib.ListN.{length}
use Rattle.rtp_frames.specs.Frames.{max_frame}
use Rattle.program_spec.specs.Run.{At, Ready}
use Rattle.program_spec.proofs.StepLaws.{Put, text-put}
use Rattle.fieldlist_lines.specs.Room.{line_room, roomy}
use Rattle.fieldlist_records.specs.Records.{cell_room}
use Rattle.fieldlist_session.specs.declared.session.Session.{Session}
use Rattle.fieldlist_session.specs.Answers.{text_after, text_of}
use Rattle.fieldlist_turns.specs.Turns.{Enough, octets_of, program}

-- a text that there is room for is put
pub room-put : (t out out' : List ℕ) (x : Result ℕ) (n : ℕ) → line_room ≤ length out → x ≡ text_of (leb line_room (length out)) t → out' ≡ text_after (leb line_room (length out)) t out
    → n ≡ octets_of x → Put t out out' n
room-put t out out' x n h e o k =
    let b = le-leb line_room (length out) h in
    text-put t out (o ∙ ap (λ (r : Bool). text_after r t out) b) (k ∙ ap octets_of e ∙ ap (λ (r : Bool). octets_of (text_of r t)) b)

pub room-for-line : {i s o : ℕ} → Enough i s o → line_room ≤ o
room-for-line e = omega (arith, e.text)

-- a turn can be made, whatever is carried
pub ready : {i s o : ℕ} → Enough i s o → (here : At (Session × List ℕ)) → Ready program max_frame (λ x c. (x, c)) (λ x c. Unit {0}) i s o here
ready {i} {s} {o} e here session cells l c =
    let room : roomy s o ≡ true = le-leb (line_room + cell_room * s) o e.text in
    (record { item = e.frame; text = rw (ap (λ (z : Session × List ℕ). z.1) c, l) room }, tt)
