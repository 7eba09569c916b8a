-- The file's head, where there is room.
-- By the room.
use Rattle.wire_spec.specs.declared.count.OctetCount.{OctetCount}
use mathlib.Core.Path.{◌≡◌, refl, ap, ◌∙◌}
use mathlib.Core.List.{List}
use Prim.Native.Nat.{ℕ, ◌≤◌}
use native.Mathlib.Omega.{arith}
use borrow.Author.Tests.{le-leb}
use lib.ListN.{length}
use Rattle.wire_spec.specs.Result.{Result, Ok}
use Rattle.wire_spec.specs.Written.{octets_after, written_of}
use Rattle.fieldfile_spec.specs.File.{file_head, file_head_size, write_head, written_version}
use Rattle.rtp_frames.specs.Frames.{max_frame}
use Rattle.program_spec.specs.Run.{At, Ready}
use Rattle.program_spec.proofs.StepLaws.{Put, text-put}
use Rattle.fieldlist_session.specs.declared.session.Session.{Session}
use Rattle.fieldsave_session.specs.Answers.{octets_in}
use Rattle.fieldsave_session.specs.Filing.{field_room}
use Rattle.fieldsave_turns.specs.Turns.{Enough, program}

-- a turn can be made, whatever is carried
pub ready : {i s o : ℕ} → Enough i s o → (here : At (Session × List ℕ)) → Ready program max_frame (λ x c. (x, c)) (λ x c. Unit {0}) i s o here
ready {i} {s} {o} e here session cells l c = (record { item = e.frame; text = le-leb field_room o e.text }, tt)

-- the head is put: there is room for it
pub head-put : (out out' : List ℕ) (w : Result OctetCount) (n : ℕ) → field_room ≤ length out → w ≡ written_of (write_head (length out)) → out' ≡ octets_after (write_head (length out)) out
    → n ≡ octets_in w → Put (file_head written_version) out out' n
head-put out out' w n h a o k =
    let head = file_head written_version in
    let e : write_head (length out) ≡ Ok head = rw (le-leb file_head_size (length out) (omega (arith, h))) refl in
    text-put head out (o ∙ ap (λ (r : Result (List ℕ)). octets_after r out) e) (k ∙ ap octets_in a ∙ ap (λ (r : Result (List ℕ)). octets_in (written_of r)) e)
