-- `finish` puts the last line where there is room.
-- By the test; the frame there is cut or not.
use Rattle.wire_spec.specs.Result.{Ok}
use borrow.Author.Tests.{lt-leb, le-leb}
use mathlib.Core.Path.{refl, ap, ◌∙◌}
use mathlib.Core.Bool.{Bool}
use native.Mathlib.Nat.{zero-add}
use native.Mathlib.Omega.{arith}
use lib.ListN.{length}
use Rattle.text.specs.Text.{ascii}
use Rattle.text.proofs.PutLaws.{same}
use Rattle.rtp_frames.specs.Answers.{is_cut}
use Rattle.rtp_frames.specs.Frames.{front}
use Rattle.rtp_frames.proofs.FrameLaws.{cut-is}
use Rattle.streamcheck_spec.specs.Text.{line_text}
use Rattle.streamcheck_lines.specs.Lines.{cut_text, line_if, lines_room}
use Rattle.streamcheck_session.proofs.session.finish.Goals as goal

pub returns-then-out-lt-LINES_ROOM : goal.returns-then-out-lt-LINES_ROOM
returns-then-out-lt-LINES_ROOM c = rw (c.refuse.ensures, lt-leb lines_room (length c.args.out.now) c.if-out-lt-LINES_ROOM.true) (record { value = refl; out_after = refl; text_fits = tt })

pub returns : goal.returns
unfolding cut_text line_if line_text ascii
returns c = let e = c.is_cut-broken.ensures ∙ ap is_cut c.frame_at.ensures ∙ cut-is (front c.args.rest.now) in
    let p = same (ap (λ (b : Bool). cut_text b c.args.index) e) c.put_if.ensures.put in
    rw (le-leb lines_room (length c.args.out.now) c.if-out-lt-LINES_ROOM.false) (record { value = ap Ok (p.behind ∙ zero-add _); out_after = p.octets; text_fits = omega (arith, p.room, p.behind) })
