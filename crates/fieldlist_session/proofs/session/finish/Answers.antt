-- `finish` puts the last lines where there is room.
-- By the test; `cut` and the counts are pieces one behind the other.
use Rattle.wire_spec.specs.Result.{Ok}
use borrow.Author.Tests.{lt-leb, le-leb}
use mathlib.Core.Path.{refl, ap, ◌∙◌}
use native.Mathlib.Nat.{zero-add}
use native.Mathlib.Omega.{arith}
use lib.ListN.{length}
use Rattle.text.proofs.PutLaws.{both, same}
use Rattle.rtp_frames.specs.Frames.{front}
use Rattle.fieldlist_session.specs.Session.{cut_text}
use Rattle.rtp_frames.specs.Answers.{is_cut}
use Rattle.fieldlist_lines.specs.Room.{line_room}
use Rattle.rtp_frames.specs.declared.Front.{Front as FrontFound}
use Rattle.rtp_frames.proofs.FrameLaws.{cut-is}
use Rattle.fieldlist_session.proofs.session.finish.Goals as goal

pub returns-then-out-lt-LINE_ROOM : goal.returns-then-out-lt-LINE_ROOM
returns-then-out-lt-LINE_ROOM c = rw (c.refuse.ensures, lt-leb line_room (length c.args.out.now) c.if-out-lt-LINE_ROOM.true) (record { value = refl; out_after = refl; text_fits = tt })

pub returns : goal.returns
returns c = let e = ap (λ (f : FrontFound). cut_text (is_cut f)) c.frame_at.ensures ∙ ap cut_text (cut-is (front c.args.rest.now)) in
    let p = both (same e c.put_cut-next.ensures.put) c.put_counts_of.ensures in
    rw (le-leb line_room (length c.args.out.now) c.if-out-lt-LINE_ROOM.false) (record { value = ap Ok (p.behind ∙ zero-add _); out_after = p.octets; text_fits = omega (arith, p.room, p.behind) })
