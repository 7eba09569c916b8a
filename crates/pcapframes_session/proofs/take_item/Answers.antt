-- `take_item` takes the item at the front, unless the walk is over, where there is room for any frame.
-- By the room, and by where it stands.
use borrow.Author.Tests.{lt-leb}
use mathlib.Core.Path.{refl, ap, sym, ◌∙◌}
use lib.ListN.{length}
use Rattle.rtp_frames.specs.Frames.{max_frame}
use Rattle.program_spec.specs.Walk.{Front}
use Rattle.program_spec.proofs.StepLaws.{no_room}
use Rattle.pcapframes_spec.specs.declared.session.Session.{Session}
use Rattle.pcapframes_spec.specs.Session.{frame_walk, out_after, reply_of}
use Rattle.pcapframes_spec.proofs.SessionLaws.{answers, front-open, front-refused}
use Rattle.pcapframes_session.proofs.take_item.Goals as goal

pub returns-then-out-lt-MAX_FRAME : goal.returns-then-out-lt-MAX_FRAME
returns-then-out-lt-MAX_FRAME c = no_room (frame_walk c.args.port) (lt-leb max_frame (length c.args.out.now) c.if-out-lt-MAX_FRAME.true)

pub take_open-requires : goal.take_open-requires
take_open-requires c = (c.requires, c.if-out-lt-MAX_FRAME.false)

pub returns-in-Some : goal.returns-in-Some
returns-in-Some c = let a = c.args in
    let q = sym (front-refused a.port a.session a.octets.now _ c.in-Some.is) in
    answers a.port a.session a.octets.now a.out.now c.if-out-lt-MAX_FRAME.false _ (ap (reply_of a.session) q) a.out.now (ap (λ (f : Front Session). out_after f a.out.now) q) refl

pub returns-in-None : goal.returns-in-None
returns-in-None c = let a = c.args in
    let q = sym (front-open a.port a.session a.octets.now c.in-None.is) in
    let y = c.take_open in
    answers a.port a.session a.octets.now a.out.now c.if-out-lt-MAX_FRAME.false y.result (c.take_open.ensures.value ∙ ap (reply_of a.session) q) c.take_open.new.out (c.take_open.ensures.out_after ∙ ap (λ (f : Front Session). out_after f a.out.now) q) c.take_open.auto.out
