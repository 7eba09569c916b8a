-- `take_packet` takes the packets of a link type that is taken.
-- By the test of it.
use mathlib.Core.Path.{◌≡◌, ap, sym, ◌∙◌}
use mathlib.Core.Bool.{Bool, cond}
use lib.ListN.{length}
use Rattle.capture_datagram.specs.Link.{datagram_in}
use Rattle.program_spec.specs.Walk.{Front, over}
use Rattle.pcapframes_spec.specs.declared.session.Session.{Session}
use Rattle.program_spec.specs.declared.buffers.Step.TheVariants as step
use Rattle.pcapframes_spec.specs.Session.{found_front, out_after, packet_front, refused_by, reply_of}
use Rattle.pcapframes_spec.proofs.SessionLaws.{found-fits}
use Rattle.pcapframes_session.proofs.take_packet.Goals as goal

pub returns-then-not-is_link_taken : goal.returns-then-not-is_link_taken
returns-then-not-is_link_taken c = let a = c.args in
    let s = a.session in
    let e : packet_front a.port s a.used a.link a.packet.now ≡ over (refused_by s 83) =
    ap (λ (b : Bool). cond b (found_front s a.used a.packet.now (datagram_in a.packet.now a.link a.port)) (over (refused_by s 83))) (sym c.is_link_taken.ensures ∙ c.if-not-is_link_taken.true) in
    record { value = (λ i. record { session = c.refuse.ensures i; step = step.Over }) ∙ ap (reply_of s) (sym e); out_after = ap (λ (f : Front Session). out_after f a.out.now) (sym e) }

pub take_found-requires : goal.take_found-requires
take_found-requires c = let a = c.args in
    (c.requires.0, found-fits a.packet.now a.link a.port (length a.out.now) (λ j. (c.type_inv.packet j).fits) c.requires.1 c.find.result c.find.ensures)

pub returns : goal.returns
returns c = let a = c.args in
    let s = a.session in
    let e : found_front s a.used a.packet.now c.find.result ≡ packet_front a.port s a.used a.link a.packet.now =
    ap (found_front s a.used a.packet.now) c.find.ensures
    ∙ ap (λ (b : Bool). cond b (found_front s a.used a.packet.now (datagram_in a.packet.now a.link a.port)) (over (refused_by s 83))) (sym (sym c.is_link_taken.ensures ∙ c.if-not-is_link_taken.false)) in
    record { value = c.take_found.ensures.value ∙ ap (reply_of s) e; out_after = c.take_found.ensures.out_after ∙ ap (λ (f : Front Session). out_after f a.out.now) e }
