-- `file_packet` gives what one packet does: the session, the store and the octets of the field that it completes.
-- By whether a depacketizer is open, or opened by the packet.
use mathlib.Core.Path.{◌≡◌, ap, sym, ◌∙◌}
use native.Mathlib.Omega.{arith}
use Rattle.wire_spec.specs.Layout.{Layout}
use Rattle.wire_spec.specs.Packet.{read_content}
use Rattle.fieldfile_spec.specs.File.{fields_octets, written_version}
use Rattle.depacketizer_spec.specs.Step.{step}
use Rattle.depacketizer.specs.Answers.{arrival_of}
use Rattle.text.proofs.PutLaws.{nothing, same}
use Rattle.fieldlist_session.specs.declared.session.Session.TheVariants as session
use Rattle.fieldlist_session.specs.Session.{Turn, layout_in, entered}
use Rattle.fieldlist_session.proofs.TurnLaws.{entry_found, turn-arrived, turn-refused}
use Rattle.fieldsave_session.specs.Filing.{handed_by}
use Rattle.fieldsave_session.proofs.FieldLaws.{handed-refused, handed-arrived}
use Rattle.fieldsave_session.proofs.file_packet.Goals as goal

pub returns-in_default : goal.returns-in_default
returns-in_default c = let entry : let a = c.args in c.enter.result ≡ entered a.session (read_content (layout_in a.session) a.octets.now) = let a = c.args in
    c.enter.ensures ∙ entry_found a.session a.octets.now _ _ c.layout_of-layout.ensures c.inspect-inspected.ensures in
    let a = c.args in
    let k = entry in
    let t = turn-refused a.session a.octets.now a.store.now _ k _ c.in_default.is in
    let h = handed-refused a.session a.octets.now a.store.now _ k _ c.in_default.is in record { session_value = sym (ap (λ (x : Turn). x.session) t); store_after = sym (ap (λ (x : Turn). x.store) t); put = same (sym (ap (fields_octets written_version) h)) (nothing a.out.now 0 (omega arith)) }

pub arrive_checked-arrival-requires : goal.arrive_checked-arrival-requires
arrive_checked-arrival-requires c = c.inspect-inspected.ensures

pub returns : goal.returns
returns c = let entry : let a = c.args in c.enter.result ≡ entered a.session (read_content (layout_in a.session) a.octets.now) = let a = c.args in
    c.enter.ensures ∙ entry_found a.session a.octets.now _ _ c.layout_of-layout.ensures c.inspect-inspected.ensures in
    let a = c.args in
    let k = entry in
    let t = turn-arrived a.session a.octets.now a.store.now _ k c.in-Ok.depacketizer c.in-Ok.is in
    let h = handed-arrived a.session a.octets.now a.store.now _ k c.in-Ok.depacketizer c.in-Ok.is in
    let s = c.in-Ok.depacketizer.state in
    let r0 = c.arrive_checked-arrival.ensures.value ∙ ap (λ (L : Layout). arrival_of (step s L a.octets.now a.store.now)) c.layout_of-layout.ensures in
    let r1 = c.arrive_checked-arrival.ensures.store_after ∙ ap (λ (L : Layout). (step s L a.octets.now a.store.now).store) c.layout_of-layout.ensures in record { session_value = (λ i. session.Open (c.layout_of-layout.ensures i) (r0 i).state) ∙ sym (ap (λ (x : Turn). x.session) t); store_after = r1 ∙ sym (ap (λ (x : Turn). x.store) t); put = same ((λ i. fields_octets written_version (handed_by (r0 i).answer (r1 i))) ∙ sym (ap (fields_octets written_version) h)) c.put_answer-length.ensures }
