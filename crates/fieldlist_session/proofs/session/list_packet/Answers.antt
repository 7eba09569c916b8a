-- `list_packet` gives what one packet does: the session, the store and the text.
-- By whether a depacketizer is open, or opened by the packet.
use mathlib.Core.Path.{◌≡◌, ap, sym, ◌∙◌}
use Rattle.wire_spec.specs.Layout.{Layout}
use Rattle.wire_spec.specs.Packet.{read_content}
use Rattle.depacketizer_spec.specs.Step.{step}
use Rattle.depacketizer.specs.Answers.{arrival_of}
use Rattle.text.proofs.PutLaws.{same}
use Rattle.fieldlist_session.specs.declared.session.Session.TheVariants as session
use Rattle.fieldlist_lines.specs.Lines.{answer_text}
use Rattle.fieldlist_session.specs.Session.{Turn, entered, layout_in}
use Rattle.fieldlist_session.proofs.TurnLaws.{entry_found, number-found, turn-arrived, turn-refused}
use Rattle.fieldlist_session.proofs.session.list_packet.Goals as goal

pub returns-in-Err : goal.returns-in-Err
returns-in-Err c = let entry : let a = c.args in c.enter.result ≡ entered a.session (read_content (layout_in a.session) a.octets.now) = let a = c.args in
    c.enter.ensures ∙ entry_found a.session a.octets.now _ _ c.layout_of-layout.ensures c.inspect-inspected.ensures in
    let a = c.args in
    let t = turn-refused a.session a.octets.now a.store.now _ (entry) _ c.in-Err.is in record { session_value = sym (ap (λ (x : Turn). x.session) t); store_after = sym (ap (λ (x : Turn). x.store) t); put = same (sym (ap (λ (x : Turn). x.text) t)) c.put_refused-length.ensures }

pub arrive_checked-arrival-requires : goal.arrive_checked-arrival-requires
arrive_checked-arrival-requires c = c.inspect-inspected.ensures

pub returns : goal.returns
returns c = let entry : let a = c.args in c.enter.result ≡ entered a.session (read_content (layout_in a.session) a.octets.now) = let a = c.args in
    c.enter.ensures ∙ entry_found a.session a.octets.now _ _ c.layout_of-layout.ensures c.inspect-inspected.ensures in
    let a = c.args in
    let t = turn-arrived a.session a.octets.now a.store.now _ (entry) c.in-Ok.depacketizer c.in-Ok.is in
    let n = c.number_of-number.ensures ∙ number-found a.session a.octets.now _ _ c.layout_of-layout.ensures c.inspect-inspected.ensures in
    let s = c.in-Ok.depacketizer.state in
    let r0 = c.arrive_checked-arrival.ensures.value ∙ ap (λ (L : Layout). arrival_of (step s L a.octets.now a.store.now)) c.layout_of-layout.ensures in
    let r1 = c.arrive_checked-arrival.ensures.store_after ∙ ap (λ (L : Layout). (step s L a.octets.now a.store.now).store) c.layout_of-layout.ensures in record { session_value = (λ i. session.Open (c.layout_of-layout.ensures i) (r0 i).state) ∙ sym (ap (λ (x : Turn). x.session) t); store_after = r1 ∙ sym (ap (λ (x : Turn). x.store) t); put = same ((λ i. answer_text (n i) (r0 i).answer (r1 i)) ∙ sym (ap (λ (x : Turn). x.text) t)) c.put_answer-length.ensures }
