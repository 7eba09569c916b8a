-- `check_packet` tells what a packet is in the strict way.
-- A run of one packet is refused as its packet is, but for the index.
use Rattle.wire_spec.specs.Result.{Ok}
use mathlib.Core.Path.{ap, sym, ◌∙◌}
use Prim.Native.Nat.{ℕ}
use Rattle.anc_tolerant_spec.proofs.StrictLaws.{anc-passes}
use Rattle.anc_reader.specs.Answers.{verdict_of}
use Rattle.anc_reader.proofs.PacketLaws.{length-words}
use Rattle.anc_tolerant_reader.proofs.PacketLaws.{sized, front-passes, one-accepted, one-refused}
use Rattle.anc_tolerant_reader.proofs.packet.check_packet.Goals as goal

pub data_count-requires : goal.data_count-requires
data_count-requires c = let a = c.args in
    let e = one-accepted a.layout 0 a.octets.now _ _ (sym c.check_run-run.ensures ∙ c.in-Ok.is) in
    (sized _ _ (front-passes _ _ (anc-passes a.layout 0 a.octets.now _ e).0)).least

pub returns-in-Ok : goal.returns-in-Ok
returns-in-Ok c = let a = c.args in
    let e = one-accepted a.layout a.index a.octets.now _ _ (sym c.check_run-run.ensures ∙ c.in-Ok.is) in
    ap (λ (n : ℕ). Ok (record { 0 = n })) (c.data_count.ensures ∙ sym (length-words a.layout a.octets.now)) ∙ ap verdict_of (sym e)

pub returns-in-Err : goal.returns-in-Err
returns-in-Err c = let a = c.args in
    c.refuse_at.ensures ∙ ap verdict_of (sym (one-refused a.layout a.index a.octets.now _ (sym c.check_run-run.ensures ∙ c.in-Err.is)))
