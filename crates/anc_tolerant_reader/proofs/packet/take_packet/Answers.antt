-- `take_packet` tells what a packet is in the tolerant way.
-- From the strict verdict on it.
use mathlib.Core.Path.{sym, ◌∙◌}
use Rattle.anc_tolerant_reader.proofs.PacketLaws.{part-own, part-refused, part-11}
use Rattle.anc_tolerant_reader.proofs.packet.take_packet.Goals as goal

pub returns-then-refusal-ne-CHECKSUM_WRONG : goal.returns-then-refusal-ne-CHECKSUM_WRONG
returns-then-refusal-ne-CHECKSUM_WRONG c = let a = c.args in
    part-refused a.layout a.index a.octets.now _ (sym c.check_packet-verdict.ensures ∙ c.in-Err.is) c.if-refusal-ne-CHECKSUM_WRONG.true

pub left_out-requires : goal.left_out-requires
left_out-requires c = let a = c.args in
    part-11 a.layout a.index a.octets.now _ (sym c.check_packet-verdict.ensures ∙ c.in-Err.is) c.if-refusal-ne-CHECKSUM_WRONG.false

pub returns-in-Ok : goal.returns-in-Ok
returns-in-Ok c = let a = c.args in
    part-own a.layout a.index a.octets.now _ (sym c.check_packet-verdict.ensures ∙ c.in-Ok.is)
