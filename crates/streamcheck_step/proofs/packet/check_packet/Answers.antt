-- `check_packet` steps past a packet: refused by its reading, or checked.
-- By the check.
use Rattle.std.proofs.Common.{sym, ap, ◌∙◌}
use Rattle.wire_spec.specs.Result.{Result}
use Rattle.wire_spec.specs.Packet.{Content, read_content}
use Rattle.rtp_strict_reader.specs.Answers.{cells_after}
use Rattle.rtp_strict_reader.proofs.ReadLaws.{refused-is}
use Rattle.streamcheck_step.proofs.PacketLaws.{refused-packet}
use Rattle.streamcheck_step.proofs.packet.check_packet.Goals as goal

pub returns-in-Err : goal.returns-in-Err
returns-in-Err c = let a = c.args in
    let e = sym c.check.ensures ∙ c.in-Err.is in record {
      value = refused-packet a.layout a.octets.now a.checker _ e;
      cells_after = sym (ap (λ (r : Result Content). cells_after r a.cells.now) (refused-is a.layout a.octets.now (read_content a.layout a.octets.now) _ e));
    }

pub check_accepted-requires : goal.check_accepted-requires
check_accepted-requires c = record { octets_value = sym c.check.ensures ∙ c.in-Ok.is; max_packet_in_bounds = c.requires }
