-- `front_size` gives the octets before the ANC data packets.
-- By what `payload_header_size` gives.
use native.Mathlib.Omega.{arith}
use Rattle.wire_spec.proofs.LayoutLaws.{places}
use Rattle.rtp_writer.proofs.writing.front_size.Goals as goal

pub overflow_add-result : goal.overflow_add-result
overflow_add-result c = omega (arith, c.payload_header_size.ensures, (places c.args.layout).payload-near)
