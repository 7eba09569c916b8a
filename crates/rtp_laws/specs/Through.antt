-- What the tolerant reader's answer says of a packet.
use Rattle.std.specs.Prelude.{◌≡◌, List, ℕ, ◌≤◌, length}
use Rattle.wire_spec.specs.Layout.{Layout}
use Rattle.wire_spec.specs.Anc.{Each}
use Rattle.wire_spec.specs.Cells.{list_of}
use Rattle.wire_spec.specs.Packet.{Packet, WellFormedPacket, packet_around, content}
use Rattle.wire_spec.specs.Writing.{with_records}
use Rattle.anc_tolerant_spec.specs.Received.{Received, WellReceived, received_octets, records_of, through_of, left_out_of}
use Rattle.rtp_strict_reader.specs.Answers.{summary_of}
use Rattle.rtp_strict_reader.specs.declared.packet.Summary.{Summary}

-- The octets are those of a well-formed packet with these ANC data packets, each the octets of a well-formed record with some ten-bit word in the place
-- of its checksum; what is returned is the packet's own with the records whose word is their own, which fit the lent list, and the number of the others.
pub record Through (L : Layout) (octets lent : List ℕ) (p : Packet) (ps : List Received) (m : Summary) (omitted : ℕ) : Type 0 where
  pub formed : WellFormedPacket L p
  pub received : Each (WellReceived L) ps
  pub records : p.records ≡ records_of ps
  pub octets-are : octets ≡ packet_around L p (received_octets L ps)
  pub says : summary_of (with_records (content p) (through_of ps)) ≡ m
  pub left_out : left_out_of ps ≡ omitted
  pub fits : length (list_of (through_of ps)) ≤ length lent
