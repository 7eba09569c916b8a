-- The octets before the ANC data packets of a packet that is written (01, "Written packets have P, X and CC zero").
use Rattle.std.specs.Prelude.{[], ◌∷◌, ◌++◌, ℕ, ◌+◌}
use Rattle.wire_spec.specs.Bits.{Fields}
use Rattle.wire_spec.specs.Layout.{Layout, f_bits, reserved_bits, payload_header_size}
use Rattle.wire_spec.specs.Packet.{header_least, rtp_fields, payload_header}
use Rattle.wire_spec.specs.Writing.{plain}
use Rattle.rtp_strict_reader.specs.declared.packet.Head.{Head}
use Rattle.rtp_writer.specs.Answers.{content_of}

-- "An empty list gives a 20-octet packet": the octets before the ANC data packets
abbrev pub front_size : Layout → ℕ
front_size L = header_least + payload_header_size L

-- the RTP header and the payload header, with so many records in so many octets; the reserved bits are "written as zero (house rule)"
abbrev pub front_fields : Layout → Head → (count size : ℕ) → Fields
front_fields L h count size =
    rtp_fields (plain (content_of h)) ++ payload_header L (plain (content_of h)).extended size count (content_of h).f 0

-- the last of them, where the layout has them: F and the reserved bits
abbrev pub f_fields : Layout → ℕ → Fields
f_fields L f = (f_bits L, f) ∷ (reserved_bits L, 0) ∷ []
