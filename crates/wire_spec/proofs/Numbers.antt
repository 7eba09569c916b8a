-- The numbers that the papers fix, each as its sentence has it. The definitions go by name; here the names are held to the papers.
use mathlib.Core.Path.{◌≡◌, refl}
use Rattle.wire_spec.specs.Words.{word_bits, header_numbers, least_clear, most_clear}
use Rattle.wire_spec.specs.Layout.{rfc8331, draft2015, least_size, payload_header_size}
use Rattle.wire_spec.specs.Cells.{head_cells, max_index}
use Rattle.wire_spec.specs.Packet.{max_packet, header_least}
use Rattle.wire_spec.specs.Writing.{max_records, max_cells, max_field_records, max_field_cells, max_field_packets, max_cells_before, max_type}

-- 1: "over 65,535 octets"; "RTP header: 12 octets"
pub packet : (max_packet ≡ 65535) × (header_least ≡ 12)
packet = (refl, refl)

-- "Payload header, 8 octets", and "9 (under 12 octets left)"; in the old layout "The payload header is 5 octets" and "the first 9 means under 9 octets
-- left" (02, K3)
pub layouts : (payload_header_size rfc8331 ≡ 8) × (least_size rfc8331 ≡ 12) × (payload_header_size draft2015 ≡ 5) × (least_size draft2015 ≡ 9)
layouts = (refl, refl, refl, refl)

-- "ten-bit words", "The words for all 256 numbers"; "ST 291-1 keeps 0x000 to 0x003 and 0x3FC to 0x3FF for timing" (02, K5): the least and the most that
-- it leaves
pub words : (word_bits ≡ 10) × (header_numbers ≡ 256) × (least_clear ≡ 0x004) × (most_clear ≡ 0x3FB)
words = (refl, refl, refl, refl)

-- "A record is 9 + n cells", "20 if the cell is over 4,095" (02, K13)
pub cells : (head_cells ≡ 9) × (max_index ≡ 4095)
cells = (refl, refl)

-- "21 means over 255 records or 32,768 cells for an RTP packet, over 4,095 or 32,768 for a field" (02, K2); "limits in cells become 36,864", and "35 also
-- if the state says over 4,096 packets" (K13)
pub limits : (max_records ≡ 255) × (max_cells ≡ 36864) × (max_field_records ≡ 4095) × (max_field_cells ≡ 36864) × (max_field_packets ≡ 4096) × (max_cells_before ≡ 32768)
limits = (refl, refl, refl, refl, refl, refl)

-- 24: "payload type over 127"
pub types : max_type ≡ 127
types = refl
