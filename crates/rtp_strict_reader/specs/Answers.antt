-- What the answers say in the papers' terms: the refusal, or what was found.
use Rattle.rtp_strict_reader.specs.declared.packet.Outline.{Outline}
use Rattle.std.specs.Prelude.{◌≡◌, List, [], ℕ, ◌<◌, ◌≤◌, eqb, length}
use Rattle.wire_spec.specs.Bits.{overwrite}
use Rattle.wire_spec.specs.Layout.{Layout}
use Rattle.wire_spec.specs.Result.{Result, Err, Ok, judge}
use Rattle.wire_spec.specs.Cells.{list_in, list_of}
use Rattle.wire_spec.specs.Packet.{Content, content, packet_read, header_size, length_field, header_checks, padding_checks, payload_checks}
use Rattle.rtp_strict_reader.specs.declared.packet.Head.{Head}
use Rattle.rtp_strict_reader.specs.declared.packet.Summary.{Summary}

-- "source, type, M, packet number, timestamp, F": the six values beside a packet's records
abbrev pub head_of : Content → Head
head_of k =
    record {
      source = k.source;
      payload_type = k.type;
      marker = eqb k.marker 1;
      number = record { 0 = k.number };
      timestamp = record { 0 = k.timestamp };
      f = k.f;
    }

-- "With them the reader returns source, type, M, packet number, timestamp, F, record count and cells used"
abbrev pub summary_of : Content → Summary
summary_of k = record { head = head_of k; records = length k.records; cells = length (list_of k.records) }

-- the six values that stand in octets, where the header's fields put them
abbrev pub head_at : Layout → List ℕ → Head
head_at L s = head_of (content (packet_read L [] s))

-- the three stages one after the other, 1 to 8: the octets of the header with its sources and extension, and those of the ANC data packets
abbrev pub front_checked : Layout → List ℕ → Result (ℕ × ℕ)
front_checked L s =
    judge 0 (header_checks s)
    (judge 0 (padding_checks L s) (judge 0 (payload_checks L s) (Ok (header_size s, length_field s))))

-- 2, "(rest)": a header's size, or any number over the octets where it is cut
pub record SizeFound (s : List ℕ) (size : ℕ) : Type 0 where
  pub whole : header_size s ≤ length s → size ≡ header_size s
  pub cut : length s < header_size s → length s < size

-- a packet checked, up to 13: the refusal, or where its payload header and its ANC data packets stand, and their counts
abbrev pub checked_of : Layout → List ℕ → Result Content → Result Outline
checked_of L s (Err x) = Err x
checked_of L s (Ok k) =
    Ok
    (record {
      header = record { 0 = header_size s };
      length = record { 0 = length_field s };
      records = length k.records;
      cells = length (list_of k.records);
    })

-- a packet read, 14 last: the refusal, or "With them the reader returns source, type, M, packet number, timestamp, F, record count
-- and cells used"
abbrev pub read_of : Result Content → Result Summary
read_of (Err x) = Err x
read_of (Ok k) = Ok (summary_of k)

-- what the lent list then holds: after a refusal "Lent memory is unchanged", and "On success only the cells or octets of the answer
-- are written"; of the packet with index `p` within its field (02, K13)
abbrev pub cells_after_in : ℕ → Result Content → List ℕ → List ℕ
cells_after_in p (Err x) cells = cells
cells_after_in p (Ok k) cells = overwrite (list_in p k.records) cells

-- "The packet and line readers give 0"
abbrev pub cells_after : Result Content → List ℕ → List ℕ
cells_after r cells = cells_after_in 0 r cells
