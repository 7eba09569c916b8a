-- What each call gives, and what the lent memory holds then: as the library's definitions say, where the rows are long enough.
use Rattle.std.specs.Prelude.{cond, not, List, ℕ, eqb, length}
use Rattle.wire_spec.specs.Packet.{read_into}
use Rattle.wire_spec.specs.Writing.{write_content}
use Rattle.wire_spec.specs.Written.{octets_after, written_of}
use Rattle.rtp_strict_reader.specs.declared.packet.Head.{Head}
use Rattle.rtp_strict_reader.specs.Answers as rtp
use Rattle.anc_tolerant_spec.specs.Tolerant.{tolerate_into}
use Rattle.rtp_reader.specs.Answers as reader
use Rattle.rtp_writer.specs.Answers as packetizer
use Rattle.capi_answer.specs.Rows.{Reply, given, is_layout, layout_of, layout_reply, row_reply, written_reply}
use Rattle.capi_packet.specs.Rows.{packet_reply}

-- `jibhotran_read`, the tolerant way (02, K9): its reply
abbrev pub read_reply : (layout : ℕ) (octets cells answer : List ℕ) → Reply
read_reply layout octets cells answer =
    given answer (cond (is_layout layout) (packet_reply (reader.tolerant_of (tolerate_into (layout_of layout) octets (length cells)))) layout_reply) row_reply

-- the cells then
abbrev pub read_cells : (layout : ℕ) (octets cells answer : List ℕ) → List ℕ
read_cells layout octets cells answer =
    given answer (cond (is_layout layout) (reader.through_after (tolerate_into (layout_of layout) octets (length cells)) cells) cells) cells

-- `jibhotran_read_strict`: its reply
abbrev pub strict_reply : (layout : ℕ) (octets cells answer : List ℕ) → Reply
strict_reply layout octets cells answer =
    given answer (cond (is_layout layout) (packet_reply (reader.strict_of (rtp.read_of (read_into (layout_of layout) octets (length cells))))) layout_reply) row_reply

-- the cells then
abbrev pub strict_cells : (layout : ℕ) (octets cells answer : List ℕ) → List ℕ
strict_cells layout octets cells answer =
    given answer (cond (is_layout layout) (rtp.cells_after (read_into (layout_of layout) octets (length cells)) cells) cells) cells

-- the six values beside a packet's records; a marker other than 0 marks it
abbrev pub head_of : (source type marker number timestamp f : ℕ) → Head
head_of source type marker number timestamp f =
    record {
      source = source;
      payload_type = type;
      marker = not (eqb marker 0);
      number = record { 0 = number };
      timestamp = record { 0 = timestamp };
      f = f;
    }

-- `jibhotran_write`: its reply
abbrev pub write_reply : (layout : ℕ) → Head → (cells out answer : List ℕ) → Reply
write_reply layout head cells out answer =
    given answer (cond (is_layout layout) (written_reply (written_of (write_content (layout_of layout) (packetizer.content_of head) cells (length out)))) layout_reply) row_reply

-- the octets then
abbrev pub write_octets : (layout : ℕ) → Head → (cells out answer : List ℕ) → List ℕ
write_octets layout head cells out answer =
    given answer (cond (is_layout layout) (octets_after (write_content (layout_of layout) (packetizer.content_of head) cells (length out)) out) out) out
