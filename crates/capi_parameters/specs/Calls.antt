-- What each call gives, and what the lent memory holds then: as the library's definitions say, where the rows are long enough.
use Rattle.std.specs.Prelude.{cond, List, ℕ, leb, length, Option, Some, None}
use Rattle.wire_spec.specs.Bits.{overwrite}
use Rattle.wire_spec.specs.Written.{octets_after, written_of}
use Rattle.sdp_spec.specs.Text.{max_code}
use Rattle.sdp_spec.specs.Reading as reading
use Rattle.sdp_spec.specs.Writing.{write_text}
use Rattle.sdp_reader.specs.Answers as fmtp
use Rattle.capi_answer.specs.Rows.{Reply, given, row_reply, written_reply}
use Rattle.capi_parameters.specs.Rows.{parameters_reply}

-- `jibhotran_sdp_read`: its reply
abbrev pub sdp_read_reply : (text pairs answer : List ℕ) → Reply
sdp_read_reply text pairs answer = given answer (parameters_reply (fmtp.content_reading (reading.read_into text (length pairs)))) row_reply

-- the pairs then
abbrev pub sdp_pairs : (text pairs answer : List ℕ) → List ℕ
sdp_pairs text pairs answer = given answer (overwrite (fmtp.content_pairs (reading.read_into text (length pairs))) pairs) pairs

-- a number up to the largest code is a VPID code; any other is none
abbrev pub vpid_of : ℕ → Option ℕ
vpid_of n = cond (leb n max_code) (Some n) None

-- `jibhotran_sdp_write`: its reply
abbrev pub sdp_write_reply : (pairs : List ℕ) → (vpid : ℕ) → (out answer : List ℕ) → Reply
sdp_write_reply pairs vpid out answer = given answer (written_reply (written_of (write_text (record { pairs = pairs; vpid = vpid_of vpid }) (length out)))) row_reply

-- the octets then
abbrev pub sdp_text : (pairs : List ℕ) → (vpid : ℕ) → (out answer : List ℕ) → List ℕ
sdp_text pairs vpid out answer = given answer (octets_after (write_text (record { pairs = pairs; vpid = vpid_of vpid }) (length out)) out) out
