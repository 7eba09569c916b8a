-- What each call gives, and what the lent memory holds then: as the library's definitions say, where the rows are long enough.
use Rattle.std.specs.Prelude.{List, ℕ, length}
use Rattle.wire_spec.specs.Written.{octets_after, written_of}
use Rattle.fieldfile_spec.specs.File as file
use Rattle.fieldfile_reader.specs.Answers as field
use Rattle.sdi_spec.specs.declared.position.Position.{Position}
use Rattle.sdi_spec.specs.Answers as sdi
use Rattle.capi_answer.specs.Rows.{Reply, given, row_reply, written_reply}
use Rattle.capi_file.specs.Rows.{field_reply, line_found_reply, line_written_reply}

-- `jibhotran_file_begin`: its reply
abbrev pub begin_reply : (out answer : List ℕ) → Reply
begin_reply out answer = given answer (written_reply (written_of (file.write_head (length out)))) row_reply

-- the octets then
abbrev pub begin_octets : (out answer : List ℕ) → List ℕ
begin_octets out answer = given answer (octets_after (file.write_head (length out)) out) out

-- `jibhotran_file_write`: its reply
abbrev pub file_write_reply : (timestamp f : ℕ) → (cells out answer : List ℕ) → Reply
file_write_reply timestamp f cells out answer = given answer (written_reply (written_of (file.write_field timestamp f cells (length out)))) row_reply

-- the octets then
abbrev pub file_octets : (timestamp f : ℕ) → (cells out answer : List ℕ) → List ℕ
file_octets timestamp f cells out answer = given answer (octets_after (file.write_field timestamp f cells (length out)) out) out

-- `jibhotran_file_read`: its reply
abbrev pub file_read_reply : (octets : List ℕ) → (at : ℕ) → (cells answer : List ℕ) → Reply
file_read_reply octets at cells answer = given answer (field_reply (field.read_of (file.read_into octets at (length cells)))) row_reply

-- the cells then
abbrev pub file_cells : (octets : List ℕ) → (at : ℕ) → (cells answer : List ℕ) → List ℕ
file_cells octets at cells answer = given answer (field.cells_after (file.read_into octets at (length cells)) cells) cells

-- `jibhotran_line_write`: its reply
abbrev pub line_write_reply : (line : List ℕ) → (start : ℕ) → (cells answer : List ℕ) → Reply
line_write_reply line start cells answer = given answer (line_written_reply (sdi.write_returns line start cells)) row_reply

-- the line then
abbrev pub line_words : (line : List ℕ) → (start : ℕ) → (cells answer : List ℕ) → List ℕ
line_words line start cells answer = given answer (sdi.write_leaves line start cells) line

-- "C, place, S and StreamNum come from the caller" (02, K6)
abbrev pub position_of : (c line offset s stream : ℕ) → Position
position_of c line offset s stream = record { c = c; line = line; offset = offset; s = s; stream = stream }

-- `jibhotran_line_read`: its reply
abbrev pub line_read_reply : (line : List ℕ) → (start : ℕ) → Position → (cells answer : List ℕ) → Reply
line_read_reply line start P cells answer = given answer (line_found_reply (sdi.read_returns line start P cells)) row_reply

-- the cells then
abbrev pub line_cells : (line : List ℕ) → (start : ℕ) → Position → (cells answer : List ℕ) → List ℕ
line_cells line start P cells answer = given answer (sdi.read_leaves line start P cells) cells
