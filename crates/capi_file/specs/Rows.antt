-- What a call returns as numbers: its own, and those that it writes to the first numbers of the answer's row.
use Rattle.wire_spec.specs.Result.{Result, Ok, Err}
use Rattle.std.specs.Prelude.{List, [], ◌∷◌, ℕ}
use Rattle.fieldfile_reader.specs.declared.field.Summary.{Summary as FieldSummary, Summary}
use Rattle.sdi_spec.specs.declared.answer.ReadLine.{ReadLine}
use Rattle.capi_answer.specs.Rows.{Reply, accepted_reply, refused_reply, size_reply}

-- what a field of a file says: timestamp, F, records, cells, the offset after it
abbrev pub field_row : FieldSummary → List ℕ
field_row s = s.timestamp.0 ∷ s.f ∷ s.records ∷ s.cells ∷ s.next.0 ∷ []

-- a field read
abbrev pub field_reply : Result Summary → Reply
field_reply (Err x) = refused_reply x
field_reply (Ok s) = accepted_reply (field_row s)

-- a line written: the word behind the stretch
abbrev pub line_written_reply : Result ℕ → Reply
line_written_reply (Err x) = refused_reply x
line_written_reply (Ok end) = size_reply end

-- a line read: records, cells, the word behind the last packet
abbrev pub line_found_reply : Result ReadLine → Reply
line_found_reply (Err x) = refused_reply x
line_found_reply (Ok p) = accepted_reply (p.count ∷ p.cells ∷ p.end ∷ [])
