-- What the answers say in the papers' terms: the refusal, or what was found.
use Rattle.std.specs.Prelude.{List, ℕ, length}
use Rattle.wire_spec.specs.Bits.{overwrite}
use Rattle.wire_spec.specs.Result.{Result, Err, Ok}
use Rattle.wire_spec.specs.Cells.{list_of}
use Rattle.fieldfile_spec.specs.File.{FieldContent, read_into}
use Rattle.fieldfile_reader.specs.declared.field.Summary.{Summary}

-- a field read (01, "Field file"): what it says, and "the offset after the field"
abbrev pub summary_of : FieldContent × ℕ → Summary
summary_of q =
    record {
      timestamp = record { 0 = q.0.timestamp };
      f = q.0.f;
      records = length q.0.records;
      cells = length (list_of q.0.records);
      next = record { 0 = q.1 };
    }

-- the refusal, or the field
abbrev pub read_of : Result (FieldContent × ℕ) → Result Summary
read_of (Err x) = Err x
read_of (Ok q) = Ok (summary_of q)

-- what the lent list then holds: "Lent memory is unchanged" on a refusal
abbrev pub cells_after : Result (FieldContent × ℕ) → List ℕ → List ℕ
cells_after (Err x) cells = cells
cells_after (Ok q) cells = overwrite (list_of q.0.records) cells

-- what `read_field` returns for this file, offset and lent list, and what the list then holds
abbrev pub read_returns : (file : List ℕ) (at : ℕ) (lent : List ℕ) → Result Summary
read_returns file at lent = read_of (read_into file at (length lent))

abbrev pub read_leaves : (file : List ℕ) (at : ℕ) (lent : List ℕ) → List ℕ
read_leaves file at lent = cells_after (read_into file at (length lent)) lent
