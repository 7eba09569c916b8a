-- What the answers say in the papers' terms, and what the lent memory then holds.
use Rattle.std.specs.Prelude.{◌≡◌, List, map, ℕ, ◌+◌, length}
use Rattle.wire_spec.specs.Bits.{overwrite}
use Rattle.wire_spec.specs.Result.{Result, Err, Ok}
use Rattle.wire_spec.specs.Anc.{Record}
use Rattle.wire_spec.specs.Cells.{list_of, read_list}
use Rattle.sdi_spec.specs.declared.answer.ReadLine.{ReadLine}
use Rattle.sdi_spec.specs.declared.position.Position.{Position}
use Rattle.sdi_spec.specs.Packets.{stretch, placed}
use Rattle.sdi_spec.specs.Line.{line_after, write_line, read_line_into}

-- the word behind the written stretch, or the refusal
abbrev pub written_of : ℕ → Result (List ℕ) → Result ℕ
written_of start (Err x) = Err x
written_of start (Ok o) = Ok (start + length o)

-- the records of a line: how many, their cells, and the word behind the last packet
abbrev pub read_of : ℕ → Result (List Record) → Result ReadLine
read_of start (Err x) = Err x
read_of start (Ok rs) = Ok (record { count = length rs; cells = length (list_of rs); end = start + length (stretch rs) })

-- "Lent memory is unchanged" on a refusal; "On success only the cells .. of the answer are written"
abbrev pub cells_after : Result (List Record) → List ℕ → List ℕ
cells_after (Err x) cells = cells
cells_after (Ok rs) cells = overwrite (list_of rs) cells

-- what `write` returns and what it leaves in the line
abbrev pub write_returns : (line : List ℕ) (start : ℕ) (cells : List ℕ) → Result ℕ
write_returns line start cells = written_of start (write_line line start cells)

abbrev pub write_leaves : (line : List ℕ) (start : ℕ) (cells : List ℕ) → List ℕ
write_leaves line start cells = line_after (write_line line start cells) line start

-- what `read` returns and what it leaves in the lent list
abbrev pub read_returns : (line : List ℕ) (start : ℕ) → Position → (cells : List ℕ) → Result ReadLine
read_returns line start P cells = read_of start (read_line_into line start P (length cells))

abbrev pub read_leaves : (line : List ℕ) (start : ℕ) → Position → (cells : List ℕ) → List ℕ
read_leaves line start P cells = cells_after (read_line_into line start P (length cells)) cells

-- The line that `write` left, given to `read`: "the data part of the records", at the caller's position, and the same end.
pub record ReadAgain (line : List ℕ) (start : ℕ) (cells : List ℕ) (end : ℕ) (P : Position) (lent : List ℕ) : Type 0 where
  pub records : List Record
  pub listed : read_list cells ≡ Ok records
  pub returns : read_returns (write_leaves line start cells) start P lent ≡ Ok (record { count = length records; cells = length cells; end = end })
  pub leaves : read_leaves (write_leaves line start cells) start P lent ≡ overwrite (list_of (map (placed P) records)) lent
