-- A file that was written field by field, read field by field.
use Rattle.wire_spec.specs.Result.{Ok, Err}
use Rattle.std.specs.Prelude.{◌≡◌, List, [], ◌∷◌, ◌++◌, ℕ, ◌+◌, ◌^◌, ◌<◌, ◌≤◌, length, take, drop}
use Rattle.wire_spec.specs.declared.count.OctetCount.{OctetCount}
use Rattle.wire_spec.specs.Anc.{Record}
use Rattle.wire_spec.specs.Cells.{list_in, Lists}
use Rattle.fieldfile_reader.specs.Answers.{read_returns, read_leaves}
use Rattle.fieldfile_writer.specs.Entry.{field_returns, field_leaves}

-- a call of `write_field` that wrote: what it was given, and the octets that it returned
pub record Wrote : Type 0 where
  pub timestamp : ℕ
  pub f : ℕ
  pub cells : List ℕ
  pub out : List ℕ
  pub size : OctetCount
  pub typed : timestamp < 2 ^ 32
  pub returned : field_returns timestamp f cells out ≡ Ok size

-- the octets that it left, and those of calls one behind the other
abbrev pub octets_of : Wrote → List ℕ
octets_of w = take w.size.0 (field_leaves w.timestamp w.f w.cells w.out)

abbrev pub all_octets : List Wrote → List ℕ
all_octets [] = []
all_octets (w ∷ ws) = octets_of w ++ all_octets ws

-- "A field written and read is the same field", "apart from this cell", which "read[s] as 0" (02, K13): timestamp, F, how many records and cells, the offset
-- after it, and in the lent list the cells of its records and nothing else
pub record ReadBack (file : List ℕ) (at : ℕ) (w : Wrote) (lent : List ℕ) : Type 0 where
  pub records : List Record
  pub lists : Lists records w.cells
  pub returns : read_returns file at lent
      ≡ Ok (record {
        timestamp = record { 0 = w.timestamp };
        f = w.f;
        records = length records;
        cells = length w.cells;
        next = record { 0 = at + w.size.0 };
      })
  pub leaves : take (length w.cells) (read_leaves file at lent) ≡ list_in 0 records
  pub rest : drop (length w.cells) (read_leaves file at lent) ≡ drop (length w.cells) lent

-- from the offset `at` on the fields are read one after the other, each into any list that is long enough, and then 54
abbrev pub ReadOn : (file : List ℕ) (at : ℕ) → List Wrote → Type 0
ReadOn file at [] = (lent : List ℕ) → read_returns file at lent ≡ Err (record { number = 54; index = 0 })
ReadOn file at (w ∷ ws) = ((lent : List ℕ) → length w.cells ≤ length lent → ReadBack file at w lent) × ReadOn file (at + w.size.0) ws
