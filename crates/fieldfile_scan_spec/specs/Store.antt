-- The records of a field that is being read, in a store of constant size: the cells so far while the field is within the limits.
use Rattle.std.specs.Prelude.{◌≡◌, true, cond, List, ℕ, ◌+◌, ◌≤◌, length, take}
use Rattle.wire_spec.specs.Bits.{splice}
use Rattle.wire_spec.specs.Anc.{Record}
use Rattle.wire_spec.specs.Cells.{cells_of, list_of, head_cells}
use Rattle.wire_spec.specs.Writing.{max_field_cells}
use Rattle.fieldfile_spec.specs.File.{within_limits}

-- What is held: how many records and cells were read, and the store.
pub record Held : Type 0 where
  pub records : ℕ
  pub cells : ℕ
  pub store : List ℕ

-- it stands for the records `rs`; past the limits the store is not looked at
pub record Holds (h : Held) (rs : List Record) : Type 0 where
  pub room : max_field_cells ≤ length h.store
  pub records : h.records ≡ length rs
  pub cells : h.cells ≡ length (list_of rs)
  pub store : within_limits h.records h.cells ≡ true → take h.cells h.store ≡ list_of rs

-- one record more: counted, and its cells written behind the others where the field stays within the limits
abbrev pub hold : Held → Record → Held
hold h r =
    record {
      records = h.records + 1;
      cells = h.cells + (head_cells + length r.words);
      store =
          cond (within_limits (h.records + 1) (h.cells + (head_cells + length r.words))) (splice h.store h.cells (cells_of r)) h.store;
    }
