-- Sending a field on "in the packets it arrived in" (02, K13): the cells of a list that came in a packet, by each record's ninth cell.
use Rattle.std.specs.Prelude.{cond, List, ℕ, zero, suc, ◌+◌, eqb, length, drop, Option, Some, None}
use Rattle.wire_spec.specs.Cells.{head_cells, cell_index}
use Rattle.anc_record.specs.declared.check.Front.{Front}
use Rattle.anc_record.specs.Answers.{front_of}

-- the cells that a record takes which stands at the front of `l`, if it came in packet `k`
abbrev pub front_cells : ℕ → List ℕ → Option Front → ℕ
front_cells k l None = 0
front_cells k l (Some p) = cond (eqb (cell_index l) k) (head_cells + p.words.0) 0

-- 0 where no record stands there, or one of another packet
abbrev pub record_cells : ℕ → List ℕ → ℕ
record_cells k l = front_cells k l (front_of l)

-- the cells of the records at the front of `l` that came in packet `k`; the first argument bounds how many there can be
unfoldable pub cells_within : ℕ → ℕ → List ℕ → ℕ
cells_within zero k l = 0
cells_within (suc bound) k l =
    cond (eqb (record_cells k l) 0) 0 (record_cells k l + cells_within bound k (drop (record_cells k l) l))

-- there are at most as many records as cells
abbrev pub packet_cells : ℕ → List ℕ → ℕ
packet_cells k l = cells_within (length l) k l
