-- What the answers say in the papers' terms: the refusal, or what was found.
use Rattle.std.specs.Prelude.{Bool, false, ◌&&◌, List, ℕ, ◌+◌, leb, length, Option, Some, None}
use Rattle.wire_spec.specs.Result.{Result, Err, Ok, judge}
use Rattle.wire_spec.specs.Anc.{Record}
use Rattle.wire_spec.specs.Words.{all_clear}
use Rattle.wire_spec.specs.Cells.{head_cells, cell_count, head_in_range, cell_checks, cell_record}
use Rattle.anc_record.specs.declared.check.Front.{Front}
use Rattle.anc_record.specs.declared.header.Header.{Header}

-- a record, by its n and by whether it has no protected word (02, K5); or 20: "list malformed", the same for all of its cases
abbrev pub front_from : Result Record → Option Front
front_from (Err x) = None
front_from (Ok r) = Some (record { words = record { 0 = length r.words }; clear = all_clear r.words })

-- the record at the front of the cells
abbrev pub front_of : List ℕ → Option Front
front_of l = front_from (judge 0 (cell_checks l) (Ok (cell_record l)))

-- the first three of its checks: the cells before the words are there and fit their fields, and as many words stand behind them as n says
abbrev pub has_words : List ℕ → Bool
has_words l = leb head_cells (length l) && (head_in_range l && leb (head_cells + cell_count l) (length l))

-- a record without a protected word
abbrev pub is_clear_front : Option Front → Bool
is_clear_front None = false
is_clear_front (Some p) = p.clear

-- a header, or the refusal
abbrev pub found_of : Result Header → Result Header
found_of (Err x) = Err x
found_of (Ok h) = Ok h
