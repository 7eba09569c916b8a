-- What is still to be read of a file, and still to be printed of two.
use Rattle.std.specs.Prelude.{List, [], ◌∷◌, ◌++◌, ℕ, suc, ◌+◌, max, length, drop}
use Rattle.wire_spec.specs.declared.refusal.Refusal.{Refusal}
use Rattle.wire_spec.specs.Anc.{Record}
use Rattle.wire_spec.specs.Cells.{cells_of}
use Rattle.fieldfile_spec.specs.declared.format.Version.{Version}
use Rattle.fieldfile_spec.specs.File.{FieldContent, FileRead, no_field, field_then, read_file}
use Rattle.fieldfile_scan_spec.specs.Window.{State, next, Turn, stops, gives, goes, onward, fields_from}
use Rattle.fielddiff_spec.specs.Diff.{Line, place_at, up_to, compare_at, cell_lines}

-- Where a file stands: before its head; being read; with a field at the position; or over, by the refusal that ended its reading (54: its end)
pub data Standing : Type 0 where
  starts : Standing
  reading : Version → State → Standing
  has : Version → FieldContent → Standing
  over : Refusal → Standing

-- its fields from the octets `s` on
abbrev pub fields_in : Version → List ℕ → FileRead
fields_in v s = fields_from (suc (length s)) v s

-- what is to come of it, from the position on, where the octets `s` are left
abbrev pub rest_of : Standing → List ℕ → FileRead
rest_of starts s = read_file s
rest_of (reading v st) s = onward (next st s) (λ rest. fields_in v rest)
rest_of (has v k) s = field_then k (fields_in v s)
rest_of (over x) s = no_field x

-- where it stands behind a turn, and the octets that are then left
abbrev pub standing_after : Version → Turn → Standing
standing_after v (stops x) = over x
standing_after v (gives k) = has v k
standing_after v (goes st used) = reading v st

abbrev pub left_after : Turn → List ℕ → List ℕ
left_after (stops x) s = s
left_after (gives k) s = s
left_after (goes st used) s = drop used s

-- THE LINES FROM A POSITION ON
unfoldable pub lines_from : ℕ → (a b : FileRead) → List Line
lines_from i a b = up_to (λ j. compare_at (i + j) (place_at a j) (place_at b j)) (suc (max (length a.fields) (length b.fields)))

-- the lines of records that are still to be compared, the first of either side with index `j`: "as far as both go, each record by position"
abbrev pub record_lines_from : (i j : ℕ) (xs ys : List Record) → List Line
record_lines_from i j [] ys = []
record_lines_from i j (x ∷ xs) [] = []
record_lines_from i j (x ∷ xs) (y ∷ ys) = cell_lines i j (cells_of x) (cells_of y) ++ record_lines_from i (j + 1) xs ys
