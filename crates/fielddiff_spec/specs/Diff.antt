-- Two files compared (02, K14: "prints every difference and nothing else").
use Rattle.std.specs.Prelude.{◌≡◌, cond, List, [], ◌∷◌, ◌++◌, map, ℕ, zero, suc, ◌<◌, min, max, eqb, length, get_or}
use Rattle.wire_spec.specs.Anc.{Record}
use Rattle.wire_spec.specs.Cells.{cells_of}
use Rattle.fieldfile_spec.specs.File.{FieldContent, FileRead, end_of_file, read_file}

-- "left and right"
pub data Side : Type 0 where
  left right : Side

-- "`I refused L R` with `-` for a side not refused"
pub data Shown : Type 0 where
  dash : Shown
  number : ℕ → Shown

-- "Lines: `I ts L R`, `I f L R`, `I records L R`, `I J K L R` (record J, its cell K, words included), `I only left` or `right`,
-- `I refused L R`"
pub data Line : Type 0 where
  ts_line f_line records_line : (i l r : ℕ) → Line
  cell_line : (i j k l r : ℕ) → Line
  only_line : (i : ℕ) → Side → Line
  refused_line : (i : ℕ) (l r : Shown) → Line

-- What a file has at a position: "54 is only the end", and behind a refusal there is nothing to compare.
pub data Place : Type 0 where
  field : FieldContent → Place
  ended : Place
  refusal : ℕ → Place
  unread : Place

-- "54 is only the end"
abbrev pub end_number : ℕ
end_number = end_of_file.number

-- the place behind the last field, by the number that ended the reading
abbrev pub end_place : ℕ → Place
end_place n = cond (eqb n end_number) ended (refusal n)

-- and those behind it
abbrev pub after_place : ℕ → Place
after_place n = cond (eqb n end_number) ended unread

-- "fields matched by position", "positions from 0"
abbrev pub place_in : List FieldContent → (end : ℕ) → ℕ → Place
place_in [] n zero = end_place n
place_in [] n (suc i) = after_place n
place_in (x ∷ xs) n zero = field x
place_in (x ∷ xs) n (suc i) = place_in xs n i

abbrev pub place_at : FileRead → ℕ → Place
place_at a i = place_in a.fields a.end.number i

-- the lines of the positions below `n`, in order
unfoldable pub up_to : (ℕ → List Line) → ℕ → List Line
up_to g zero = []
up_to g (suc n) = up_to g n ++ g n

-- "each differing ..": a line where the two numbers differ
abbrev pub differ : (ℕ → ℕ → Line) → (l r : ℕ) → List Line
differ line l r = cond (eqb l r) [] (line l r ∷ [])

-- ".. cell or word", "as far as both go"
unfoldable pub cell_lines : (i j : ℕ) (xs ys : List ℕ) → List Line
cell_lines i j xs ys = up_to (λ k. differ (cell_line i j k) (get_or xs k 0) (get_or ys k 0)) (min (length xs) (length ys))

-- the cells of the record at a position
abbrev pub cells_at : List Record → ℕ → List ℕ
cells_at rs j = get_or (map cells_of rs) j []

-- "as far as both go, each record by position"
unfoldable pub record_lines : (i : ℕ) (xs ys : List Record) → List Line
record_lines i xs ys = up_to (λ j. cell_lines i j (cells_at xs j) (cells_at ys j)) (min (length xs) (length ys))

-- "then timestamp, F, record count, then .. each record"
unfoldable pub field_lines : ℕ → (x y : FieldContent) → List Line
field_lines i x y =
    differ (ts_line i) x.timestamp y.timestamp
    ++ (differ (f_line i) x.f y.f
    ++ (differ (records_line i) (length x.records) (length y.records) ++ record_lines i x.records y.records))

-- one position: both have a field; only one has; a side is refused there; or nothing to say
unfoldable pub compare_at : ℕ → (p q : Place) → List Line
compare_at i (field x) (field y) = field_lines i x y
compare_at i (field x) ended = only_line i left ∷ []
compare_at i (field x) (refusal m) = refused_line i dash (number m) ∷ []
compare_at i (field x) unread = []
compare_at i ended (field y) = only_line i right ∷ []
compare_at i ended ended = []
compare_at i ended (refusal m) = refused_line i dash (number m) ∷ []
compare_at i ended unread = []
compare_at i (refusal n) (field y) = refused_line i (number n) dash ∷ []
compare_at i (refusal n) ended = refused_line i (number n) dash ∷ []
compare_at i (refusal n) (refusal m) = refused_line i (number n) (number m) ∷ []
compare_at i (refusal n) unread = []
compare_at i unread q = []

abbrev pub lines_at : (a b : FileRead) → ℕ → List Line
lines_at a b i = compare_at i (place_at a i) (place_at b i)

-- the whole list: the positions of the fields of both, and the place behind the last
unfoldable pub diff : (a b : FileRead) → List Line
diff a b = up_to (lines_at a b) (suc (max (length a.fields) (length b.fields)))

-- THE LIST, over the two files' octets
abbrev pub differences : (a b : List ℕ) → List Line
differences a b = diff (read_file a) (read_file b)

-- "with left and right exchanged"
abbrev pub swap_side : Side → Side
swap_side left = right
swap_side right = left

abbrev pub swap : Line → Line
swap (ts_line i l r) = ts_line i r l
swap (f_line i l r) = f_line i r l
swap (records_line i l r) = records_line i r l
swap (cell_line i j k l r) = cell_line i j k r l
swap (only_line i s) = only_line i (swap_side s)
swap (refused_line i l r) = refused_line i r l

-- What each kind of line says, without the comparison.
-- both files have a field at `i`, with such a number each, and the two differ
pub record Differs (a b : FileRead) (i : ℕ) (of : FieldContent → ℕ) (l r : ℕ) : Type 0 where
  pub x : FieldContent
  pub y : FieldContent
  pub is_left : place_at a i ≡ field x
  pub is_right : place_at b i ≡ field y
  pub left_is : of x ≡ l
  pub right_is : of y ≡ r
  pub differ : l ≡ r → ⊥

-- both have a field at `i`, both fields a record at `j`, both records a cell at `k`, and the two differ
pub record CellDiffers (a b : FileRead) (i j k l r : ℕ) : Type 0 where
  pub x : FieldContent
  pub y : FieldContent
  pub is_left : place_at a i ≡ field x
  pub is_right : place_at b i ≡ field y
  pub left_record : j < length x.records
  pub right_record : j < length y.records
  pub left_cell : k < length (cells_at x.records j)
  pub right_cell : k < length (cells_at y.records j)
  pub left_is : get_or (cells_at x.records j) k 0 ≡ l
  pub right_is : get_or (cells_at y.records j) k 0 ≡ r
  pub differ : l ≡ r → ⊥

-- a side at a position where the line of a refusal stands: "`-` for a side not refused"
abbrev pub ShownAs : Place → Shown → Type 0
ShownAs (field x) s = s ≡ dash
ShownAs ended s = s ≡ dash
ShownAs (refusal n) s = s ≡ number n
ShownAs unread s = ⊥

abbrev pub Only : (p q : Place) → Type 0
Only p q = ((x : FieldContent) × (p ≡ field x)) × (q ≡ ended)

abbrev pub Stands : (a b : FileRead) → Line → Type 0
Stands a b (ts_line i l r) = Differs a b i (λ x. x.timestamp) l r
Stands a b (f_line i l r) = Differs a b i (λ x. x.f) l r
Stands a b (records_line i l r) = Differs a b i (λ x. length x.records) l r
Stands a b (cell_line i j k l r) = CellDiffers a b i j k l r
Stands a b (only_line i left) = Only (place_at a i) (place_at b i)
Stands a b (only_line i right) = Only (place_at b i) (place_at a i)
Stands a b (refused_line i l r) = ShownAs (place_at a i) l × ShownAs (place_at b i) r × (((l ≡ dash) × (r ≡ dash)) → ⊥)
