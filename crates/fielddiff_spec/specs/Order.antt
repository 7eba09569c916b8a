-- The order of the lines: by position, then "timestamp, F, record count, then .. each record by position and each differing cell".
use Rattle.std.specs.Prelude.{◌≡◌, ◌⊎◌, ℕ, ◌<◌}
use mathlib.Core.List.{List, [], ◌∷◌, Memᴰ}
use Rattle.fielddiff_spec.specs.Diff.{Line, ts_line, f_line, records_line, cell_line, only_line, refused_line}

abbrev pub position : Line → ℕ
position (ts_line i l r) = i
position (f_line i l r) = i
position (records_line i l r) = i
position (cell_line i j k l r) = i
position (only_line i s) = i
position (refused_line i l r) = i

-- a line's kind
abbrev pub kind : Line → ℕ
kind (ts_line i l r) = 0
kind (f_line i l r) = 1
kind (records_line i l r) = 2
kind (cell_line i j k l r) = 3
kind (only_line i s) = 4
kind (refused_line i l r) = 5

-- its record and its cell
abbrev pub cell_place : Line → List ℕ
cell_place (ts_line i l r) = []
cell_place (f_line i l r) = []
cell_place (records_line i l r) = []
cell_place (cell_line i j k l r) = j ∷ k ∷ []
cell_place (only_line i s) = []
cell_place (refused_line i l r) = []

abbrev pub key : Line → List ℕ
key l = position l ∷ kind l ∷ cell_place l

-- lexicographic
abbrev pub Less : (xs ys : List ℕ) → Type 0
Less [] ys = ⊥
Less (x ∷ xs) [] = ⊥
Less (x ∷ xs) (y ∷ ys) = (x < y) ⊎ ((x ≡ y) × Less xs ys)

abbrev pub Before : (x y : Line) → Type 0
Before x y = Less (key x) (key y)

-- each line stands before all that follow it
abbrev pub Sorted : List Line → Type 0
Sorted [] = Unit {0}
Sorted (x ∷ xs) = ((y : Line) → Memᴰ y xs → Before x y) × Sorted xs
