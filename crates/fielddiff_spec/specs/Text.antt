-- The text of a line (02, K14, "Lines: .."; "numbers decimal").
use Rattle.std.specs.Prelude.{List, [], ◌∷◌, ◌++◌, ℕ}
use Rattle.text.specs.Text.{ascii, decimal}
use Rattle.fielddiff_spec.specs.Diff.{left, right, Shown, dash, number, Line, ts_line, f_line, records_line, cell_line, only_line, refused_line, differences}
use Rattle.fielddiff_spec.specs.Order.{position}

-- "with `-` for a side not refused"
abbrev pub shown_text : Shown → List ℕ
shown_text dash = ascii "-"
shown_text (number n) = decimal n

-- "L R", and the line's end
abbrev pub sides_text : (l r : List ℕ) → List ℕ
sides_text l r = l ++ (ascii " " ++ (r ++ ascii "\n"))

-- "`I ts L R`, `I f L R`, `I records L R`, `I J K L R` .., `I only left` or `right`, `I refused L R`": what follows I
abbrev pub rest_text : Line → List ℕ
rest_text (ts_line i l r) = ascii " ts " ++ sides_text (decimal l) (decimal r)
rest_text (f_line i l r) = ascii " f " ++ sides_text (decimal l) (decimal r)
rest_text (records_line i l r) = ascii " records " ++ sides_text (decimal l) (decimal r)
rest_text (cell_line i j k l r) =
    ascii " " ++ (decimal j ++ (ascii " " ++ (decimal k ++ (ascii " " ++ sides_text (decimal l) (decimal r)))))
rest_text (only_line i left) = ascii " only left\n"
rest_text (only_line i right) = ascii " only right\n"
rest_text (refused_line i l r) = ascii " refused " ++ sides_text (shown_text l) (shown_text r)

unfoldable pub line_text : Line → List ℕ
line_text l = decimal (position l) ++ rest_text l

-- the text of the list, which is what the program prints
abbrev pub diff_text : List Line → List ℕ
diff_text [] = []
diff_text (l ∷ ls) = line_text l ++ diff_text ls

-- THE WHOLE OUTPUT, over the two files' octets
abbrev pub comparison : (a b : List ℕ) → List ℕ
comparison a b = diff_text (differences a b)
