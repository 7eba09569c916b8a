-- What `pcapframes` tells on standard error when a capture has ended: what was left out, and the refusal that ended the walk.
use Rattle.std.specs.Prelude.{◌||◌, cond, List, [], ◌++◌, ℕ, ◌+◌, ltb, Option, Some, None}
use Rattle.text.specs.Text.{ascii, decimal, decimal_most}
use Rattle.pcapframes_spec.specs.declared.session.Session.{Session}

-- two numbers, each behind its label, on a line
abbrev pub line_text : (before : List ℕ) (first : ℕ) (between : List ℕ) (second : ℕ) → List ℕ
line_text before first between second = before ++ decimal first ++ (between ++ decimal second) ++ ascii "\n"

-- "fragments=1 cut=0", where there were any of either
unfoldable pub left_out_text : (fragments cut : ℕ) → List ℕ
left_out_text f k = cond (ltb 0 f || ltb 0 k) (line_text (ascii "fragments=") f (ascii " cut=") k) []

-- "refused 81 3": its number, and the packets before it
unfoldable pub refused_text : Option ℕ → (packets : ℕ) → List ℕ
refused_text None n = []
refused_text (Some x) n = line_text (ascii "refused ") x (ascii " ") n

-- WHAT IS TOLD
abbrev pub told_text : Session → List ℕ
told_text s = left_out_text s.fragments s.cut ++ refused_text s.refusal s.packets

-- octets that both labels of a line may take, then a line with two numbers and its end, and both lines: what the code asks of the octets that it is lent
abbrev pub labels_room : ℕ
labels_room = 15

abbrev pub line_room : ℕ
line_room = labels_room + decimal_most + decimal_most + 1

abbrev pub told_room : ℕ
told_room = line_room + line_room
