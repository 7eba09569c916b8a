-- Octets that a text may take: what the code asks of the octets that it is lent.
use Rattle.std.specs.Prelude.{Bool, ℕ, ◌+◌, ◌*◌, leb}
use Rattle.fieldlist_records.specs.Records.{cell_room}

-- a line of anything else
abbrev pub line_room : ℕ
line_room = 160

-- the line of the counts, with three numbers of 20 digits
abbrev pub counts_room : ℕ
counts_room = 82

-- enough for what one packet can print, over a store of so many cells
abbrev pub roomy : (store out : ℕ) → Bool
roomy store out = leb (line_room + cell_room * store) out
