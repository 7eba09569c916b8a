-- The room that a line of `fielddiff` can take: five numbers, and what stands between them.
use Rattle.std.specs.Prelude.{ℕ, ◌+◌, ◌*◌}
use Rattle.text.specs.Text.{decimal_most}

abbrev pub line_room : ℕ
line_room = 5 * decimal_most + 5

-- a label: ` records `
abbrev pub label_room : ℕ
label_room = 9
