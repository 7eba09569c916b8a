-- The layout and the file among the arguments of a program over frames: `[old] FILE`.
use Rattle.std.specs.Prelude.{Bool, cond, List, ℕ}
use Rattle.wire_spec.specs.Layout.{Layout, rfc8331, draft2015}
use Rattle.wire_spec.specs.declared.layout.Layout.TheVariants as layout
use Rattle.program_arguments.specs.Options.{is_text}

-- a first argument that is this word tells the drafts' layout (02, K3)
abbrev pub is_old : List ℕ → Bool
is_old word = is_text word "old"

abbrev pub layout_of : List ℕ → Layout
layout_of word = cond (is_old word) draft2015 rfc8331

-- WHERE THE FILE STANDS among the arguments: first, or behind `old`
abbrev pub file_at : Layout → ℕ
file_at layout.Rfc8331 = 1
file_at layout.Draft2015 = 2
