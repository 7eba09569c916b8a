-- The options of every program: what a word among its arguments tells it.
use Rattle.std.specs.Prelude.{Bool, true, false, cond, ◌&&◌, List, [], ◌∷◌, ℕ, eqb}
use Prim.Native.Char.{code}
use Prim.Native.String.{String, [] as []ˢ, ◌∷◌ as ◌∷ˢ◌}
use Rattle.program_arguments.specs.declared.options.Told.{Told}
use Rattle.program_arguments.specs.declared.options.Told.TheVariants as told

-- a word is this text, octet by octet
unfoldable pub is_text : List ℕ → String → Bool
is_text [] []ˢ = true
is_text [] (c ∷ˢ s) = false
is_text (x ∷ xs) []ˢ = false
is_text (x ∷ xs) (c ∷ˢ s) = eqb x (code c) && is_text xs s

-- "-", which an option begins with
abbrev pub dash : ℕ
dash = 0x2D

-- which option it is
abbrev pub named : List ℕ → Told
named word = cond (is_text word "--help") told.Help (cond (is_text word "--version") told.Version told.Unknown)

-- AN ARGUMENT that begins with `-` is an option, and no other is
unfoldable pub option_of : List ℕ → Told
option_of [] = told.Operand
option_of (x ∷ xs) = cond (eqb x dash) (named (x ∷ xs)) told.Operand
