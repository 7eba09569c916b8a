-- Options, words that are none, and `old`.
-- By computation.
use mathlib.Core.Path.{◌≡◌, refl}
use mathlib.Core.Bool.{true, false}
use mathlib.Core.List.{[]}
use Rattle.program_arguments.specs.declared.options.Told.TheVariants as told
use Rattle.wire_spec.specs.Layout.{rfc8331, draft2015}
use Rattle.program_arguments.specs.Files.{is_old, layout_of}
use Rattle.program_arguments.specs.Options.{is_text, option_of}
use Rattle.program_arguments.proofs.OptionLaws.{octets}

pub options : (option_of (octets "--help") ≡ told.Help)
    × (option_of (octets "--version") ≡ told.Version)
    × (option_of (octets "-h") ≡ told.Unknown)
    × (option_of (octets "-") ≡ told.Unknown)
    × (option_of (octets "--helper") ≡ told.Unknown)
    × (option_of (octets "--hel") ≡ told.Unknown)
    × (option_of (octets "--Version") ≡ told.Unknown)
unfolding option_of is_text
options = (refl, refl, refl, refl, refl, refl, refl)

-- a file's name, also of one that is named like an option or like `old`
pub operands : (option_of (octets "./-x") ≡ told.Operand)
    × (option_of (octets "./old") ≡ told.Operand)
    × (option_of (octets "old") ≡ told.Operand)
    × (option_of (octets "x--help") ≡ told.Operand)
    × (option_of [] ≡ told.Operand)
unfolding option_of is_text
operands = (refl, refl, refl, refl, refl)

-- the word, and words that are files' names
pub old : (is_old (octets "old") ≡ true)
    × (is_old (octets "./old") ≡ false)
    × (is_old (octets "Old") ≡ false)
    × (is_old (octets "older") ≡ false)
    × (is_old (octets "ol") ≡ false)
    × (is_old [] ≡ false)
    × (layout_of (octets "old") ≡ draft2015)
    × (layout_of (octets "older") ≡ rfc8331)
unfolding is_text
old = (refl, refl, refl, refl, refl, refl, refl, refl)
