-- A line or an offset, or the region that its special numbers stand for (RFC 8331, section 2.1; 01, "A record's place").
use Rattle.std.specs.Prelude.{◌≡◌, cond, ℕ, eqb}
use Rattle.anc_record.specs.declared.location.Line.{Line}
use Rattle.anc_record.specs.declared.location.Line.TheVariants as line
use Rattle.anc_record.specs.declared.location.Offset.{Offset}
use Rattle.anc_record.specs.declared.location.Offset.TheVariants as offset

-- "0x7FF no specific line, 0x7FE any line from the second after the switching line to the last before active video,
-- 0x7FD too large for 11 bits"
abbrev pub line_number : Line → ℕ
line_number (line.Number x) = x
line_number line.Unspecified = 0x7FF
line_number line.Vertical = 0x7FE
line_number line.TooLarge = 0x7FD

-- "all other numbers are plain"
unfoldable pub line_of : ℕ → Line
line_of x =
    cond (eqb x (line_number line.Unspecified)) line.Unspecified
    (cond (eqb x (line_number line.Vertical)) line.Vertical
    (cond (eqb x (line_number line.TooLarge)) line.TooLarge (line.Number x)))

-- "0xFFF none, 0xFFE in horizontal ancillary space, 0xFFD between SAV and EAV, 0xFFC too large for 12 bits"
abbrev pub offset_number : Offset → ℕ
offset_number (offset.Number x) = x
offset_number offset.Unspecified = 0xFFF
offset_number offset.Horizontal = 0xFFE
offset_number offset.SavToEav = 0xFFD
offset_number offset.TooLarge = 0xFFC

-- "all other numbers are plain"
unfoldable pub offset_of : ℕ → Offset
offset_of x =
    cond (eqb x (offset_number offset.Unspecified)) offset.Unspecified
    (cond (eqb x (offset_number offset.Horizontal)) offset.Horizontal
    (cond (eqb x (offset_number offset.SavToEav)) offset.SavToEav
    (cond (eqb x (offset_number offset.TooLarge)) offset.TooLarge (offset.Number x))))

-- a line whose plain number is none of the special ones
abbrev pub PlainLine : Line → Type 0
PlainLine (line.Number x) = (x ≡ 0x7FF → ⊥) × (x ≡ 0x7FE → ⊥) × (x ≡ 0x7FD → ⊥)
PlainLine line.Unspecified = Unit {0}
PlainLine line.Vertical = Unit {0}
PlainLine line.TooLarge = Unit {0}

-- an offset whose plain number is none of the special ones
abbrev pub PlainOffset : Offset → Type 0
PlainOffset (offset.Number x) = (x ≡ 0xFFF → ⊥) × (x ≡ 0xFFE → ⊥) × (x ≡ 0xFFD → ⊥) × (x ≡ 0xFFC → ⊥)
PlainOffset offset.Unspecified = Unit {0}
PlainOffset offset.Horizontal = Unit {0}
PlainOffset offset.SavToEav = Unit {0}
PlainOffset offset.TooLarge = Unit {0}
