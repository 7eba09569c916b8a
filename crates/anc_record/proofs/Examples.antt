-- 01's records A and B in one list, as headers: a plain line, and the special values.
-- By computation.
use mathlib.Core.Path.{◌≡◌, refl}
use mathlib.Core.Bool.{true, false}
use mathlib.Core.List.{[], ◌∷◌}
use Rattle.wire_spec.specs.Cells.{list_of, cell_record, head_in_range, cell_checks}
use Rattle.wire_spec.specs.Result.{Ok, refuse}
use Rattle.wire_spec.proofs.Examples.{a, b}
use Rattle.anc_record.specs.declared.location.Line.TheVariants as line
use Rattle.anc_record.specs.declared.location.Offset.TheVariants as offset
use Rattle.anc_record.specs.declared.header.Header.{Header}
use Rattle.anc_record.specs.Location.{line_of, offset_of}
use Rattle.anc_record.specs.Header.{header_at}

abbrev a_header : Header
a_header =
    record {
      c = false;
      location = record { line = line.Number 9; offset = offset.Number 0 };
      s = false;
      stream = 0;
      did = 0x41;
      sdid = 0x05;
      words = record { 0 = 0 };
    }

abbrev b_header : Header
b_header =
    record {
      c = true;
      location = record { line = line.Unspecified; offset = offset.Unspecified };
      s = true;
      stream = 3;
      did = 0x61;
      sdid = 0x02;
      words = record { 0 = 2 };
    }

-- "0x7FF no specific line, 0x7FE any line from the second after the switching line to the last before active video, 0x7FD too large for 11 bits.
-- Offsets: 0xFFF none, 0xFFE in horizontal ancillary space, 0xFFD between SAV and EAV, 0xFFC too large for 12 bits. .. all other numbers are plain."
pub places : (line_of 0x7FF ≡ line.Unspecified) × (line_of 0x7FE ≡ line.Vertical) × (line_of 0x7FD ≡ line.TooLarge) × (line_of 0x7FC ≡ line.Number 0x7FC)
    × (line_of 0 ≡ line.Number 0) × (offset_of 0xFFF ≡ offset.Unspecified) × (offset_of 0xFFE ≡ offset.Horizontal) × (offset_of 0xFFD ≡ offset.SavToEav)
    × (offset_of 0xFFC ≡ offset.TooLarge) × (offset_of 0xFFB ≡ offset.Number 0xFFB) × (offset_of 0 ≡ offset.Number 0)
unfolding line_of offset_of
places = (refl, refl, refl, refl, refl, refl, refl, refl, refl, refl, refl)

-- A starts at cell 0 and B at cell 9; none starts at 10, nor behind the last cell
pub headers : (header_at (list_of (a ∷ b ∷ [])) 0 ≡ Ok a_header) × (header_at (list_of (a ∷ b ∷ [])) 9 ≡ Ok b_header)
    × (header_at (list_of (a ∷ b ∷ [])) 10 ≡ refuse 20 0) × (header_at (list_of (a ∷ b ∷ [])) 99 ≡ refuse 20 0)
unfolding line_of offset_of cell_record head_in_range cell_checks header_at
headers = (refl, refl, refl, refl)
