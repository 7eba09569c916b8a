-- The header struct as what stands before a record's words, its record and its cells (01, "Records in a lent list").
use Rattle.std.specs.Prelude.{◌≡◌, List, [], ◌∷◌, ◌++◌, ℕ, ◌≤◌, eqb, length, drop}
use Rattle.anc_record.specs.declared.header.Header.{Header}
use Rattle.anc_record.specs.Location.{line_of, line_number, offset_of, offset_number}
use Rattle.wire_spec.specs.Bits.{bit, Fields}
use Rattle.wire_spec.specs.Layout.{rfc8331}
use Rattle.wire_spec.specs.Result.{Result, Ok, judge}
use Rattle.wire_spec.specs.Anc.{Record, InRange, location_fields}
use Rattle.wire_spec.specs.Cells.{cells_in, max_index, cell_record, cell_checks}

-- what a record says before its words
abbrev pub header_of : Record → Header
header_of r =
    record {
      c = eqb r.c 1;
      location = record { line = line_of r.line; offset = offset_of r.offset };
      s = eqb r.s 1;
      stream = r.stream;
      did = r.did;
      sdid = r.sdid;
      words = record { 0 = length r.words };
    }

-- the record of a header and of words
abbrev pub record_of : Header → List ℕ → Record
record_of h ws =
    record {
      c = bit h.c;
      line = line_number h.location.line;
      offset = offset_number h.location.offset;
      s = bit h.s;
      stream = h.stream;
      did = h.did;
      sdid = h.sdid;
      words = ws;
    }

-- 01, "Records in a lent list": C, line, offset, S, StreamNum, DID, SDID, n; 02, K13: the index of the record's packet
abbrev pub header_cells : ℕ → Header → List ℕ
header_cells p h =
    bit h.c ∷ line_number h.location.line ∷ offset_number h.location.offset ∷ bit h.s ∷ h.stream
    ∷ h.did ∷ h.sdid ∷ h.words.0 ∷ p ∷ []

-- RFC 8331, section 2.1: the 32 bits before DID
abbrev pub header_location : Header → Fields
header_location h = location_fields rfc8331 (record_of h [])

-- the header of the record that starts at cell `at` of the list; 20: "list malformed: a cell too large for its field, a record cut"
unfoldable pub header_at : List ℕ → ℕ → Result Header
header_at l at = judge 0 (cell_checks (drop at l)) (Ok (header_of (cell_record (drop at l))))

-- the cells of the record `r`, whose numbers are in range, stand from the cell `at` on, with others behind them
pub record StandsAt (l : List ℕ) (at : ℕ) (r : Record) : Type 0 where
  pub formed : InRange rfc8331 r
  pub index : ℕ
  pub taken : index ≤ max_index
  pub behind : List ℕ
  pub cells : drop at l ≡ cells_in index r ++ behind
