-- A record is that of its header and its words, so the header has the cells and the fields that the record has before its words.
-- A flag of one bit and a line or offset are their numbers again.
use mathlib.Core.Path.{◌≡◌, ap}
use Prim.Native.Nat.{ℕ, ◌<◌}
use lib.ListN.{take}
use Rattle.wire_spec.specs.Anc.{Record, location_fields}
use Rattle.wire_spec.specs.Cells.{head_cells, cells_in}
use Rattle.wire_spec.specs.Layout.{rfc8331}
use Rattle.wire_spec.proofs.BitLaws.{flag}
use Rattle.anc_record.specs.Header.{header_of, record_of, header_cells, header_location}
use Rattle.anc_record.proofs.LocationLaws.{line-of-number, offset-of-number}

module _ (r : Record) (c : r.c < 2) (s : r.s < 2) where
  pub header-record : record_of (header_of r) r.words ≡ r
  header-record = λ i. record {
    c = flag r.c c i;
    line = line-of-number r.line i;
    offset = offset-of-number r.offset i;
    s = flag r.s s i;
    stream = r.stream;
    did = r.did;
    sdid = r.sdid;
    words = r.words;
  }

  -- the header's cells are the record's before its words
  pub header-cells : (p : ℕ) → header_cells p (header_of r) ≡ take head_cells (cells_in p r)
  header-cells p = ap (λ (x : Record). take head_cells (cells_in p x)) header-record

  -- and its fields before DID are the record's
  pub header-location : header_location (header_of r) ≡ location_fields rfc8331 r
  header-location = ap (location_fields rfc8331) header-record
