-- The field file (01, "Field file"; 02, K2): its octets, how a field is read at an offset, and what is written.
use Rattle.std.specs.Prelude.{◌≡◌, Bool, true, not, cond, ◌&&◌, ◌||◌, List, [], ◌∷◌, ◌++◌, ℕ, zero, suc, ◌+◌, ◌/◌, ◌^◌, ◌<◌, ◌≤◌, eqb, leb, length, drop}
use Rattle.wire_spec.specs.declared.refusal.Refusal.{Refusal}
use Rattle.wire_spec.specs.Bits.{Fields, pack, bits_at}
use Rattle.wire_spec.specs.Layout.{rfc8331}
use Rattle.wire_spec.specs.Result.{Result, Err, Ok, no_refusal, Checks, judge, ◌then◌}
use Rattle.wire_spec.specs.Anc.{Record, WellFormed, Each, run_octets, run_size, read_run}
use Rattle.wire_spec.specs.Cells.{list_of}
use Rattle.wire_spec.specs.Writing.{max_field_records, max_field_cells, records_to_write}
use Rattle.fieldfile_spec.specs.declared.format.Version.{Version}
use Rattle.fieldfile_spec.specs.declared.format.Version.TheVariants as version

-- "`ANF`, 16-bit version 1" (01, "Field file"); "The reader takes versions 1 and 2, the writer writes 2" (02, K2)
abbrev pub file_name : ℕ
file_name = 0x414E46

abbrev pub version_number : Version → ℕ
version_number version.One = 1
version_number version.Two = 2

abbrev pub written_version : Version
written_version = version.Two

-- their widths in bits, and the octets of `ANF` and of both
abbrev pub name_bits : ℕ
name_bits = 24

abbrev pub version_bits : ℕ
version_bits = 16

abbrev pub name_size : ℕ
name_size = name_bits / 8

abbrev pub file_head_size : ℕ
file_head_size = (name_bits + version_bits) / 8

-- "timestamp 32 bits, F one octet, count one octet"; "The file's count octet becomes two octets, version 2" (02, K2): widths in
-- bits, and the octets of the three
abbrev pub timestamp_bits : ℕ
timestamp_bits = 32

abbrev pub file_f_bits : ℕ
file_f_bits = 8

abbrev pub count_bits : Version → ℕ
count_bits version.One = 8
count_bits version.Two = 16

abbrev pub field_header_size : Version → ℕ
field_header_size v = (timestamp_bits + file_f_bits + count_bits v) / 8

-- what a field says: what the reader returns and the writer takes
pub record FieldContent : Type 0 where
  pub timestamp : ℕ
  pub f : ℕ
  pub records : List Record

-- "`ANF`, 16-bit version": the first octets of a file
abbrev pub file_fields : Version → Fields
file_fields v = (name_bits, file_name) ∷ (version_bits, version_number v) ∷ []

abbrev pub file_head : Version → List ℕ
file_head v = pack (file_fields v)

-- a field's header: "timestamp 32 bits, F one octet, count"
abbrev pub field_header_fields : Version → (timestamp f count : ℕ) → Fields
field_header_fields v timestamp f count = (timestamp_bits, timestamp) ∷ (file_f_bits, f) ∷ (count_bits v, count) ∷ []

-- one field: its header, "ANC packets as above"
abbrev pub field_octets : Version → FieldContent → List ℕ
field_octets v k = pack (field_header_fields v k.timestamp k.f (length k.records)) ++ run_octets rfc8331 k.records

-- octets of a field with such records
abbrev pub field_size : Version → List Record → ℕ
field_size v rs = field_header_size v + run_size rfc8331 rs

-- ".., then fields": one after the other, and a file of them
abbrev pub fields_octets : Version → List FieldContent → List ℕ
fields_octets v [] = []
fields_octets v (k ∷ ks) = field_octets v k ++ fields_octets v ks

abbrev pub file_octets : Version → List FieldContent → List ℕ
file_octets v ks = file_head v ++ fields_octets v ks

-- 53: "file F not 0, 2, 3"
abbrev pub file_f_ok : ℕ → Bool
file_f_ok f = eqb f 0 || (eqb f 2 || eqb f 3)

-- 21: "over 4,095 or 32,768 for a field" (02, K2), for so many records of so many cells
abbrev pub within_limits : (records cells : ℕ) → Bool
within_limits records cells = leb records max_field_records && leb cells max_field_cells

-- what a field must be: each value fits its field, the count too; F is 0, 2 or 3 (53); its records are well-formed, and within the
-- limits (21)
pub record WellFormedField (v : Version) (k : FieldContent) : Type 0 where
  pub timestamp : k.timestamp < 2 ^ timestamp_bits
  pub f : file_f_ok k.f ≡ true
  pub records : Each (WellFormed rfc8331) k.records
  pub counted : length k.records < 2 ^ count_bits v
  pub few : length k.records ≤ max_field_records
  pub short : length (list_of k.records) ≤ max_field_cells

-- Reading the field at the front of the octets `s`: its header's fields.
abbrev pub timestamp_field : List ℕ → ℕ
timestamp_field s = bits_at s 0 timestamp_bits

abbrev pub file_f_field : List ℕ → ℕ
file_f_field s = bits_at s timestamp_bits file_f_bits

abbrev pub count_field : Version → List ℕ → ℕ
count_field v s = bits_at s (timestamp_bits + file_f_bits) (count_bits v)

-- what the header says, with the records `rs`
abbrev pub field_read : List ℕ → List Record → FieldContent
field_read s rs = record { timestamp = timestamp_field s; f = file_f_field s; records = rs }

-- 52: "file field header cut"; 53: "file F not 0, 2, 3"
unfoldable pub field_header_checks : Version → List ℕ → Checks
field_header_checks v s = (leb (field_header_size v) (length s), 52) ∷ (file_f_ok (file_f_field s), 53) ∷ []

-- 21, for the records that were read
abbrev pub limit_checks : List Record → Checks
limit_checks rs = (within_limits (length rs) (length (list_of rs)), 21) ∷ []

-- 52, 53, 9 to 12 and 16 (02, K5: "and in stored files"), 21
unfoldable pub read_front : Version → List ℕ → Result FieldContent
read_front v s =
    judge 0 (field_header_checks v s)
    (read_run rfc8331 0 (count_field v s) (drop (field_header_size v) s) then
    λ q. judge 0 (limit_checks q.0) (Ok (field_read s q.0)))

-- the version that stands in a file's head, and whether it is one that is read
abbrev pub version_field : List ℕ → ℕ
version_field s = bits_at s name_bits version_bits

abbrev pub is_version : ℕ → Bool
is_version n = eqb n (version_number version.One) || eqb n (version_number version.Two)

abbrev pub version_said : ℕ → Version
version_said n = cond (eqb n (version_number version.One)) version.One version.Two

unfoldable pub version_of : List ℕ → Version
version_of s = version_said (version_field s)

-- 50: "not `ANF` or under 3 octets"; 51: "version not 1 or under 5 octets", and 2 (02, K2)
unfoldable pub file_checks : List ℕ → Checks
file_checks s =
    (leb name_size (length s) && eqb (bits_at s 0 name_bits) file_name, 50)
    ∷ (leb file_head_size (length s) && is_version (version_field s), 51)
    ∷ []

-- 55: "offset under 5 or past the end"; 54: "end of file"
unfoldable pub offset_checks : List ℕ → ℕ → Checks
offset_checks s at = (leb file_head_size at && leb at (length s), 55) ∷ (not (eqb at (length s)), 54) ∷ []

-- "Reading at an offset: 50, 51, 55, 54, 52, 53, 9 to 12, 21, ..": the field at `at`, and "the offset after the field"
abbrev pub field_at : Version → List ℕ → ℕ → Result (FieldContent × ℕ)
field_at v s at = read_front v (drop at s) then λ k. Ok (k, at + field_size v k.records)

unfoldable pub read_field : List ℕ → ℕ → Result (FieldContent × ℕ)
read_field s at = judge 0 (file_checks s) (judge 0 (offset_checks s at) (field_at (version_of s) s at))

-- ".., 14": the lent list of `room` cells is shorter than the records need
unfoldable pub read_into : List ℕ → ℕ → ℕ → Result (FieldContent × ℕ)
read_into s at room =
    read_field s at then λ q. judge 0 ((leb (length (list_of q.0.records)) room, 14) ∷ []) (Ok q)

-- "the first five octets are written by themselves (23)"
abbrev pub write_head : ℕ → Result (List ℕ)
write_head room = judge 0 ((leb file_head_size room, 23) ∷ []) (Ok (file_head written_version))

-- 21, 23, for a list of so many cells and lent room for so many octets
abbrev pub room_checks : List Record → (cells room : ℕ) → Checks
room_checks rs cells room = (within_limits (length rs) cells, 21) ∷ (leb (field_size written_version rs) room, 23) ∷ []

-- "Writing one field: 53, 20, 21, 23", and 16 "after 20" (02, K5): the records that are written
abbrev pub field_records : (f : ℕ) (cells : List ℕ) (room : ℕ) → Result (List Record)
field_records f cells room = records_to_write ((file_f_ok f, 53) ∷ []) (λ rs. room_checks rs (length cells) room) cells

-- the octets of the field that is written
abbrev pub write_field : (timestamp f : ℕ) (cells : List ℕ) (room : ℕ) → Result (List ℕ)
write_field timestamp f cells room =
    field_records f cells room then
    λ rs. Ok (field_octets written_version (record { timestamp = timestamp; f = f; records = rs }))

-- A whole file read: its fields in order, and the refusal that ended the reading.
pub record FileRead : Type 0 where
  pub fields : List FieldContent
  pub end : Refusal

-- the refusal at the end of a file (01, refusal 54)
abbrev pub end_of_file : Refusal
end_of_file = record { number = 54; index = 0 }

-- no field, and why; a field, and what was read behind it
abbrev pub no_field : Refusal → FileRead
no_field x = record { fields = []; end = x }

abbrev pub field_then : FieldContent → FileRead → FileRead
field_then k behind = record { fields = k ∷ behind.fields; end = behind.end }

-- a refusal ends the reading, and behind a field it goes on at the next offset
abbrev pub read_on : Result (FieldContent × ℕ) → (ℕ → FileRead) → FileRead
read_on (Err x) behind = no_field x
read_on (Ok q) behind = field_then q.0 (behind q.1)

-- fields read one after the other from the offset `at` on; the first argument bounds how many readings there can be
unfoldable pub read_from : ℕ → List ℕ → ℕ → FileRead
read_from zero s at = no_field no_refusal
read_from (suc bound) s at = read_on (read_field s at) (λ next. read_from bound s next)

-- a file has fewer fields than octets, so the bound is never met (proofs/FileLaws.antt, `reading`)
abbrev pub read_file : List ℕ → FileRead
read_file s = read_from (suc (length s)) s file_head_size
