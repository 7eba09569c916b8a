-- Files compared, by computation: each kind of line, the order, refusals on either side and on both, and the text.
use mathlib.Core.Path.{◌≡◌, refl}
use mathlib.Core.List.{List, [], ◌∷◌, ◌++◌}
use Prim.Native.Nat.{ℕ, ◌+◌}
use lib.ListN.{take, set}
use Rattle.wire_spec.specs.Bits.{to_bits, num, bits, bits_at, row_at}
use Rattle.wire_spec.specs.Words.{header_word, checksum_word}
use Rattle.wire_spec.specs.Anc.{Record, anc_size, anc_record, headers_ok, r_ok, words_ok, checksum_ok, alignment_ok, anc_checks, read_anc, read_run}
use Rattle.wire_spec.specs.Cells.{head_cells, cells_of, cell_record}
use Rattle.wire_spec.proofs.Examples.{a, a_octets, b, b_octets}
use Rattle.fieldfile_spec.specs.File.{FieldContent, FileRead, end_of_file, no_field, field_header_checks, read_front, version_of, file_checks, offset_checks, read_field, read_from, read_file}
use Rattle.fielddiff_spec.specs.Diff.{left, right, dash, number, ts_line, f_line, records_line, cell_line, only_line, refused_line, up_to, cell_lines, record_lines, field_lines, compare_at, diff}
use Rattle.text.specs.Text.{ascii, decimal_in, decimal}
use Rattle.fielddiff_spec.specs.Text.{line_text, diff_text}

-- B with another word, with a word less, and A with another SDID
abbrev b' : Record
b' = cell_record (set (cells_of b) (head_cells + 1) 0x156)

abbrev short : Record
short = cell_record (set (set (cells_of b) 7 1) head_cells 0x2AB)

abbrev a' : Record
a' = cell_record (set (cells_of a) 6 0x06)

abbrev field : (t f : ℕ) → List Record → FieldContent
field t f rs = record { timestamp = t; f = f; records = rs }

abbrev ended : List FieldContent → FileRead
ended ks = record { fields = ks; end = end_of_file }

abbrev broken : List FieldContent → ℕ → FileRead
broken ks n = record { fields = ks; end = record { number = n; index = 1 } }

abbrev x : FieldContent
x = field 1000 2 (a ∷ b ∷ [])

-- equal files; files without fields
pub equal : (diff (ended (x ∷ x ∷ [])) (ended (x ∷ x ∷ [])) ≡ []) × (diff (ended []) (ended []) ≡ [])
unfolding diff up_to compare_at field_lines record_lines cell_lines
equal = (refl, refl)

-- one field: all that differs, in the order "timestamp, F, record count, then .. each record by position and each differing cell";
-- a count of words that differs is cell 7, the words are compared "as far as both go", and so are the records
pub one_field : (diff (ended (x ∷ [])) (ended (field 1001 3 (a' ∷ short ∷ a ∷ []) ∷ []))
    ≡ ts_line 0 1000 1001 ∷ f_line 0 2 3 ∷ records_line 0 2 3 ∷ cell_line 0 0 6 5 6 ∷ cell_line 0 1 7 2 1 ∷ cell_line 0 1 head_cells 0x2AA 0x2AB ∷ [])
    × (diff (ended (x ∷ [])) (ended (field 1000 2 (a ∷ b' ∷ []) ∷ [])) ≡ cell_line 0 1 (head_cells + 1) 0x155 0x156 ∷ [])
    × (diff (ended (x ∷ [])) (ended (field 1000 2 (b ∷ a ∷ []) ∷ []))
    ≡ cell_line 0 0 0 0 1 ∷ cell_line 0 0 1 9 0x7FF ∷ cell_line 0 0 2 0 0xFFF ∷ cell_line 0 0 3 0 1 ∷ cell_line 0 0 4 0 3 ∷ cell_line 0 0 5 0x41 0x61
    ∷ cell_line 0 0 6 5 2 ∷ cell_line 0 0 7 0 2 ∷ cell_line 0 1 0 1 0 ∷ cell_line 0 1 1 0x7FF 9 ∷ cell_line 0 1 2 0xFFF 0 ∷ cell_line 0 1 3 1 0
    ∷ cell_line 0 1 4 3 0 ∷ cell_line 0 1 5 0x61 0x41 ∷ cell_line 0 1 6 2 5 ∷ cell_line 0 1 7 2 0 ∷ [])
unfolding diff up_to compare_at field_lines record_lines cell_lines cell_record
one_field = (refl, refl, refl)

-- "last, the fields only one file has"; and behind them a refusal of the longer file
pub longer : (diff (ended (x ∷ x ∷ x ∷ [])) (ended (field 7 2 (a ∷ b ∷ []) ∷ [])) ≡ ts_line 0 1000 7 ∷ only_line 1 left ∷ only_line 2 left ∷ [])
    × (diff (ended []) (ended (x ∷ [])) ≡ only_line 0 right ∷ [])
    × (diff (ended []) (broken (x ∷ []) 52) ≡ only_line 0 right ∷ refused_line 1 dash (number 52) ∷ [])
unfolding diff up_to compare_at field_lines record_lines cell_lines
longer = (refl, refl, refl)

-- a refusal: beside a field, beside the end (54 is a `-`), beside another, and behind another nothing is said
pub refusals : (diff (broken (x ∷ []) 9) (ended (x ∷ x ∷ x ∷ [])) ≡ refused_line 1 (number 9) dash ∷ [])
    × (diff (ended (x ∷ [])) (broken (x ∷ []) 21) ≡ refused_line 1 dash (number 21) ∷ [])
    × (diff (no_field (record { number = 50; index = 0 })) (no_field (record { number = 51; index = 0 })) ≡ refused_line 0 (number 50) (number 51) ∷ [])
    × (diff (no_field (record { number = 50; index = 0 })) (broken (x ∷ x ∷ []) 53) ≡ refused_line 0 (number 50) dash ∷ [])
    × (diff (broken (x ∷ []) 9) (broken (x ∷ []) 9) ≡ refused_line 1 (number 9) (number 9) ∷ [])
unfolding diff up_to compare_at field_lines record_lines cell_lines
refusals = (refl, refl, refl, refl, refl)

-- the text
pub text : (diff_text (diff (ended (x ∷ x ∷ [])) (broken (field 4294967295 2 (a ∷ []) ∷ []) 10))
    ≡ ascii "0 ts 1000 4294967295\n0 records 2 1\n1 refused - 10\n")
    × (line_text (f_line 12 0 3) ≡ 0x31 ∷ 0x32 ∷ 0x20 ∷ 0x66 ∷ 0x20 ∷ 0x30 ∷ 0x20 ∷ 0x33 ∷ 0x0A ∷ [])
    × (line_text (cell_line 3 4094 263 1023 4) ≡ ascii "3 4094 263 1023 4\n")
    × (line_text (only_line 7 left) ≡ ascii "7 only left\n")
    × (line_text (only_line 7 right) ≡ ascii "7 only right\n")
    × (line_text (refused_line 0 (number 50) (number 51)) ≡ ascii "0 refused 50 51\n")
unfolding diff up_to compare_at field_lines record_lines cell_lines ascii decimal_in decimal line_text
text = (refl, refl, refl, refl, refl, refl)

-- Files as octets: a file of version 1 and one of version 2 with the same fields; a count of 65,535 is first read packet by packet
abbrev fields₁ : List ℕ
fields₁ = 0x00 ∷ 0x00 ∷ 0x03 ∷ 0xE8 ∷ 0x02 ∷ 0x02 ∷ (a_octets ++ b_octets)

abbrev fields₂ : List ℕ
fields₂ = 0x00 ∷ 0x00 ∷ 0x03 ∷ 0xE8 ∷ 0x02 ∷ 0x00 ∷ 0x02 ∷ (a_octets ++ b_octets)

abbrev file₁ : List ℕ
file₁ = 0x41 ∷ 0x4E ∷ 0x46 ∷ 0x00 ∷ 0x01 ∷ fields₁

abbrev file₂ : List ℕ
file₂ = 0x41 ∷ 0x4E ∷ 0x46 ∷ 0x00 ∷ 0x02 ∷ fields₂

pub octet-files : (read_file file₁ ≡ ended (x ∷ [])) × (read_file file₂ ≡ ended (x ∷ []))
    × (diff (read_file file₁) (read_file file₂) ≡ [])
    × (diff (read_file file₁) (read_file (set file₂ 8 0xE7)) ≡ ts_line 0 1000 999 ∷ [])
    × (diff (read_file file₁) (read_file (take 35 file₂)) ≡ refused_line 0 dash (number 9) ∷ [])
    × (diff (read_file []) (read_file file₂) ≡ refused_line 0 (number 50) dash ∷ [])
    × (diff (read_file (file₁ ++ (0 ∷ []))) (read_file file₂) ≡ refused_line 1 (number 52) dash ∷ [])
    × (read_file (set file₂ 4 3) ≡ no_field (record { number = 51; index = 0 }))
    × (read_file (set (set file₂ 10 0xFF) 11 0xFF) ≡ no_field (record { number = 9; index = 2 }))
unfolding to_bits num bits bits_at row_at header_word checksum_word anc_size anc_record headers_ok r_ok words_ok checksum_ok alignment_ok anc_checks read_anc read_run field_header_checks read_front version_of file_checks offset_checks read_field read_from diff up_to compare_at field_lines record_lines cell_lines
octet-files = (refl, refl, refl, refl, refl, refl, refl, refl, refl)
