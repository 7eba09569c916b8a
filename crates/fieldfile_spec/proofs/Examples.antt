-- A file of two fields, read and written, one of version 1, and refusals of each number: what the laws leave open, such as the name,
-- the versions and the numbers. By computation.
use mathlib.Core.Path.{◌≡◌, refl}
use mathlib.Core.Bool.{◌&&◌}
use mathlib.Core.List.{List, [], ◌∷◌, ◌++◌}
use Prim.Native.Nat.{ℕ}
use lib.Dec.{eqb, leb}
use lib.ListN.{length, take, set}
use Rattle.wire_spec.specs.Bits.{to_bits, num, bits, octets, bits_at, row_at, field_bits}
use Rattle.wire_spec.specs.Words.{header_word, checksum_word}
use Rattle.wire_spec.specs.Result.{Result, Checks, Ok, refuse, judge}
use Rattle.wire_spec.specs.Anc.{anc_size, anc_record, headers_ok, r_ok, words_ok, checksum_ok, alignment_ok, anc_checks, read_anc, read_run}
use Rattle.wire_spec.specs.Cells.{cells_in, cells_of, list_of, max_index, cell_record, head_in_range, cell_checks, records_from, clear_from}
use Rattle.wire_spec.proofs.Examples.{a, a_octets, b, b_octets}
use Rattle.wire_spec.proofs.ProtectedExamples.{with}
use Rattle.fieldfile_spec.specs.declared.format.Version.TheVariants as version
use Rattle.fieldfile_spec.specs.File.{file_name, name_bits, name_size, file_head_size, version_number, version_field, version_of, FieldContent, file_octets, field_header_checks, read_front, file_checks, offset_checks, read_field, read_into, write_head, end_of_file, write_field, read_from, read_file}

-- field 1 with A, field 2 with A and B
abbrev pub first : FieldContent
first = record { timestamp = 1000; f = 2; records = a ∷ [] }

abbrev pub second : FieldContent
second = record { timestamp = 0x01020304; f = 3; records = a ∷ b ∷ [] }

abbrev pub first_octets : List ℕ
first_octets = 0x00 ∷ 0x00 ∷ 0x03 ∷ 0xE8 ∷ 0x02 ∷ 0x00 ∷ 0x01 ∷ a_octets

abbrev pub second_octets : List ℕ
second_octets = 0x01 ∷ 0x02 ∷ 0x03 ∷ 0x04 ∷ 0x03 ∷ 0x00 ∷ 0x02 ∷ (a_octets ++ b_octets)

abbrev pub file : List ℕ
file = 0x41 ∷ 0x4E ∷ 0x46 ∷ 0x00 ∷ 0x02 ∷ (first_octets ++ second_octets)

-- the same two fields as version 1 has them (01, "Field file")
abbrev pub file1 : List ℕ
file1 =
    0x41 ∷ 0x4E ∷ 0x46 ∷ 0x00 ∷ 0x01
    ∷ ((0x00 ∷ 0x00 ∷ 0x03 ∷ 0xE8 ∷ 0x02 ∷ 0x01 ∷ a_octets) ++ (0x01 ∷ 0x02 ∷ 0x03 ∷ 0x04 ∷ 0x03 ∷ 0x02 ∷ (a_octets ++ b_octets)))

-- the octets of the file, written by one head and two fields, and a field without records
pub written : (file_octets version.Two (first ∷ second ∷ []) ≡ file)
    × (write_head 5 ≡ Ok (take 5 file))
    × (write_field 1000 2 (list_of (a ∷ [])) 19 ≡ Ok first_octets)
    × (write_field 0x01020304 3 (list_of (a ∷ b ∷ [])) 100 ≡ Ok second_octets)
    × (write_field 0x01020304 3 (cells_in 1 a ++ cells_in max_index b) 100 ≡ Ok second_octets)
    × (write_field 7 0 [] 7 ≡ Ok (0 ∷ 0 ∷ 0 ∷ 7 ∷ 0 ∷ 0 ∷ 0 ∷ []))
unfolding to_bits num octets field_bits header_word checksum_word anc_size cell_record head_in_range cell_checks records_from clear_from
written = (refl, refl, refl, refl, refl, refl)

-- read at 5, at the offset after the first field, and at the end
pub read : (read_into file 5 9 ≡ Ok (first, 24)) × (read_into file 24 20 ≡ Ok (second, 55)) × (read_into file 55 0 ≡ refuse 54 0)
unfolding to_bits num bits bits_at row_at header_word checksum_word anc_size anc_record headers_ok r_ok words_ok checksum_ok alignment_ok anc_checks read_anc read_run field_header_checks read_front version_of file_checks offset_checks read_field read_into
read = (refl, refl, refl)

-- the whole file, and the file cut in its second field
pub whole : (read_file file ≡ record { fields = first ∷ second ∷ []; end = end_of_file })
    × (read_file (take 54 file) ≡ record { fields = first ∷ []; end = record { number = 9; index = 1 } })
    × (read_file (take 30 file) ≡ record { fields = first ∷ []; end = record { number = 52; index = 0 } })
    × (read_file (take 24 file) ≡ record { fields = first ∷ []; end = end_of_file })
unfolding to_bits num bits bits_at row_at header_word checksum_word anc_size anc_record headers_ok r_ok words_ok checksum_ok alignment_ok anc_checks read_anc read_run field_header_checks read_front version_of file_checks offset_checks read_field read_from
whole = (refl, refl, refl, refl)

-- "The reader takes versions 1 and 2" (02, K2): a version 1 file is the octets of its version, is read field by field, and ends in 52
-- where under six octets of a header are left
pub version-1 : (file_octets version.One (first ∷ second ∷ []) ≡ file1)
    × (read_into file1 5 9 ≡ Ok (first, 23))
    × (read_file file1 ≡ record { fields = first ∷ second ∷ []; end = end_of_file })
    × (read_file (take 28 file1) ≡ record { fields = first ∷ []; end = record { number = 52; index = 0 } })
    × (read_file (take 29 file1) ≡ record { fields = first ∷ []; end = record { number = 9; index = 0 } })
unfolding to_bits num bits bits_at row_at header_word checksum_word anc_size anc_record headers_ok r_ok words_ok checksum_ok alignment_ok anc_checks read_anc read_run field_header_checks read_front version_of file_checks offset_checks read_field octets field_bits read_into read_from
version-1 = (refl, refl, refl, refl, refl)

-- "an old reader refuses it with 51" (02, K2): 50 and 51 as 01 has them
abbrev checks_before : List ℕ → Checks
checks_before s =
    (leb name_size (length s) && eqb (bits_at s 0 name_bits) file_name, 50)
    ∷ (leb file_head_size (length s) && eqb (version_field s) (version_number version.One), 51)
    ∷ []

pub old-reader : (k : Result ℕ) → (judge 0 (checks_before file) k ≡ refuse 51 0) × (judge 0 (checks_before file1) k ≡ k)
unfolding to_bits num bits bits_at
old-reader k = (refl, refl)

-- 50: another name, under three octets; 51: versions 0, 3 and 258, under five octets
pub refused-file : (read_field (set file 2 0x47) 5 ≡ refuse 50 0) × (read_field (take 2 file) 5 ≡ refuse 50 0)
    × (read_field (set file 4 0) 5 ≡ refuse 51 0) × (read_field (set file 4 3) 5 ≡ refuse 51 0) × (read_field (set file 3 1) 5 ≡ refuse 51 0)
    × (read_field (take 4 file) 5 ≡ refuse 51 0)
unfolding to_bits num bits bits_at file_checks read_field
refused-file = (refl, refl, refl, refl, refl, refl)

-- 55: an offset under 5, and one past the end, also in a file of five octets; 54: at the end
pub refused-offset : (read_field file 4 ≡ refuse 55 0) × (read_field file 56 ≡ refuse 55 0) × (read_field (take 5 file) 6 ≡ refuse 55 0)
    × (read_field (take 5 file) 5 ≡ refuse 54 0) × (read_field file 55 ≡ refuse 54 0)
unfolding to_bits num bits bits_at file_checks offset_checks read_field
refused-offset = (refl, refl, refl, refl, refl)

-- 52: the field header cut; 53: F is 1, and over 3; but 52 where the header is cut
pub refused-header : (read_field (take 11 file) 5 ≡ refuse 52 0) × (read_field (set file 9 1) 5 ≡ refuse 53 0) × (read_field (set file 9 4) 5 ≡ refuse 53 0)
    × (read_field (take 11 (set file 9 1)) 5 ≡ refuse 52 0)
unfolding to_bits num bits bits_at field_header_checks read_front version_of file_checks offset_checks read_field
refused-header = (refl, refl, refl, refl)

-- 9, 10, 11 and 12 with the index of the packet in its field; 9 before 21, where a count over 4,095 stands before one packet; 14 with
-- room for a cell less
pub refused-packets : (read_field (take 23 file) 5 ≡ refuse 9 0) × (read_field (take 54 file) 24 ≡ refuse 9 1)
    × (read_field (set file 16 0x10) 5 ≡ refuse 10 0) × (read_field (set file 51 0x00) 24 ≡ refuse 11 1) × (read_field (set file 23 0x01) 5 ≡ refuse 12 0)
    × (read_field (set (take 24 file) 10 0xFF) 5 ≡ refuse 9 1)
    × (read_into file 5 8 ≡ refuse 14 0)
unfolding to_bits num bits bits_at row_at header_word checksum_word anc_size anc_record headers_ok r_ok words_ok checksum_ok alignment_ok anc_checks read_anc read_run field_header_checks read_front version_of file_checks offset_checks read_field read_into
refused-packets = (refl, refl, refl, refl, refl, refl, refl)

-- 16 with the index of the packet in its field, before 11 (02, K5): B with 0x3FB, 0x3FC, 0x004 and 0x003 for its first word, its checksum wrong each time
pub refused-protected : (read_field (set (set file 50 0x0B) 51 0xFB) 24 ≡ refuse 11 1) × (read_field (set (set file 50 0x0B) 51 0xFC) 24 ≡ refuse 16 1)
    × (read_field (set (set file 50 0x08) 51 0x04) 24 ≡ refuse 11 1) × (read_field (set (set file 50 0x08) 51 0x03) 24 ≡ refuse 16 1)
unfolding to_bits num bits bits_at row_at header_word checksum_word anc_size anc_record headers_ok r_ok words_ok checksum_ok alignment_ok anc_checks read_anc read_run field_header_checks read_front version_of file_checks offset_checks read_field
refused-protected = (refl, refl, refl, refl)

-- writing: 16 with the record's index, behind 53 and 20 and before 23; 0x004 and 0x3FB are written
pub refused-protected-writing : (write_field 7 1 (cells_of (with 0x003 0x100)) 100 ≡ refuse 53 0)
    × (write_field 7 2 (cells_of (with 0x003 0x100) ++ (1 ∷ [])) 100 ≡ refuse 20 1)
    × (write_field 7 2 (list_of (a ∷ with 0x100 0x3FC ∷ [])) 0 ≡ refuse 16 1)
    × (write_field 7 2 (cells_of (with 0x004 0x3FB)) 18 ≡ refuse 23 0)
unfolding to_bits num octets field_bits header_word checksum_word anc_size cell_record head_in_range cell_checks records_from clear_from
refused-protected-writing = (refl, refl, refl, refl)

-- writing: 53 before 20, 20 with the record's index, 23
pub refused-writing : (write_field 7 1 (1 ∷ []) 100 ≡ refuse 53 0) × (write_field 7 4 [] 100 ≡ refuse 53 0)
    × (write_field 7 2 (cells_of a ++ (1 ∷ [])) 100 ≡ refuse 20 1) × (write_field 7 2 (cells_of a) 18 ≡ refuse 23 0) × (write_head 4 ≡ refuse 23 0)
unfolding to_bits num octets field_bits header_word checksum_word anc_size cell_record head_in_range cell_checks records_from clear_from
refused-writing = (refl, refl, refl, refl, refl)
