-- The marked examples of 01, and refusals of each number: what the laws leave open, such as parity, checksum and the numbers.
-- By computation.
use mathlib.Core.Path.{◌≡◌, refl}
use mathlib.Core.List.{List, [], ◌∷◌, ◌++◌}
use Prim.Native.Nat.{ℕ}
use lib.ListN.{take, set}
use Rattle.wire_spec.specs.Bits.{to_bits, num, bits, octets, bits_at, row_at, field_bits}
use Rattle.wire_spec.specs.Words.{header_word, checksum_word}
use Rattle.wire_spec.specs.Layout.{rfc8331}
use Rattle.wire_spec.specs.Result.{Ok, refuse}
use Rattle.wire_spec.specs.Anc.{Record, checksum, body_bits, padding, anc_octets, anc_size, anc_record, headers_ok, r_ok, words_ok, checksum_ok, alignment_ok, anc_checks, read_anc, read_run}
use Rattle.wire_spec.specs.Cells.{cells_in, cells_of, list_of, cell_record, head_in_range, cell_checks, records_from, clear_from, read_list}

-- header words
pub words : (header_word 0x00 ≡ 0x200) × (header_word 0x41 ≡ 0x241) × (header_word 0x61 ≡ 0x161) × (header_word 0xFF ≡ 0x2FF)
unfolding header_word
words = (refl, refl, refl, refl)

-- sizes; twelve words take no alignment
pub sizes : (anc_size rfc8331 0 ≡ 12) × (anc_size rfc8331 2 ≡ 12) × (anc_size rfc8331 3 ≡ 16) × (anc_size rfc8331 12 ≡ 24)
    × (padding 32 (body_bits rfc8331 12) ≡ 0) × (anc_size rfc8331 255 ≡ 328)
unfolding anc_size
sizes = (refl, refl, refl, refl, refl, refl)

abbrev pub a : Record
a = record { c = 0; line = 9; offset = 0; s = 0; stream = 0; did = 0x41; sdid = 0x05; words = [] }

abbrev pub a_octets : List ℕ
a_octets = 0x00 ∷ 0x90 ∷ 0x00 ∷ 0x00 ∷ 0x90 ∷ 0x60 ∷ 0x58 ∷ 0x02 ∷ 0x46 ∷ 0x00 ∷ 0x00 ∷ 0x00 ∷ []

abbrev pub b : Record
b = record { c = 1; line = 0x7FF; offset = 0xFFF; s = 1; stream = 3; did = 0x61; sdid = 0x02; words = 0x2AA ∷ 0x155 ∷ [] }

abbrev pub b_octets : List ℕ
b_octets = 0xFF ∷ 0xFF ∷ 0xFF ∷ 0x83 ∷ 0x58 ∷ 0x50 ∷ 0x24 ∷ 0x0A ∷ 0xAA ∷ 0x55 ∷ 0x56 ∷ 0x40 ∷ []

-- A and B written
pub written : (anc_octets rfc8331 a ≡ a_octets) × (anc_octets rfc8331 b ≡ b_octets) × (checksum b ≡ 0x164)
unfolding to_bits num octets field_bits header_word checksum_word
written = (refl, refl, refl)

-- A and B read, alone and as a run
pub read : (i : ℕ) → (read_anc rfc8331 i a_octets ≡ Ok a) × (read_anc rfc8331 i b_octets ≡ Ok b)
    × (read_run rfc8331 0 2 (a_octets ++ (b_octets ++ (7 ∷ []))) ≡ Ok (a ∷ b ∷ [], 7 ∷ []))
unfolding to_bits num bits bits_at row_at header_word checksum_word anc_size anc_record headers_ok r_ok words_ok checksum_ok alignment_ok anc_checks read_anc read_run
read i = (refl, refl, refl)

-- A and B as cells
pub cells : (list_of (a ∷ b ∷ [])
    ≡ 0 ∷ 9 ∷ 0 ∷ 0 ∷ 0 ∷ 0x41 ∷ 0x05 ∷ 0 ∷ 0 ∷ 1 ∷ 0x7FF ∷ 0xFFF ∷ 1 ∷ 3 ∷ 0x61 ∷ 0x02 ∷ 2 ∷ 0 ∷ 0x2AA ∷ 0x155 ∷ [])
    × (read_list (list_of (a ∷ b ∷ [])) ≡ Ok (a ∷ b ∷ []))
unfolding cell_record head_in_range cell_checks records_from clear_from
cells = (refl, refl)

-- A and B have an even number of words with b8 set, so they do not tell a sum of nine bits from one of eight; this one does
pub nine-bits : checksum (record { c = 0; line = 9; offset = 0; s = 0; stream = 0; did = 0x61; sdid = 0x05; words = [] }) ≡ 0x166
unfolding header_word checksum_word
nine-bits = refl

-- a record of three words, whose sixteen octets are more than the least size
abbrev three : Record
three = record { c = 0; line = 9; offset = 0; s = 0; stream = 0; did = 0x41; sdid = 0x05; words = 1 ∷ 2 ∷ 3 ∷ [] }

-- A packet refused: cut under the least size and under its own, a header word malformed, the checksum wrong, an
-- alignment bit set; of two faults the first check's is told.
pub refusals : (i : ℕ) → (read_anc rfc8331 i (take 11 a_octets) ≡ refuse 9 i)
    × (read_anc rfc8331 i (take 15 (anc_octets rfc8331 three)) ≡ refuse 9 i)
    × (read_anc rfc8331 i (set a_octets 4 0x10) ≡ refuse 10 i)
    × (read_anc rfc8331 i (set a_octets 8 0x47) ≡ refuse 11 i)
    × (read_anc rfc8331 i (set a_octets 11 0x01) ≡ refuse 12 i)
    × (read_anc rfc8331 i (take 15 (set (anc_octets rfc8331 three) 4 0x10)) ≡ refuse 10 i)
    × (read_anc rfc8331 i (set (set a_octets 8 0x47) 11 0x01) ≡ refuse 11 i)
    × (read_run rfc8331 0 2 (a_octets ++ take 11 b_octets) ≡ refuse 9 1)
unfolding to_bits num bits octets field_bits bits_at row_at header_word checksum_word anc_size anc_record headers_ok r_ok words_ok checksum_ok alignment_ok anc_checks read_anc read_run
refusals i = (refl, refl, refl, refl, refl, refl, refl, refl)

-- The ninth cell: B as it came in packet 7, with the largest index and with one more, and without the cell (02, K13).
pub index : (cells_in 7 b ≡ 1 ∷ 0x7FF ∷ 0xFFF ∷ 1 ∷ 3 ∷ 0x61 ∷ 0x02 ∷ 2 ∷ 7 ∷ 0x2AA ∷ 0x155 ∷ [])
    × (read_list (cells_in 7 b) ≡ Ok (b ∷ []))
    × (read_list (cells_of a ++ cells_in 4095 b) ≡ Ok (a ∷ b ∷ []))
    × (read_list (cells_of a ++ cells_in 4096 b) ≡ refuse 20 1)
    × (read_list (1 ∷ 0x7FF ∷ 0xFFF ∷ 1 ∷ 3 ∷ 0x61 ∷ 0x02 ∷ 2 ∷ 0x2AA ∷ 0x155 ∷ []) ≡ refuse 20 0)
unfolding cell_record head_in_range cell_checks records_from clear_from
index = (refl, refl, refl, refl, refl)

-- a list refused: a record cut in its first nine cells and in its words, a cell too large, a word too large
pub list-refusals : (read_list (cells_of a ++ (1 ∷ [])) ≡ refuse 20 1)
    × (read_list (cells_of a ++ take 10 (cells_of b)) ≡ refuse 20 1)
    × (read_list (set (cells_of a) 1 0x800) ≡ refuse 20 0)
    × (read_list (set (cells_of b) 9 0x400) ≡ refuse 20 0)
unfolding cell_record head_in_range cell_checks records_from clear_from
list-refusals = (refl, refl, refl, refl)
