-- Lines written and read: A and B of 01, the refusals of each number and their order.
-- By computation.
use mathlib.Core.Path.{◌≡◌, refl}
use mathlib.Core.List.{List, [], ◌∷◌, ◌++◌}
use Prim.Native.Nat.{ℕ, zero, suc}
use lib.ListN.{take, set}
use Rattle.wire_spec.specs.Words.{header_word, checksum_word}
use Rattle.wire_spec.specs.Result.{Ok, refuse}
use Rattle.wire_spec.specs.Anc.{Record}
use Rattle.wire_spec.specs.Cells.{cells_in, cells_of, list_of, max_index, cell_record, head_in_range, cell_checks, records_from, clear_from}
use Rattle.wire_spec.proofs.Examples.{a, b}
use Rattle.sdi_spec.specs.declared.position.Position.{Position}
use Rattle.sdi_spec.specs.Packets.{stretch, placed, has_flag, line_record, sum_ok, packet_checks, packets_from}
use Rattle.sdi_spec.specs.Line.{line_after, line_checks, write_line, position_ok, reading_checks, read_line, read_line_into}

-- the packets of A and of B: 7 and 9 words; the checksum does not sum the flag
abbrev a_words : List ℕ
a_words = 0x000 ∷ 0x3FF ∷ 0x3FF ∷ 0x241 ∷ 0x205 ∷ 0x200 ∷ 0x246 ∷ []

abbrev b_words : List ℕ
b_words = 0x000 ∷ 0x3FF ∷ 0x3FF ∷ 0x161 ∷ 0x102 ∷ 0x102 ∷ 0x2AA ∷ 0x155 ∷ 0x164 ∷ []

pub written : (stretch (a ∷ b ∷ []) ≡ a_words ++ b_words)
unfolding header_word checksum_word
written = refl

-- `n` words of 0x040
abbrev blank : ℕ → List ℕ
blank zero = []
blank (suc n) = 0x040 ∷ blank n

abbrev line : List ℕ
line = 1 ∷ 2 ∷ (blank 16 ++ (3 ∷ 4 ∷ []))

abbrev filled : List ℕ
filled = 1 ∷ 2 ∷ (a_words ++ (b_words ++ (3 ∷ 4 ∷ [])))

-- A and B written from word 2 on: the words outside stay; an exact fit is one, whatever the index; no records are written anywhere, also at the end
pub writes : (write_line line 2 (list_of (a ∷ b ∷ [])) ≡ Ok (a_words ++ b_words))
    × (line_after (write_line line 2 (list_of (a ∷ b ∷ []))) line 2 ≡ filled)
    × (write_line line 4 (list_of (a ∷ b ∷ [])) ≡ Ok (a_words ++ b_words))
    × (write_line line 4 (cells_in 5 a ++ cells_in max_index b) ≡ Ok (a_words ++ b_words))
    × (write_line line 20 [] ≡ Ok [])
    × (write_line (2000 ∷ []) 0 [] ≡ Ok [])
unfolding header_word checksum_word cell_record head_in_range cell_checks records_from clear_from line_checks write_line
writes = (refl, refl, refl, refl, refl, refl)

abbrev protected : Record
protected = record { c = 0; line = 9; offset = 0; s = 0; stream = 0; did = 0x41; sdid = 0x05; words = 0x003 ∷ [] }

abbrev long : List ℕ
long = blank 4097

-- 70 before 71 before 20 before 16 before 72; 20 is looked for over the whole list first
pub write-refusals : (write_line long 4098 (1 ∷ []) ≡ refuse 70 0)
    × (write_line line 21 (1 ∷ []) ≡ refuse 71 0)
    × (write_line line 18 (cells_of a ++ (1 ∷ [])) ≡ refuse 20 1)
    × (write_line line 18 (cells_of a ++ cells_of protected) ≡ refuse 16 1)
    × (write_line line 18 (cells_of protected ++ (1 ∷ [])) ≡ refuse 20 1)
    × (write_line line 5 (list_of (a ∷ b ∷ [])) ≡ refuse 72 0)
    × (line_after (write_line line 5 (list_of (a ∷ b ∷ []))) line 5 ≡ line)
unfolding header_word checksum_word cell_record head_in_range cell_checks records_from clear_from line_checks write_line
write-refusals = (refl, refl, refl, refl, refl, refl, refl)

abbrev here : Position
here = record { c = 1; line = 0x7FF; offset = 0xFFF; s = 1; stream = 127 }

-- read back: the data part at the caller's position; where there is no flag, nothing; a flag cut by the line's end is none, and neither
-- are two words of one; reading does not go on over a gap
pub reads : (read_line filled 2 here ≡ Ok (placed here a ∷ placed here b ∷ []))
    × (read_line filled 9 here ≡ Ok (placed here b ∷ []))
    × (read_line filled 3 here ≡ Ok [])
    × (read_line filled 20 here ≡ Ok [])
    × (read_line (a_words ++ (0x000 ∷ 0x3FF ∷ [])) 0 here ≡ Ok (placed here a ∷ []))
    × (read_line (a_words ++ (0x000 ∷ 0x3FF ∷ 0x3FE ∷ 0x040 ∷ [])) 0 here ≡ Ok (placed here a ∷ []))
    × (read_line (a_words ++ (0x040 ∷ b_words)) 0 here ≡ Ok (placed here a ∷ []))
    × (read_line_into filled 2 here 20 ≡ Ok (placed here a ∷ placed here b ∷ []))
unfolding header_word checksum_word has_flag line_record sum_ok packet_checks packets_from line_checks position_ok reading_checks read_line read_line_into
reads = (refl, refl, refl, refl, refl, refl, refl, refl)

-- a position with each field too large
abbrev position : (c line offset s stream : ℕ) → Position
position c line offset s stream = record { c = c; line = line; offset = offset; s = s; stream = stream }

-- 70, 71, 20, 73, each before the next; 73 also for a word before the start
pub line-refusals : (read_line long 4098 (position 2 0 0 0 0) ≡ refuse 70 0)
    × (read_line (set filled 0 1024) 21 (position 2 0 0 0 0) ≡ refuse 71 0)
    × (read_line (set filled 0 1024) 2 (position 2 0 0 0 0) ≡ refuse 20 0)
    × (read_line filled 2 (position 0 0x800 0 0 0) ≡ refuse 20 0)
    × (read_line filled 2 (position 0 0 0x1000 0 0) ≡ refuse 20 0)
    × (read_line filled 2 (position 0 0 0 2 0) ≡ refuse 20 0)
    × (read_line filled 2 (position 0 0 0 0 128) ≡ refuse 20 0)
    × (read_line (set (set filled 19 1024) 5 0x041) 2 here ≡ refuse 73 0)
    × (read_line (set filled 0 1024) 2 here ≡ refuse 73 0)
unfolding header_word checksum_word has_flag line_record sum_ok packet_checks packets_from line_checks position_ok reading_checks read_line
line-refusals = (refl, refl, refl, refl, refl, refl, refl, refl, refl)

-- 9 under four words after the flag, 10, 9 under its words, 16, 11, each before the next and with the packet's index; 14 last
pub packet-refusals : (read_line (a_words ++ take 6 b_words) 0 here ≡ refuse 9 1)
    × (read_line (a_words ++ take 6 (set b_words 3 0x041)) 0 here ≡ refuse 9 1)
    × (read_line (a_words ++ take 8 (set b_words 3 0x041)) 0 here ≡ refuse 10 1)
    × (read_line (a_words ++ take 8 b_words) 0 here ≡ refuse 9 1)
    × (read_line (a_words ++ take 8 (set b_words 6 0x003)) 0 here ≡ refuse 9 1)
    × (read_line (a_words ++ set b_words 6 0x003) 0 here ≡ refuse 16 1)
    × (read_line (a_words ++ set b_words 7 0x3FC) 0 here ≡ refuse 16 1)
    × (read_line (a_words ++ set b_words 8 0x165) 0 here ≡ refuse 11 1)
    × (read_line (set a_words 6 0x247 ++ set b_words 8 0x165) 0 here ≡ refuse 11 0)
    × (read_line_into filled 2 here 19 ≡ refuse 14 0)
    × (read_line_into (a_words ++ set b_words 8 0x165) 0 here 0 ≡ refuse 11 1)
unfolding header_word checksum_word has_flag line_record sum_ok packet_checks packets_from line_checks position_ok reading_checks read_line read_line_into
packet-refusals = (refl, refl, refl, refl, refl, refl, refl, refl, refl, refl, refl)

-- a line of 4,096 words is not too long
pub longest : (read_line (blank 4096) 4096 here ≡ Ok []) × (write_line (blank 4096) 4096 [] ≡ Ok [])
unfolding has_flag packets_from line_checks position_ok reading_checks read_line records_from clear_from write_line
longest = (refl, refl)
