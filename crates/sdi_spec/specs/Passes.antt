-- What the passes over a line say in the papers' terms, and what they store.
use Rattle.std.specs.Prelude.{List, [], ◌∷◌, ℕ, ◌+◌, ◌%◌, length, take, drop, get_or}
use Rattle.wire_spec.specs.Bits.{splice}
use Rattle.wire_spec.specs.Result.{Result, Err, Ok, judge}
use Rattle.wire_spec.specs.Words.{header_numbers, header_word, sum_low, checksum_word}
use Rattle.wire_spec.specs.Anc.{Record}
use Rattle.wire_spec.specs.Cells.{list_of}
use Rattle.sdi_spec.specs.declared.position.Position.{Position}
use Rattle.sdi_spec.specs.Packets.{stretch, line_count, packet_checks}
use Rattle.sdi_spec.specs.declared.answer.Found.{Found}

-- the packets of a line: how many, and their words
abbrev pub found_of : Result (List Record) → Result Found
found_of (Err x) = Err x
found_of (Ok rs) = Ok (record { count = length rs; words = length (stretch rs) })

-- the cells of their records
abbrev pub found_cells : Result (List Record) → List ℕ
found_cells (Err x) = []
found_cells (Ok rs) = list_of rs

-- the words of a list's packets
abbrev pub list_stretch : Result (List Record) → List ℕ
list_stretch (Err x) = []
list_stretch (Ok rs) = stretch rs

-- one packet: its Data_Count
abbrev pub verdict_of : ℕ → List ℕ → Result ℕ
verdict_of i t = judge i (packet_checks t) (Ok (line_count t))

-- the cells before the words of a record that is read: "The packet and line readers give 0" (02, K13)
abbrev pub head_of : Position → List ℕ → List ℕ
head_of P t =
    P.c ∷ P.line ∷ P.offset ∷ P.s ∷ P.stream ∷ get_or t 0 0 % header_numbers ∷ get_or t 1 0 % header_numbers ∷ get_or t 2 0 % header_numbers ∷ 0 ∷ []

-- the words before the user data words of a packet that is written
abbrev pub front_of : (did sdid n : ℕ) → List ℕ
front_of did sdid n = 0x000 ∷ 0x3FF ∷ 0x3FF ∷ header_word did ∷ header_word sdid ∷ header_word n ∷ []

-- the checksum put behind `n` user data words
abbrev pub summed_at : ℕ → List ℕ → List ℕ
summed_at n words = splice words (6 + n) (checksum_word (sum_low (take (3 + n) (drop 3 words))) ∷ [])
