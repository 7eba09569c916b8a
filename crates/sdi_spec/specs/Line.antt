-- Writing into a line and reading from it (02, K6).
use Rattle.std.specs.Prelude.{◌≡◌, Bool, ◌&&◌, List, [], ◌∷◌, map, ℕ, ◌+◌, ◌^◌, ◌<◌, ◌≤◌, leb, ltb, length, take, drop}
use Rattle.wire_spec.specs.Bits.{Below, splice}
use Rattle.wire_spec.specs.Words.{word_bits}
use Rattle.wire_spec.specs.Layout.{rfc8331, s_bits, stream_bits}
use Rattle.wire_spec.specs.Result.{Result, Err, Ok, Checks, judge, ◌then◌}
use Rattle.wire_spec.specs.Anc.{Record}
use Rattle.wire_spec.specs.Cells.{list_of, all_below, read_list}
use Rattle.sdi_spec.specs.declared.position.Position.{Position}
use Rattle.sdi_spec.specs.Packets.{stretch, packets_in, placed}

-- "Lines hold at most 4,096 words"
abbrev pub max_line : ℕ
max_line = 4096

-- "70 line too long; 71 start past the end"
unfoldable pub line_checks : List ℕ → ℕ → Checks
line_checks line start =
    (leb (length line) max_line, 70)
    ∷ (leb start (length line), 71)
    ∷ []

-- "20 and 16 on the list; 72 no room before the end": the words of the written stretch
unfoldable pub write_line : (line : List ℕ) (start : ℕ) (cells : List ℕ) → Result (List ℕ)
write_line line start cells =
    judge 0 (line_checks line start)
    (read_list cells then λ rs. judge 0 ((leb (start + length (stretch rs)) (length line), 72) ∷ []) (Ok (stretch rs)))

-- "words outside the written stretch stay"; a refusal leaves the line alone
abbrev pub line_after : Result (List ℕ) → List ℕ → ℕ → List ℕ
line_after (Err x) line start = line
line_after (Ok o) line start = splice line start o

-- each number of the position fits its field
pub record PositionFits (P : Position) : Type 0 where
  pub c : P.c < 2 ^ 1
  pub line : P.line < 2 ^ 11
  pub offset : P.offset < 2 ^ 12
  pub s : P.s < 2 ^ s_bits rfc8331
  pub stream : P.stream < 2 ^ stream_bits rfc8331

-- 20: "a caller's field too large"
unfoldable pub position_ok : Position → Bool
position_ok P =
    ltb P.c (2 ^ 1)
    && (ltb P.line (2 ^ 11)
    && (ltb P.offset (2 ^ 12)
    && (ltb P.s (2 ^ s_bits rfc8331) && ltb P.stream (2 ^ stream_bits rfc8331))))

-- "in reading, after 70 and 71, 20 (a caller's field too large, index 0), 73 any line word over 1,023"
unfoldable pub reading_checks : List ℕ → Position → Checks
reading_checks line P =
    (position_ok P, 20)
    ∷ (all_below (2 ^ word_bits) line, 73)
    ∷ []

-- "Reading starts at a given word": the records of the packets from there on
unfoldable pub read_line : (line : List ℕ) (start : ℕ) → Position → Result (List Record)
read_line line start P =
    judge 0 (line_checks line start)
    (judge 0 (reading_checks line P) (packets_in P (drop start line)))

-- "and 14 last": the lent list of `room` cells is shorter than the records need
unfoldable pub read_line_into : (line : List ℕ) (start : ℕ) → Position → (room : ℕ) → Result (List Record)
read_line_into line start P room =
    read_line line start P then λ rs. judge 0 ((leb (length (list_of rs)) room, 14) ∷ []) (Ok rs)

-- none of 70, 71, 20 and 73
pub record Readable (line : List ℕ) (start : ℕ) (P : Position) : Type 0 where
  pub long : length line ≤ max_line
  pub inside : start ≤ length line
  pub position : PositionFits P
  pub words : Below (2 ^ word_bits) line

-- the words outside the stretch `o` that was written from `start` on
pub record Outside (line after : List ℕ) (start : ℕ) (o : List ℕ) : Type 0 where
  pub long : length after ≡ length line
  pub before : take start after ≡ take start line
  pub stretch : take (length o) (drop start after) ≡ o
  pub behind : drop (start + length o) after ≡ drop (start + length o) line

-- What written words say when they are read at the position `P`, with lent room for as many cells as they were written from.
pub record ReadBack (line : List ℕ) (start : ℕ) (cells o : List ℕ) (P : Position) : Type 0 where
  pub records : List Record
  pub written : read_list cells ≡ Ok records
  pub read : read_line (splice line start o) start P ≡ Ok (map (placed P) records)
  pub room : (n : ℕ) → length cells ≤ n → read_line_into (splice line start o) start P n ≡ Ok (map (placed P) records)
