-- When a line is refused, in 02's words, numbers and order (K6): "70 line too long; 71 start past the end; 20 and 16 on the list; 72 no room before the end; in reading, after
-- 70 and 71, 20 (a caller's field too large, index 0), 73 any line word over 1,023, then 9 (under four words after the flag), 10, 9 (its words), 16, 11, and 14 last."
use Rattle.std.specs.Prelude.{◌≡◌, true, false, List, ◌++◌, ℕ, ◌+◌, ◌<◌, ◌≤◌, length, take, drop, get_or}
use Rattle.wire_spec.specs.declared.refusal.Refusal.{Refusal}
use Rattle.wire_spec.specs.Bits.{Below}
use Rattle.wire_spec.specs.Layout.{rfc8331}
use Rattle.wire_spec.specs.Words.{sum_low, checksum_word}
use Rattle.wire_spec.specs.Result.{Err, Ok}
use Rattle.wire_spec.specs.Anc.{Each, Record, WellFormed, are_header_words}
use Rattle.wire_spec.specs.Cells.{list_of, read_list}
use Rattle.sdi_spec.specs.declared.position.Position.{Position}
use Rattle.sdi_spec.specs.Packets.{flag, stretch, line_count, user_words, At, Unprotected}
use Rattle.sdi_spec.specs.Line.{PositionFits, Readable, read_line}

-- the refusal with the index 0
abbrev pub only : ℕ → Refusal
only n = record { number = n; index = 0 }

pub data WriteRefuses (line : List ℕ) (start : ℕ) (cells : List ℕ) (x : Refusal) : Type 0 where
  too_long : 4096 < length line → x ≡ only 70 → WriteRefuses line start cells x
  past_end : length line ≤ 4096 → length line < start → x ≡ only 71 → WriteRefuses line start cells x
  list : length line ≤ 4096 → start ≤ length line → read_list cells ≡ Err x → WriteRefuses line start cells x
  no_room : length line ≤ 4096 → start ≤ length line → (rs : List Record) → read_list cells ≡ Ok rs → length line < start + length (stretch rs)
      → x ≡ only 72 → WriteRefuses line start cells x

-- by which number the packet offends whose words behind the flag are `t` and the rest of the line
pub data PacketFails (t : List ℕ) (n : ℕ) : Type 0 where
  short : length t < 4 → n ≡ 9 → PacketFails t n
  header : 4 ≤ length t → are_header_words (take 3 t) ≡ false → n ≡ 10 → PacketFails t n
  cut : 4 ≤ length t → are_header_words (take 3 t) ≡ true → length t < 4 + line_count t → n ≡ 9 → PacketFails t n
  protected : are_header_words (take 3 t) ≡ true → 4 + line_count t ≤ length t → (Each Unprotected (user_words t) → ⊥) → n ≡ 16 → PacketFails t n
  checksum : are_header_words (take 3 t) ≡ true → 4 + line_count t ≤ length t → Each Unprotected (user_words t)
      → (get_or t (3 + line_count t) 0 ≡ checksum_word (sum_low (take (3 + line_count t) t)) → ⊥) → n ≡ 11 → PacketFails t n

-- the first packet that offends, and its index: how many stand before it
pub record PacketAt (P : Position) (s : List ℕ) (x : Refusal) : Type 0 where
  pub before : List Record
  pub formed : Each (WellFormed rfc8331) before
  pub placed : Each (At P) before
  pub behind : List ℕ
  pub words : s ≡ stretch before ++ (flag ++ behind)
  pub by : PacketFails behind x.number
  pub index : x.index ≡ length before

pub data ReadRefuses (line : List ℕ) (start : ℕ) (P : Position) (room : ℕ) (x : Refusal) : Type 0 where
  too_long : 4096 < length line → x ≡ only 70 → ReadRefuses line start P room x
  past_end : length line ≤ 4096 → length line < start → x ≡ only 71 → ReadRefuses line start P room x
  position : length line ≤ 4096 → start ≤ length line → (PositionFits P → ⊥) → x ≡ only 20 → ReadRefuses line start P room x
  too_large : length line ≤ 4096 → start ≤ length line → PositionFits P → (Below 1024 line → ⊥) → x ≡ only 73 → ReadRefuses line start P room x
  packet : Readable line start P → PacketAt P (drop start line) x → ReadRefuses line start P room x
  list_short : (rs : List Record) → read_line line start P ≡ Ok rs → room < length (list_of rs) → x ≡ only 14 → ReadRefuses line start P room x
