-- When a field file is refused, in the papers' words and numbers and without the checks (01, "Field file"; 02, K2, K5, K13).
use Rattle.std.specs.Prelude.{◌≡◌, ◌⊎◌, List, [], ◌∷◌, ℕ, ◌+◌, ◌<◌, ◌≤◌, length, take, drop, get_or}
use Rattle.wire_spec.specs.declared.refusal.Refusal.{Refusal}
use Rattle.wire_spec.specs.Layout.{rfc8331}
use Rattle.wire_spec.specs.Result.{Err, Ok}
use Rattle.wire_spec.specs.Anc.{Record, run_size, read_run}
use Rattle.wire_spec.specs.Cells.{list_of, read_list}
use Rattle.fieldfile_spec.specs.declared.format.Version.{Version}
use Rattle.fieldfile_spec.specs.declared.format.Version.TheVariants as version
use Rattle.fieldfile_spec.specs.File.{FieldContent, count_field, read_field}

-- `ANF`, and `ANF` with a version; octets of a field's header: 4 + 1 + 1, and in version 2 one more
abbrev pub anf : List ℕ
anf = 0x41 ∷ 0x4E ∷ 0x46 ∷ []

abbrev pub head_of : Version → List ℕ
head_of version.One = 0x41 ∷ 0x4E ∷ 0x46 ∷ 0x00 ∷ 0x01 ∷ []
head_of version.Two = 0x41 ∷ 0x4E ∷ 0x46 ∷ 0x00 ∷ 0x02 ∷ []

abbrev pub header_octets : Version → ℕ
header_octets version.One = 6
header_octets version.Two = 7

-- the refusal with the index 0
abbrev pub only : ℕ → Refusal
only n = record { number = n; index = 0 }

-- 53: "file F not 0, 2, 3"
abbrev pub IsF : ℕ → Type 0
IsF f = (f ≡ 0) ⊎ ((f ≡ 2) ⊎ (f ≡ 3))

-- 21: "over 4,095 or 32,768 for a field" (02, K2), "limits in cells become 36,864" (K13)
abbrev pub Over : (records cells : ℕ) → Type 0
Over records cells = (4095 < records) ⊎ (36864 < cells)

-- a file of this version, with octets at `at`
pub record There (s : List ℕ) (at : ℕ) (v : Version) : Type 0 where
  pub head : take 5 s ≡ head_of v
  pub from : 5 ≤ at
  pub inside : at < length s

-- and a whole field header with a good F
pub record Headed (s : List ℕ) (at : ℕ) (v : Version) : Type 0 where
  pub there : There s at v
  pub header : header_octets v ≤ length (drop at s)
  pub f : IsF (get_or (drop at s) 4 0)

-- "Reading at an offset: 50, 51, 55, 54, 52, 53, 9 to 12, 21, 14", with 16 among the packets (02, K5)
pub data Refuses (s : List ℕ) (at room : ℕ) (x : Refusal) : Type 0 where
  not_anf : (take 3 s ≡ anf → ⊥) → x ≡ only 50 → Refuses s at room x
  wrong_version : take 3 s ≡ anf → ((v : Version) → take 5 s ≡ head_of v → ⊥) → x ≡ only 51 → Refuses s at room x
  wrong_offset : (v : Version) → take 5 s ≡ head_of v → (at < 5) ⊎ (length s < at) → x ≡ only 55 → Refuses s at room x
  at_end : (v : Version) → take 5 s ≡ head_of v → 5 ≤ at → at ≡ length s → x ≡ only 54 → Refuses s at room x
  header_cut : (v : Version) → There s at v → length (drop at s) < header_octets v → x ≡ only 52 → Refuses s at room x
  wrong_f : (v : Version) → There s at v → header_octets v ≤ length (drop at s) → (IsF (get_or (drop at s) 4 0) → ⊥) → x ≡ only 53 → Refuses s at room x
  packet : (v : Version) → Headed s at v → read_run rfc8331 0 (count_field v (drop at s)) (drop (header_octets v) (drop at s)) ≡ Err x → Refuses s at room x
  over_limit : (v : Version) → Headed s at v → (rs : List Record) (rest : List ℕ)
      → read_run rfc8331 0 (count_field v (drop at s)) (drop (header_octets v) (drop at s)) ≡ Ok (rs, rest) → Over (length rs) (length (list_of rs))
      → x ≡ only 21 → Refuses s at room x
  list_short : (k : FieldContent) (next : ℕ) → read_field s at ≡ Ok (k, next) → room < length (list_of k.records) → x ≡ only 14 → Refuses s at room x

-- "Writing one field: 53, 20, 21, 23", and 16 "after 20" (02, K5)
pub data WriteRefuses (f : ℕ) (cells : List ℕ) (room : ℕ) (x : Refusal) : Type 0 where
  wrong_f : (IsF f → ⊥) → x ≡ only 53 → WriteRefuses f cells room x
  list : IsF f → read_list cells ≡ Err x → WriteRefuses f cells room x
  over_limit : IsF f → (rs : List Record) → read_list cells ≡ Ok rs → Over (length rs) (length cells) → x ≡ only 21 → WriteRefuses f cells room x
  no_room : IsF f → (rs : List Record) → read_list cells ≡ Ok rs → (Over (length rs) (length cells) → ⊥) → room < 7 + run_size rfc8331 rs
      → x ≡ only 23 → WriteRefuses f cells room x
