-- The ten-bit words of SMPTE ST 291-1 (01, "The packet").
use Rattle.std.specs.Prelude.{◌≡◌, Bool, true, ◌&&◌, List, [], ◌∷◌, ℕ, zero, suc, ◌+◌, ◌-◌, ◌*◌, ◌/◌, ◌%◌, ◌<◌, eqb, leb, get_or}

-- bits of a word, and the numbers that a header word can carry
abbrev pub word_bits : ℕ
word_bits = 10

abbrev pub header_numbers : ℕ
header_numbers = 256

-- how many of the low `k` bits of `x` are ones
abbrev pub ones : ℕ → ℕ → ℕ
ones zero x = 0
ones (suc k) x = x % 2 + ones k (x / 2)

-- "A header word carries an 8-bit number in b7..b0; b8 makes the ones in b8..b0 even; b9 is the opposite of b8."
unfoldable pub header_word : ℕ → ℕ
header_word x = x + 256 * (ones 8 x % 2) + 512 * (1 - ones 8 x % 2)

-- b8 and b9 are those of the number in b7..b0
abbrev pub is_header_word : ℕ → Bool
is_header_word w = eqb w (header_word (w % header_numbers))

-- "ST 291-1 keeps 0x000 to 0x003 and 0x3FC to 0x3FF for timing" (02, K5): the words that it leaves
abbrev pub least_clear : ℕ
least_clear = 0x004

abbrev pub most_clear : ℕ
most_clear = 0x3FB

abbrev pub is_clear : ℕ → Bool
is_clear w = leb least_clear w && leb w most_clear

abbrev pub all_clear : List ℕ → Bool
all_clear [] = true
all_clear (w ∷ ws) = is_clear w && all_clear ws

-- "The words for all 256 numbers stand in one table": the rule of that table
pub record HeaderTable (table : List ℕ) : Type 0 where
  pub entry : (x : ℕ) → x < header_numbers → get_or table x 0 ≡ header_word x

-- "the sum of the low nine bits of DID, SDID, Data_Count and every user data word"
abbrev pub sum_low : List ℕ → ℕ
sum_low [] = 0
sum_low (w ∷ ws) = w % 512 + sum_low ws

-- "modulo 512, in b8..b0; b9 is the opposite of b8"
unfoldable pub checksum_word : ℕ → ℕ
checksum_word sum = sum % 512 + 512 * (1 - sum % 512 / 256)
