-- The words of a packet as they are written (01, "The packet").
use Rattle.std.specs.Prelude.{List, [], ◌∷◌, ◌++◌, ℕ, ◌+◌, length}
use Rattle.wire_spec.specs.Anc.{Record}
use Rattle.wire_spec.specs.Bits.{Fields, row}
use Rattle.wire_spec.specs.Words.{word_bits, header_word, sum_low, checksum_word}

-- ".. then ten-bit words DID, SDID, Data_Count, .."
abbrev pub head_words : Record → List ℕ
head_words r = header_word r.did ∷ header_word r.sdid ∷ header_word (length r.words) ∷ []

-- ".. n user data words, checksum, ..", where the low nine bits of the words before them sum to `sum`
abbrev pub summed : List ℕ → ℕ → Fields
summed words sum = row word_bits words ++ (word_bits, checksum_word (sum + sum_low words)) ∷ []
