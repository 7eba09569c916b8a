-- Eight words that start an octet, each as two neighbouring octets masked, multiplied and divided.
use Rattle.std.specs.Prelude.{List, [], ◌∷◌, ℕ}

-- eight masks, which keep a word and the bits behind it; eight factors, which bring the word to the front of sixteen bits
abbrev pub lanes : List ℕ
lanes = 65535 ∷ 16383 ∷ 4095 ∷ 1023 ∷ 65535 ∷ 16383 ∷ 4095 ∷ 1023 ∷ 1 ∷ 4 ∷ 16 ∷ 64 ∷ 1 ∷ 4 ∷ 16 ∷ 64 ∷ []
