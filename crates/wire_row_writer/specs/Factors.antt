-- Four words that start an octet, each multiplied so that it stands in its two octets.
use Rattle.std.specs.Prelude.{ℕ, ◌+◌, ◌*◌, ◌/◌, ◌%◌, List, [], ◌∷◌, slice_index}

-- of the four words, and of the one behind them, which has no part in their five octets
abbrev pub factors : List ℕ
factors = 64 ∷ 16 ∷ 4 ∷ 1 ∷ 0 ∷ []

-- the octet that ends word j, `a`, and starts the next, `b`
abbrev pub shared_octet : ℕ → ℕ → ℕ → ℕ
shared_octet a b j = a * slice_index factors j % 256 + b * slice_index factors (j + 1) / 256
