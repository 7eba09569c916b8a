-- What the code answers in the definitions' terms.
use Rattle.std.specs.Prelude.{List, ℕ, length}
use Rattle.sdp_item.specs.declared.Digits.{Digits}
use Rattle.sdp_spec.specs.Text.{number}

-- digits: the number that they write, and how many they are
abbrev pub digits_of : ℕ → List ℕ → Digits
digits_of base ds = record { value = number base ds; count = length ds }
