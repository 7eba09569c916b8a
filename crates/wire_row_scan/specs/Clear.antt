-- What a pass over words tells of them (01, "Checksum"; 02, K5).
use Rattle.std.specs.Prelude.{◌≡◌, ℕ, ◌%◌, Bool, true, ◌&&◌, leb, List, [], ◌∷◌, nat_le}
use Rattle.wire_spec.specs.Words.{sum_low, all_clear}

-- the sum that the checksum word asks for, and whether no word is protected
pub record Scanned (words : List ℕ) (sum : ℕ) (clear : Bool) : Type 0 where
  pub sum_is : sum ≡ sum_low words % 512
  pub clear-is : clear ≡ all_clear words

-- the same in the making: a sum that is right modulo 512, and a number that is under 8 where a word is protected
pub record Tallied (words : List ℕ) (sum low : ℕ) : Type 0 where
  pub sum_is : sum % 512 ≡ sum_low words % 512
  pub clear-is : leb 8 low ≡ all_clear words

-- no number is under 8
abbrev pub all_high : List ℕ → Bool
all_high [] = true
all_high (x ∷ xs) = nat_le 8 x && all_high xs
