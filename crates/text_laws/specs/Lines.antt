-- Text as lines: each ends with its first octet 0x0A.
use Rattle.std.specs.Prelude.{◌≡◌, List, [], ◌∷◌, ◌++◌, ℕ, zero, suc, ◌≤◌}

-- no octet ends a line
abbrev pub Printable : List ℕ → Type 0
Printable [] = Unit {0}
Printable (o ∷ s) = (0x20 ≤ o) × Printable s

-- one line
pub record Ended (s : List ℕ) : Type 0 where
  pub body : List ℕ
  pub is : s ≡ body ++ (0x0A ∷ [])
  pub printable : Printable body

-- a line, and the rest
pub record Parted (Rest : List ℕ → Type 0) (s : List ℕ) : Type 0 where
  pub line : List ℕ
  pub rest : List ℕ
  pub is : s ≡ line ++ rest
  pub ended : Ended line
  pub behind : Rest rest

-- `n` lines and nothing else
abbrev pub Lines : (n : ℕ) → List ℕ → Type 0
Lines zero s = s ≡ []
Lines (suc n) s = Parted (Lines n) s
