-- The parts of a text that is written, one behind the other.
use Rattle.std.specs.Prelude.{cond, List, [], ◌∷◌, ℕ, eqb}
use Rattle.sdp_spec.specs.Text.{semicolon}
use Rattle.sdp_spec.specs.Writing.{joined, separated}

-- the `;` behind so many octets of a text: none at its start
abbrev pub separator : ℕ → List ℕ
separator to = cond (eqb to 0) [] (semicolon ∷ [])

-- items behind so many octets of a text
abbrev pub following : ℕ → List (List ℕ) → List ℕ
following to ts = cond (eqb to 0) (joined ts) (separated ts)
