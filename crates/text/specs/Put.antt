-- A piece of text put into octets.
use Rattle.std.specs.Prelude.{◌≡◌, List, ℕ, ◌+◌, ◌≤◌, length}
use Rattle.wire_spec.specs.Bits.{splice}

-- `before` with the piece from `at` on is `after`, and the next piece goes to `next`
pub record Put (before : List ℕ) (at : ℕ) (piece after : List ℕ) (next : ℕ) : Type 0 where
  pub room : at + length piece ≤ length before
  pub behind : next ≡ at + length piece
  pub octets : after ≡ splice before at piece
