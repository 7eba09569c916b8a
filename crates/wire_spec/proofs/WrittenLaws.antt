-- Lent octets after a writer: as they were on a refusal, and on success with the answer first and nothing else changed.
use mathlib.Core.Path.{◌≡◌, refl, ap, ◌∙◌}
use mathlib.Core.List.{List}
use Prim.Native.Nat.{ℕ, ◌+◌, ◌≤◌}
use native.Mathlib.Omega.{arith}
use lib.ListN.{length, take, drop, length-append, length-drop}
use lib.Seq.{take_at, drop_at}
use Rattle.wire_spec.specs.declared.refusal.Refusal.{Refusal}
use Rattle.wire_spec.specs.Result.{Err, Ok}
use Rattle.wire_spec.specs.Written.{octets_after}

-- "Lent memory is unchanged"
pub refused-keeps : (x : Refusal) (out : List ℕ) → octets_after (Err x) out ≡ out
refused-keeps x out = refl

-- "On success only the cells or octets of the answer are written.": the answer stands first, the rest and the length stay
pub written-only : (o out : List ℕ) → length o ≤ length out
    → (take (length o) (octets_after (Ok o) out) ≡ o) × (drop (length o) (octets_after (Ok o) out) ≡ drop (length o) out)
    × (length (octets_after (Ok o) out) ≡ length out)
written-only o out h = (
  take_at o (drop (length o) out) (length o) refl,
  drop_at o (drop (length o) out) (length o) refl,
  length-append o (drop (length o) out) ∙ ap (λ (n : ℕ). length o + n) (length-drop (length o) out) ∙ omega arith,
)
