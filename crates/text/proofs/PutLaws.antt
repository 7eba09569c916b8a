-- Pieces put one behind the other are one piece.
-- By the law of one splice behind the other.
use mathlib.Core.Path.{◌≡◌, ap, ap₂, sym, subst, ◌∙◌}
use mathlib.Core.List.{List, [], ◌++◌}
use Prim.Native.Nat.{ℕ, ◌≤◌}
use native.Mathlib.Omega.{arith}
use lib.ListN.{length, length-append}
use Rattle.wire_spec.specs.Bits.{splice}
use Rattle.wire_spec.proofs.ListLaws.{length-splice, splice-append, splice-none}
use Rattle.text.specs.Put.{Put}

-- nothing put
pub nothing : (o : List ℕ) (at : ℕ) → at ≤ length o → Put o at [] o at
nothing o at h = record { room = omega arith; behind = omega arith; octets = sym (splice-none o at) }

-- two pieces
pub both : {o o₁ o₂ x y : List ℕ} {at at₁ at₂ : ℕ} → Put o at x o₁ at₁ → Put o₁ at₁ y o₂ at₂ → Put o at (x ++ y) o₂ at₂
both {o} {o₁} {o₂} {x} {y} {at} {at₁} {at₂} p q =
    let l = length-append x y in
    let s : length o₁ ≡ length o = ap length p.octets ∙ length-splice o at x p.room in
    record {
      room = omega (arith, l, s, p.behind, q.room);
      behind = omega (arith, l, p.behind, q.behind);
      octets = q.octets ∙ ap₂ (λ (z : List ℕ) (k : ℕ). splice z k y) p.octets p.behind ∙ splice-append o at x y (omega (arith, p.room));
    }

-- the same piece, where the code has it otherwise
pub same : {o o₁ x y : List ℕ} {at at₁ : ℕ} → x ≡ y → Put o at x o₁ at₁ → Put o at y o₁ at₁
same {o} {o₁} {x} {y} {at} {at₁} e p = subst (λ (z : List ℕ). Put o at z o₁ at₁) e p
