-- Octets written part by part: what is left to be written, and what a part leaves.
-- By the seam between what was written and what is left.
use mathlib.Core.Path.{◌≡◌, refl, ap, sym, ◌∙◌, subst, subst₂}
use mathlib.Core.List.{List, [], ◌∷◌, ◌++◌}
use Prim.Native.Nat.{ℕ, ◌+◌, ◌<◌, ◌≤◌}
use native.Mathlib.Nat.{add-zero}
use native.Mathlib.Omega.{arith}
use lib.ListN.{length, set, length-append, length-set}
use Rattle.wire_spec.specs.Bits.{overwrite, splice}
use Rattle.wire_spec.proofs.ListLaws.{length-splice, splice-append, splice-none, set-splice, splice-set}

-- of the octets `all`, to be written to the front of `old`, those of `rest` are left; they go from `to` on
pub record Left (all old rest now : List ℕ) (to : ℕ) : Type 0 where
  pub long : length now ≡ length old
  pub size : to + length rest ≡ length all
  pub room : length all ≤ length old
  pub stored : splice now to rest ≡ overwrite all old

pub left-starts : (all old : List ℕ) → length all ≤ length old → Left all old all old 0
left-starts all old h = record { long = refl; size = omega arith; room = h; stored = refl }

module _ (all old x y now : List ℕ) (to : ℕ) (left : Left all old (x ++ y) now to) where
  both : to + (length x + length y) ≡ length all
  both = ap (λ (n : ℕ). to + n) (sym (length-append x y)) ∙ left.size

  -- there is room for the next part
  pub left-room : to + length x ≤ length now
  left-room = let e = both in omega (arith, left.long, left.room)

  -- the next part written
  pub left-next : (to' : ℕ) (now' : List ℕ) → to' ≡ to + length x → now' ≡ splice now to x → Left all old y now' to'
  left-next to' now' e h =
      let k = both in
      let n : length (splice now to x) ≡ length now = length-splice now to x left-room in
      let done : Left all old y (splice now to x) (to + length x) = record {
        long = n ∙ left.long;
        size = omega arith;
        room = left.room;
        stored = splice-append now to x y (omega (arith, left.long, left.room)) ∙ left.stored;
      } in
      subst₂ (λ (l : List ℕ) (n : ℕ). Left all old y l n) (sym h) (sym e) done

-- what is left, in another form
pub left_as : (all old r r' now : List ℕ) (to : ℕ) → r ≡ r' → Left all old r now to → Left all old r' now to
left_as all old r r' now to e h = subst (λ (r : List ℕ). Left all old r now to) e h

-- nothing is left
pub left-ends : (all old now : List ℕ) (to : ℕ) → Left all old [] now to → (to ≡ length all) × (now ≡ overwrite all old)
left-ends all old now to h = (sym (add-zero to) ∙ h.size, sym (splice-none now to) ∙ h.stored)

-- two stores
pub set-two : (l : List ℕ) (k a b : ℕ) → k + 1 < length l → set (set l k a) (k + 1) b ≡ splice l k (a ∷ b ∷ [])
set-two l k a b h = set-splice (set l k a) (k + 1) b (rw (length-set l k a) h) ∙ splice-set l k a (b ∷ []) (omega arith)
