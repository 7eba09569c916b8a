-- Tags before an EtherType, one after the other.
-- By the definition, whose octets come in fours.
use mathlib.Core.Path.{◌≡◌, refl, sym, ◌∙◌}
use mathlib.Core.Bool.{Bool, true, false, cond}
use mathlib.Core.List.{List, [], ◌∷◌}
use Prim.Native.Nat.{ℕ, ◌+◌, ◌*◌, ◌≤◌}
use native.Mathlib.Omega.{arith}
use borrow.Author.Tests.{le-leb, leb-true}
use lib.Dec.{leb}
use lib.ListN.{length, drop}
use Rattle.wire_spec.proofs.ResultLaws.{and-true}
use Rattle.capture_datagram.specs.declared.answer.Found.{Found}
use Rattle.capture_datagram.specs.declared.answer.Found.TheVariants as found
use Rattle.capture_datagram.specs.Answer.{pair, beyond}
use Rattle.capture_datagram.specs.Link.{is_tag, has_tag, tag_octets}

-- a whole tag was captured
pub tag-inside : (s : List ℕ) → has_tag s ≡ true → 4 ≤ length s
unfolding has_tag
tag-inside s e = leb-true 4 (length s) (and-true (leb 4 (length s)) (is_tag (pair s 0)) e).0

module _ (h l a b : ℕ) (s : List ℕ) where
  four : leb 4 (length (h ∷ l ∷ a ∷ b ∷ s)) ≡ true
  four = le-leb 4 (length (h ∷ l ∷ a ∷ b ∷ s)) (omega arith)

  tagged-or-not : has_tag (h ∷ l ∷ a ∷ b ∷ s) ≡ is_tag (h * 256 + l)
  unfolding has_tag
  tagged-or-not = rw four

-- one tag, and those behind it
pub tag-next : (s : List ℕ) → has_tag s ≡ true → tag_octets s ≡ 4 + tag_octets (drop 4 s)
unfolding tag_octets
tag-next [] e = absurd (omega (arith, tag-inside [] e))
tag-next (h ∷ []) e = absurd (omega (arith, tag-inside (h ∷ []) e))
tag-next (h ∷ l ∷ []) e = absurd (omega (arith, tag-inside (h ∷ l ∷ []) e))
tag-next (h ∷ l ∷ a ∷ []) e = absurd (omega (arith, tag-inside (h ∷ l ∷ a ∷ []) e))
tag-next (h ∷ l ∷ a ∷ b ∷ s) e = rw (sym (tagged-or-not h l a b s) ∙ e)

-- no whole tag
pub tag-none : (s : List ℕ) → has_tag s ≡ false → tag_octets s ≡ 0
unfolding tag_octets
tag-none [] e = refl
tag-none (h ∷ []) e = refl
tag-none (h ∷ l ∷ []) e = refl
tag-none (h ∷ l ∷ a ∷ []) e = refl
tag-none (h ∷ l ∷ a ∷ b ∷ s) e = rw (sym (tagged-or-not h l a b s) ∙ e)

-- all of them were captured
pub tags-inside : (s : List ℕ) → tag_octets s ≤ length s
unfolding tag_octets
tags-inside [] = omega arith
tags-inside (h ∷ []) = omega arith
tags-inside (h ∷ l ∷ []) = omega arith
tags-inside (h ∷ l ∷ a ∷ []) = omega arith
tags-inside (h ∷ l ∷ a ∷ b ∷ s) = go (is_tag (h * 256 + l)) (tags-inside s)
  where
    go : (t : Bool) → tag_octets s ≤ length s → cond t (4 + tag_octets s) 0 ≤ length (h ∷ l ∷ a ∷ b ∷ s)
    go true i = omega arith
    go false i = omega arith

-- behind nothing
pub beyond-none : (f : Found) → beyond 0 f ≡ f
beyond-none (found.Frame a b) = let e : (x : ℕ) → 0 + x ≡ x = λ x. omega arith in λ i. found.Frame (e a i) (e b i)
beyond-none found.Passed = refl
beyond-none found.Fragment = refl
beyond-none found.Cut = refl
