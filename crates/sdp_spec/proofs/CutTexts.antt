-- A text is cut into its items' octets in one way: the octets before each `;`, and those behind the last.
-- By the items from left to right.
use mathlib.Core.Path.{◌≡◌, refl, ap, ap₂, sym, ◌∙◌, subst}
use mathlib.Core.Bool.{Bool, true, false, cond}
use mathlib.Core.List.{List, [], ◌∷◌, ◌++◌, map}
use Prim.Native.Nat.{ℕ, zero, suc, ◌+◌, ◌<◌, ◌≤◌}
use native.Mathlib.Omega.{arith}
use lib.Dec.{ltb, eqb}
use lib.ListN.{length, replicate}
use borrow.Author.Tests.{ltb-true, ltb-false, eq-eqb, ne_eqb}
use Rattle.wire_spec.specs.Bits.{bit}
use Rattle.sdp_spec.specs.Text.{semicolon, space}
use Rattle.sdp_spec.specs.Reading.{item_of, skip_spaces, front, next, fronts, items}
use Rattle.sdp_spec.proofs.CutLaws.{fronts-next, fronts-skip, next-shorter}
use Rattle.sdp_spec.proofs.TextIff.{cut-text, last-text, front_self, fronts-self, front_cut, fronts-cut}
use Rattle.sdp_spec.proofs.TextIff as text
use Rattle.sdp_spec.specs.Offence.{Plain, NoSpace, Cut}

-- the octets of a text's items
abbrev pub cut_of : List ℕ → List (List ℕ)
cut_of s = front s ∷ fronts s

plain : (t : List ℕ) → Plain t → text.Plain t
plain [] h = tt
plain (a ∷ t) h = (ne_eqb a semicolon h.0, plain t h.1)

skip-none : (s : List ℕ) → NoSpace s → skip_spaces s ≡ s
unfolding skip_spaces
skip-none [] h = refl
skip-none (a ∷ s) h = rw (ne_eqb a space h)

skip_all : (n : ℕ) (s : List ℕ) → NoSpace s → skip_spaces (replicate n space ++ s) ≡ s
unfolding skip_spaces
skip_all zero s h = skip-none s h
skip_all (suc n) s h = skip_all n s h

-- the items' octets are those of the cut
pub cut-is : (ts : List (List ℕ)) (s : List ℕ) → Cut ts s → cut_of s ≡ ts
cut-is [] s c = absurd c
cut-is (t ∷ []) s c = ap cut_of c.1 ∙ ap₂ ◌∷◌ (front_self t (plain t c.0)) (fronts-self t (plain t c.0))
cut-is (t ∷ u ∷ ts) s c =
    let b = c.1 in
    let r = replicate b.spaces space ++ b.rest in
    let k : skip_spaces r ≡ b.rest = skip_all b.spaces b.rest b.start in
    let p = plain t c.0 in
    ap cut_of b.text
    ∙ ap₂ ◌∷◌ (front_cut t r p) (fronts-cut t r p ∙ ap₂ ◌∷◌ (ap front k) (sym (fronts-skip r) ∙ ap fronts k))
    ∙ ap (λ (x : List (List ℕ)). t ∷ x) (cut-is (u ∷ ts) b.rest b.is_rest)

front-plain : (s : List ℕ) → Plain (front s)
unfolding front
front-plain [] = tt
front-plain (a ∷ s) = go (front-plain s) (eqb a semicolon) refl
  where
    go : Plain (front s) → (t : Bool) → eqb a semicolon ≡ t → Plain (cond t [] (a ∷ front s))
    go h true e = tt
    go h false e = (λ q. differ (sym (eq-eqb a semicolon q) ∙ e), h)
      where
        differ : true ≡ false → ⊥
        differ z = let o : ◌≡◌ {A = ℕ} 0 1 = cc in omega arith

skip-starts : (s : List ℕ) → NoSpace (skip_spaces s)
unfolding skip_spaces
skip-starts [] = tt
skip-starts (a ∷ s) = go (skip-starts s) (eqb a space) refl
  where
    go : NoSpace (skip_spaces s) → (t : Bool) → eqb a space ≡ t → NoSpace (cond t (skip_spaces s) (a ∷ s))
    go h true e = h
    go h false e = λ q. differ (sym (eq-eqb a space q) ∙ e)
      where
        differ : true ≡ false → ⊥
        differ z = let o : ◌≡◌ {A = ℕ} 0 1 = cc in omega arith

next-starts : (s : List ℕ) → NoSpace (next s)
unfolding next
next-starts s = skip-starts _

-- every text is cut
cut_in : (bound : ℕ) (s : List ℕ) → length s ≤ bound → Cut (cut_of s) s
cut_in zero s h = go (ltb (length (front s)) (length s)) refl (fronts-next s)
  where
    go : (t : Bool) → ltb (length (front s)) (length s) ≡ t → fronts s ≡ cond t (cut_of (next s)) [] → Cut (cut_of s) s
    go false e f = subst (λ (x : List (List ℕ)). Cut (front s ∷ x) s) (sym f) (front-plain s, sym (last-text s (ltb-false (length (front s)) (length s) e)))
    go true e f = let l = ltb-true (length (front s)) (length s) e in absurd (omega arith)
cut_in (suc b) s h = go (cut_in b (next s)) (ltb (length (front s)) (length s)) refl (fronts-next s)
  where
    shorter : ltb (length (front s)) (length s) ≡ true → length (next s) ≤ b
    shorter e = let k = subst (λ (x : Bool). length (next s) + bit x ≤ length s) e (next-shorter s) in omega arith

    go : (length (next s) ≤ b → Cut (cut_of (next s)) (next s)) → (t : Bool) → ltb (length (front s)) (length s) ≡ t
        → fronts s ≡ cond t (cut_of (next s)) [] → Cut (cut_of s) s
    go ih false e f = subst (λ (x : List (List ℕ)). Cut (front s ∷ x) s) (sym f) (front-plain s, sym (last-text s (ltb-false (length (front s)) (length s) e)))
    go ih true e f =
        let c = cut-text s (ltb-true (length (front s)) (length s) e) in
        subst (λ (x : List (List ℕ)). Cut (front s ∷ x) s) (sym f)
        (front-plain s, record { spaces = c.0; rest = next s; text = c.1; start = next-starts s; is_rest = ih (shorter e) })

pub cut-of : (s : List ℕ) → Cut (cut_of s) s
cut-of s = cut_in (length s) s (omega arith)

-- the items of a text that has any
pub items-are : (s : List ℕ) → 0 < length s → items s ≡ map item_of (cut_of s)
unfolding items
items-are [] h = absurd (omega arith)
items-are (a ∷ s) h = refl
