-- A text cut into items: the octets before the first `;`, and the text behind it and its spaces.
-- By the octet at the front: `;`, a space, or another.
use mathlib.Core.Path.{◌≡◌, refl, ap, sym, ◌∙◌}
use mathlib.Core.Bool.{Bool, true, false, cond, not}
use mathlib.Core.List.{List, [], ◌∷◌, map}
use Prim.Native.Nat.{ℕ, suc, ◌+◌, ◌≤◌}
use native.Mathlib.Nat.{suc-add}
use native.Mathlib.Omega.{arith}
use lib.Dec.{ltb, eqb, leb-suc-suc}
use lib.ListN.{length, take, drop, length-drop, drop_of_length-le}
use borrow.Author.Tests.{lt-ltb, ltb-true, eqb-true}
use Rattle.std.specs.List.{prefix_len}
use Rattle.wire_spec.specs.Bits.{bit}
use Rattle.sdp_spec.specs.declared.item.Item.{Item}
use Rattle.sdp_spec.specs.Text.{semicolon, space}
use Rattle.sdp_spec.specs.Reading.{item_of, skip_spaces, front, next, fronts, items}

-- how many octets are before the first `;`, and how many spaces are at the front, as the library counts them
pub front-is : (s : List ℕ) → prefix_len (λ o. not (eqb o semicolon)) s ≡ length (front s)
unfolding front
front-is [] = refl
front-is (a ∷ s) = go (front-is s) (eqb a semicolon)
  where
    n : ℕ
    n = prefix_len (λ o. not (eqb o semicolon)) s

    go : n ≡ length (front s) → (t : Bool) → cond (not t) (1 + n) 0 ≡ length (cond t [] (a ∷ front s))
    go h true = refl
    go h false = omega arith

pub skip-is : (s : List ℕ) → drop (prefix_len (λ o. eqb o space) s) s ≡ skip_spaces s
unfolding skip_spaces
skip-is [] = refl
skip-is (a ∷ s) = go (skip-is s) (eqb a space)
  where
    n : ℕ
    n = prefix_len (λ o. eqb o space) s

    go : drop n s ≡ skip_spaces s → (t : Bool) → drop (cond t (1 + n) 0) (a ∷ s) ≡ cond t (skip_spaces s) (a ∷ s)
    go h true = let e : 1 + n ≡ suc n = omega arith in ap (λ (k : ℕ). drop k (a ∷ s)) e ∙ h
    go h false = refl

-- the octets before the first `;` stand at the front
pub front-take : (s : List ℕ) → take (length (front s)) s ≡ front s
unfolding front
front-take [] = refl
front-take (a ∷ s) = go (front-take s) (eqb a semicolon)
  where
    go : take (length (front s)) s ≡ front s → (t : Bool) → take (length (cond t [] (a ∷ front s))) (a ∷ s) ≡ cond t [] (a ∷ front s)
    go h true = refl
    go h false = ap (λ (x : List ℕ). a ∷ x) h

pub front-inside : (s : List ℕ) → length (front s) ≤ length s
unfolding front
front-inside [] = omega arith
front-inside (a ∷ s) = go (front-inside s) (eqb a semicolon)
  where
    go : length (front s) ≤ length s → (t : Bool) → length (cond t [] (a ∷ front s)) ≤ suc (length s)
    go h true = omega arith
    go h false = omega arith

pub next-none : (s : List ℕ) → length s ≤ length (front s) → next s ≡ []
unfolding next skip_spaces
next-none s h = rw (drop_of_length-le s {i = length (front s) + 1} (omega arith))

-- no `;` among spaces
pub fronts-skip : (s : List ℕ) → fronts (skip_spaces s) ≡ fronts s
unfolding fronts skip_spaces
fronts-skip [] = refl
fronts-skip (a ∷ s) = go (fronts-skip s) (eqb a space) refl
  where
    go : fronts (skip_spaces s) ≡ fronts s → (t : Bool) → eqb a space ≡ t → fronts (cond t (skip_spaces s) (a ∷ s)) ≡ fronts (a ∷ s)
    go h false e = refl
    go h true e = let k : eqb a semicolon ≡ false = ap (λ (x : ℕ). eqb x semicolon) (eqb-true a space e) in h ∙ sym (rw k)

-- behind the first `;` the text is cut like any
pub fronts-next : (s : List ℕ) → fronts s ≡ cond (ltb (length (front s)) (length s)) (front (next s) ∷ fronts (next s)) []
unfolding front fronts next
fronts-next [] = refl
fronts-next (a ∷ s) = go (fronts-next s) (eqb a semicolon)
  where
    go : fronts s ≡ cond (ltb (length (front s)) (length s)) (front (next s) ∷ fronts (next s)) [] → (t : Bool)
        → cond t (front (skip_spaces s) ∷ fronts s) (fronts s)
        ≡ cond (ltb (length (cond t [] (a ∷ front s))) (suc (length s)))
        (front (skip_spaces (drop (length (cond t [] (a ∷ front s)) + 1) (a ∷ s))) ∷ fronts (skip_spaces (drop (length (cond t [] (a ∷ front s)) + 1) (a ∷ s)))) []
    go h true = rw (lt-ltb 0 (suc (length s)) (omega arith), fronts-skip s)
    go h false = rw (leb-suc-suc (suc (length (front s))) (length s), suc-add (length (front s)) 1) h

-- the items of a text that has any, and of one that has none
abbrev pub left : Bool → List ℕ → List Item
left true s = map item_of (front s ∷ fronts s)
left false s = []

pub left-all : (s : List ℕ) → left (ltb 0 (length s)) s ≡ items s
unfolding items
left-all [] = refl
left-all (a ∷ s) = rw (lt-ltb 0 (suc (length s)) (omega arith))

-- the first item, and those behind it
pub left-next : (s : List ℕ) → left true s ≡ item_of (front s) ∷ left (ltb (length (front s)) (length s)) (next s)
left-next s = ap (λ (ts : List (List ℕ)). item_of (front s) ∷ map item_of ts) (fronts-next s) ∙ ap (λ (xs : List Item). item_of (front s) ∷ xs) (go (ltb (length (front s)) (length s)))
  where
    go : (t : Bool) → map item_of (cond t (front (next s) ∷ fronts (next s)) []) ≡ left t (next s)
    go true = refl
    go false = refl

-- what is left gets shorter, by an octet at least where an item follows
pub skip-shorter : (s : List ℕ) → length (skip_spaces s) ≤ length s
unfolding skip_spaces
skip-shorter [] = omega arith
skip-shorter (a ∷ s) = go (skip-shorter s) (eqb a space)
  where
    go : length (skip_spaces s) ≤ length s → (t : Bool) → length (cond t (skip_spaces s) (a ∷ s)) ≤ suc (length s)
    go h true = omega arith
    go h false = omega arith

pub next-shorter : (s : List ℕ) → length (next s) + bit (ltb (length (front s)) (length s)) ≤ length s
unfolding next
next-shorter s = go (ltb (length (front s)) (length s)) refl
  where
    go : (t : Bool) → ltb (length (front s)) (length s) ≡ t → length (skip_spaces (drop (length (front s) + 1) s)) + bit t ≤ length s
    go true e =
        let h = ltb-true (length (front s)) (length s) e in
        let k = skip-shorter (drop (length (front s) + 1) s) in
        omega (arith, length-drop (length (front s) + 1) s)
    go false e =
        let k = skip-shorter (drop (length (front s) + 1) s) in
        omega (arith, length-drop (length (front s) + 1) s)
