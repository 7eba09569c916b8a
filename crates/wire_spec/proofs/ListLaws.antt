-- Lists one behind the other; and lists written over: one store after the other is one store of both.
-- By the seam between what was written and what follows it.
use mathlib.Core.Path.{◌≡◌, refl, ap, ap₂, sym, ◌∙◌}
use mathlib.Core.List.{List, [], ◌∷◌, ◌++◌, map, append_assoc, append-nil}
use Prim.Native.Nat.{ℕ, zero, suc, ◌+◌, ◌-◌, ◌<◌, ◌≤◌}
use native.Mathlib.Numerals.{add-one}
use native.Mathlib.Omega.{arith}
use lib.ListN.{get_or, length, take, drop, set, length-set, length-append, length-drop, take-append-drop, drop_of_length-le}
use lib.Seq.{drop-cons, length-take-le, take_at, drop_at, drop-drop, set_split, take_all}
use Rattle.wire_spec.specs.Bits.{overwrite, splice}
use Rattle.wire_spec.specs.Anc.{Each}

-- LISTS one behind the other: what holds of each element, and what is made of each
pub each_append : {A : Type 0} (P : A → Type 0) (xs ys : List A) → Each P xs → Each P ys → Each P (xs ++ ys)
each_append P [] ys e d = d
each_append P (x ∷ xs) ys e d = (e.0, each_append P xs ys e.1 d)

pub each_snoc : {A : Type 0} (P : A → Type 0) (l : List A) (x : A) → Each P l → P x → Each P (l ++ (x ∷ []))
each_snoc P l x h p = each_append P l (x ∷ []) h (p, tt)

pub each-split : {A : Type 0} (P : A → Type 0) (xs ys : List A) → Each P (xs ++ ys) → Each P xs × Each P ys
each-split P [] ys h = (tt, h)
each-split P (x ∷ xs) ys h = let q = each-split P xs ys h.1 in ((h.0, q.0), q.1)

pub map-append : {A B : Type 0} (g : A → B) (xs ys : List A) → map g (xs ++ ys) ≡ map g xs ++ map g ys
map-append g [] ys = refl
map-append {B = B} g (x ∷ xs) ys = ap (λ (l : List B). g x ∷ l) (map-append g xs ys)

-- A PART written over

module _ {A : Type 0} where
  -- what follows the written part is what stood there
  pub splice-is : (old : List A) (k : ℕ) (new : List A) → splice old k new ≡ take k old ++ (new ++ drop (k + length new) old)
  splice-is old k new = rw (drop-drop (length new) k old)

  pub length-splice : (old : List A) (k : ℕ) (new : List A) → k + length new ≤ length old → length (splice old k new) ≡ length old
  length-splice old k new h =
      ap length (splice-is old k new)
      ∙ length-append (take k old) _
      ∙ rw (length-append new (drop (k + length new) old), length-take-le k old (omega arith), length-drop (k + length new) old) (omega arith)

  front_length : (old : List A) (k : ℕ) (new : List A) → k ≤ length old → length (take k old ++ new) ≡ k + length new
  front_length old k new h = length-append (take k old) new ∙ rw (length-take-le k old h)

  pub take-splice : (old : List A) (k : ℕ) (new : List A) → k ≤ length old → take (k + length new) (splice old k new) ≡ take k old ++ new
  take-splice old k new h =
      ap (take (k + length new)) (sym (append_assoc (take k old) new _)) ∙ take_at (take k old ++ new) _ (k + length new) (front_length old k new h)

  pub drop-splice : (old : List A) (k : ℕ) (new : List A) → k ≤ length old → drop (k + length new) (splice old k new) ≡ drop (length new) (drop k old)
  drop-splice old k new h =
      ap (drop (k + length new)) (sym (append_assoc (take k old) new _)) ∙ drop_at (take k old ++ new) _ (k + length new) (front_length old k new h)

  pub splice-append : (old : List A) (k : ℕ) (x y : List A) → k ≤ length old → splice (splice old k x) (k + length x) y ≡ splice old k (x ++ y)
  splice-append old k x y h =
      ap₂ (λ (a b : List A). a ++ (y ++ drop (length y) b)) (take-splice old k x h) (drop-splice old k x h)
      ∙ append_assoc (take k old) x _
      ∙ ap (λ (t : List A). take k old ++ t)
      (sym (append_assoc x y _)
      ∙ ap (λ (t : List A). (x ++ y) ++ t) (drop-drop (length y) (length x) (drop k old) ∙ ap (λ (m : ℕ). drop m (drop k old)) (sym (length-append x y))))

  pub splice-none : (old : List A) (k : ℕ) → splice old k [] ≡ old
  splice-none old k = take-append-drop k old

  pub set-splice : (old : List A) (k : ℕ) (a : A) → k < length old → set old k a ≡ splice old k (a ∷ [])
  set-splice old k a h = set_split old k a h ∙ sym (splice-is old k (a ∷ []) ∙ rw (add-one k))

  pub splice-set : (old : List A) (k : ℕ) (a : A) (y : List A) → k < length old → splice (set old k a) (k + 1) y ≡ splice old k (a ∷ y)
  splice-set old k a y h =
      ap (λ (l : List A). splice l (k + 1) y) (set-splice old k a h) ∙ splice-append old k (a ∷ []) y (omega arith)

  -- elements set one after the other: the first at k + j, the next at k + (j + 1), and so on, which computes where j is a numeral
  abbrev pub sets_from : List A → (k j : ℕ) → List A → List A
  sets_from l k j [] = l
  sets_from l k j (a ∷ v) = sets_from (set l (k + j) a) k (suc j) v

  sets-from : (v l : List A) (k j : ℕ) → k + j + length v ≤ length l → sets_from l k j v ≡ splice l (k + j) v
  sets-from [] l k j h = sym (splice-none l (k + j))
  sets-from (a ∷ v) l k j h =
      let e : k + suc j ≡ k + j + 1 = omega arith in
      sets-from v (set l (k + j) a) k (suc j) (rw (length-set l (k + j) a) (omega arith)) ∙ rw e (splice-set l (k + j) a v (omega arith))

  pub set-run : (l : List A) (k : ℕ) (a : A) (v : List A) → k + suc (length v) ≤ length l → sets_from (set l k a) k 1 v ≡ splice l k (a ∷ v)
  set-run l k a v h = sets-from v (set l k a) k 1 (rw (length-set l k a) (omega arith)) ∙ splice-set l k a v (omega arith)

  -- what is left from k on, its first elements one by one: those from k + j on, which computes where j is a numeral
  abbrev pub elements : (n k j : ℕ) → A → List A → List A
  elements zero k j d l = drop (k + j) l
  elements (suc n) k j d l = get_or l (k + j) d ∷ elements n k (suc j) d l

  elements-are : (n k j : ℕ) (d : A) (l : List A) → k + j + n ≤ length l → elements n k j d l ≡ drop (k + j) l
  elements-are zero k j d l h = refl
  elements-are (suc n) k j d l h =
      let e : k + suc j ≡ suc (k + j) = omega arith in
      ap (λ (t : List A). get_or l (k + j) d ∷ t) (elements-are n k (suc j) d l (omega arith) ∙ rw e) ∙ sym (drop-cons l (k + j) d (omega arith))

  pub drop-run : (n k : ℕ) (d : A) (l : List A) → k + suc n ≤ length l → drop k l ≡ get_or l k d ∷ elements n k 1 d l
  drop-run n k d l h =
      drop-cons l k d (omega arith) ∙ ap (λ (t : List A). get_or l k d ∷ t) (ap (λ (j : ℕ). drop j l) (sym (add-one k)) ∙ sym (elements-are n k 1 d l (omega arith)))

  -- a part of a list from k on, to the list's end
  pub part-all : (k : ℕ) (l : List A) → take (length l - k) (drop k l) ≡ drop k l
  part-all k l = take_all (length l - k) (drop k l) (rw (length-drop k l) (omega arith))

  -- a part from k to the end that comes back with its first elements overwritten
  pub part-written : (k : ℕ) (l new part : List A) → part ≡ overwrite new (take (length l - k) (drop k l))
      → take k l ++ (part ++ drop (length l - k) (drop k l)) ≡ splice l k new
  part-written k l new part e =
      let none : drop (length l - k) (drop k l) ≡ [] = drop_of_length-le (drop k l) {i = length l - k} (rw (length-drop k l) (omega arith)) in
      ap (λ (x : List A). take k l ++ x)
      (ap₂ ◌++◌ (e ∙ ap (overwrite new) (part-all k l)) none ∙ append-nil (overwrite new (drop k l)))
