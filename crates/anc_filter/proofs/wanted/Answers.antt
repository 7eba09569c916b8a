use borrow.Author.Rules.{rules}
use mathlib.Core.Path.{◌≡◌, refl, sym, ◌∙◌, ap}
use mathlib.Core.Bool.{Bool, true, false, ◌||◌, or-true, or-false}
use mathlib.Core.List.{List, [], ◌∷◌}
use Prim.Native.Nat.{ℕ, suc, ◌+◌, ◌-◌, ◌≤◌, ◌<◌}
use native.Mathlib.Numerals.{add-one}
use native.Mathlib.Omega.{arith}
use lib.Dec.{ltb}
use lib.ListN.{length, get_or, drop, length-drop}
use lib.Seq.{drop-cons}
use Rattle.anc_filter.specs.Wanted.{matching, any_in, wanted_in}
use Rattle.anc_filter.proofs.wanted.Goals as goal

abbrev same : ℕ → ℕ → List ℕ → ℕ → Bool
same d s l i = matching d s (get_or l i 0) (get_or l (i + 1) 0)

-- what is left from i is the pair at i, and what is left from i + 2
two : (l : List ℕ) (i : ℕ) → i < length l → i + 1 < length l → drop i l ≡ get_or l i 0 ∷ (get_or l (i + 1) 0 ∷ drop (i + 2) l)
two l i h k = let e : suc (i + 1) ≡ i + 2 = omega arith in
    drop-cons l i 0 h ∙ ap (λ (j : ℕ). get_or l i 0 ∷ drop j l) (sym (add-one i))
    ∙ ap (λ (t : List ℕ). get_or l i 0 ∷ t) (drop-cons l (i + 1) 0 k ∙ ap (λ (j : ℕ). get_or l (i + 1) 0 ∷ drop j l) e)

next-in : (d s : ℕ) (l : List ℕ) (i : ℕ) → 1 < length l - i → any_in d s (drop i l) ≡ same d s l i || any_in d s (drop (i + 2) l)
unfolding any_in
next-in d s l i h = ap (any_in d s) (two l i (omega arith) (omega arith))

on-hit : (d s : ℕ) (l : List ℕ) (i : ℕ) → 1 < length l - i → any_in d s (drop i l) ≡ any_in d s l → same d s l i ≡ true → true ≡ wanted_in d s l
on-hit d s l i h e t =
    sym (ap (λ (a : Bool). ltb (length l) 2 || a) (sym e ∙ next-in d s l i h ∙ ap (λ (a : Bool). a || any_in d s (drop (i + 2) l)) t) ∙ or-true (ltb (length l) 2))

on-miss : (d s : ℕ) (l : List ℕ) (i : ℕ) → 1 < length l - i → any_in d s (drop i l) ≡ any_in d s l → same d s l i ≡ false → any_in d s (drop (i + 2) l) ≡ any_in d s l
on-miss d s l i h e t = sym (next-in d s l i h ∙ ap (λ (a : Bool). a || any_in d s (drop (i + 2) l)) t) ∙ e

-- fewer than two octets have no pair
none : (d s : ℕ) (l : List ℕ) → length l ≤ 1 → any_in d s l ≡ false
unfolding any_in
none d s [] h = refl
none d s (x ∷ []) h = refl
none d s (x ∷ (y ∷ r)) h = absurd (omega arith)

on-end : (d s : ℕ) (l : List ℕ) (i : ℕ) → length l - i ≤ 1 → any_in d s (drop i l) ≡ any_in d s l → ltb (length l) 2 ≡ wanted_in d s l
on-end d s l i h e = sym (or-false (ltb (length l) 2)) ∙ ap (λ (a : Bool). ltb (length l) 2 || a) (sym (none d s (drop i l) (omega (arith, length-drop i l))) ∙ e)

pub returns-then-matches : goal.returns-then-matches
returns-then-matches c = let l = c.loop-i in on-hit _ _ _ l.i c.loop-i-test.true l.invariant.1 (sym c.matches.ensures ∙ c.if-matches.true)

pub loop-i-preserved : goal.loop-i-preserved
loop-i-preserved c = let l = c.loop-i in (search rules, on-miss _ _ _ l.i c.loop-i-test.true l.invariant.1 (sym c.matches.ensures ∙ c.if-matches.false))

pub returns : goal.returns
returns c = on-end _ _ _ _ c.loop-i-test.false c.loop-i.invariant.1
