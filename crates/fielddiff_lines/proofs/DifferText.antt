-- The text of lines that stand or do not, and of lines one behind the other.
use mathlib.Core.Path.{◌≡◌, refl, ap, sym, ◌∙◌}
use mathlib.Core.Bool.{Bool, true, false, cond}
use mathlib.Core.List.{List, [], ◌∷◌, ◌++◌, append-nil}
use Prim.Native.Nat.{ℕ, ◌+◌}
use native.Mathlib.Numerals.{add-one}
use lib.Dec.{eqb}
use lib.ListN.{get_or}
use borrow.Author.Tests.{eq-eqb, ne_eqb}
use Rattle.fielddiff_spec.specs.Diff.{Line, cell_line, differ, up_to}
use Rattle.text.specs.Text.{decimal}
use Rattle.fielddiff_spec.specs.Text.{diff_text, line_text, sides_text}
use Rattle.fielddiff_lines.specs.Places.{differing}
use Rattle.fielddiff_spec.proofs.TextLaws.{text-append}

pub line-text : (x : Line) → line_text x ≡ diff_text (x ∷ [])
line-text x = sym (append-nil (line_text x))

pub none-differs : (line : ℕ → ℕ → Line) (l r : ℕ) → l ≡ r → [] ≡ diff_text (differ line l r)
none-differs line l r e = sym (ap (λ (b : Bool). diff_text (cond b [] (line l r ∷ []))) (eq-eqb l r e))

pub one-differs : (line : ℕ → ℕ → Line) (l r : ℕ) → (l ≡ r → ⊥) → line_text (line l r) ≡ diff_text (differ line l r)
one-differs line l r h = line-text (line l r) ∙ sym (ap (λ (b : Bool). diff_text (cond b [] (line l r ∷ []))) (ne_eqb l r h))

-- a line with a label, where the two numbers differ
pub labelled : (line : ℕ → ℕ → Line) (i : ℕ) (label : List ℕ) (l r : ℕ)
    → decimal i ++ (label ++ sides_text (decimal l) (decimal r)) ≡ line_text (line l r) → differing i label l r ≡ diff_text (differ line l r)
labelled line i label l r e = go (eqb l r)
  where
    go : (b : Bool) → cond b [] (decimal i ++ (label ++ sides_text (decimal l) (decimal r))) ≡ diff_text (cond b [] (line l r ∷ []))
    go true = refl
    go false = e ∙ line-text (line l r)

pub three-texts : (xs ys zs : List Line) → diff_text xs ++ (diff_text ys ++ diff_text zs) ≡ diff_text (xs ++ (ys ++ zs))
three-texts xs ys zs = sym (text-append xs (ys ++ zs) ∙ ap (λ (t : List ℕ). diff_text xs ++ t) (text-append ys zs))

-- the lines of the cells below a place
abbrev pub cells_to : (i j : ℕ) (xs ys : List ℕ) → ℕ → List Line
cells_to i j xs ys n = up_to (λ k. differ (cell_line i j k) (get_or xs k 0) (get_or ys k 0)) n

pub cells-next : (i j : ℕ) (xs ys : List ℕ) (n : ℕ)
    → diff_text (cells_to i j xs ys n) ++ diff_text (differ (cell_line i j n) (get_or xs n 0) (get_or ys n 0)) ≡ diff_text (cells_to i j xs ys (n + 1))
unfolding up_to
cells-next i j xs ys n =
    sym (ap (λ (m : ℕ). diff_text (cells_to i j xs ys m)) (add-one n)
    ∙ text-append (cells_to i j xs ys n) (differ (cell_line i j n) (get_or xs n 0) (get_or ys n 0)))
