-- A line's number stands for that line, and so for an offset; only a plain number must be none of the special ones.
-- By the special numbers in turn.
use mathlib.Core.Path.{◌≡◌, refl, sym, ◌∙◌}
use mathlib.Core.Bool.{Bool, true, false, cond}
use Prim.Native.Nat.{ℕ}
use lib.Dec.{eqb}
use borrow.Author.Tests.{eqb-true, ne_eqb}
use Rattle.anc_record.specs.declared.location.Line.{Line}
use Rattle.anc_record.specs.declared.location.Line.TheVariants as line
use Rattle.anc_record.specs.declared.location.Offset.{Offset}
use Rattle.anc_record.specs.declared.location.Offset.TheVariants as offset
use Rattle.anc_record.specs.Location.{line_of, line_number, PlainLine, offset_of, offset_number, PlainOffset}

-- one special number, whatever the others are
special : {A : Type 0} (number : A → ℕ) (x n : ℕ) {a b : A} → number a ≡ n → number b ≡ x → number (cond (eqb x n) a b) ≡ x
special {A} number x n {a} {b} ha hb = go (eqb x n) refl
  where
    go : (t : Bool) → eqb x n ≡ t → number (cond t a b) ≡ x
    go true e = ha ∙ sym (eqb-true x n e)
    go false e = hb

-- the line that a number stands for has that number
pub line-of-number : (x : ℕ) → line_number (line_of x) ≡ x
unfolding line_of
line-of-number x = special line_number x 0x7FF refl (special line_number x 0x7FE refl (special line_number x 0x7FD refl refl))

-- the offset that a number stands for has that number
pub offset-of-number : (x : ℕ) → offset_number (offset_of x) ≡ x
unfolding offset_of
offset-of-number x =
    special offset_number x 0xFFF refl
    (special offset_number x 0xFFE refl (special offset_number x 0xFFD refl (special offset_number x 0xFFC refl refl)))

-- a line's number stands for that line
pub number-of-line : (l : Line) → PlainLine l → line_of (line_number l) ≡ l
unfolding line_of
number-of-line (line.Number x) h = rw (ne_eqb x 0x7FF h.0, ne_eqb x 0x7FE h.1, ne_eqb x 0x7FD h.2)
number-of-line line.Unspecified h = refl
number-of-line line.Vertical h = refl
number-of-line line.TooLarge h = refl

-- an offset's number stands for that offset
pub number-of-offset : (o : Offset) → PlainOffset o → offset_of (offset_number o) ≡ o
unfolding offset_of
number-of-offset (offset.Number x) h = rw (ne_eqb x 0xFFF h.0, ne_eqb x 0xFFE h.1, ne_eqb x 0xFFD h.2, ne_eqb x 0xFFC h.3)
number-of-offset offset.Unspecified h = refl
number-of-offset offset.Horizontal h = refl
number-of-offset offset.SavToEav h = refl
number-of-offset offset.TooLarge h = refl
