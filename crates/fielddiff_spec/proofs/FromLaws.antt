-- The lines from a position on: those of the position, and those from the next one on.
use mathlib.Core.Path.{◌≡◌, refl, ap, ap₂, sym, ◌∙◌}
use mathlib.Core.List.{List, [], ◌∷◌, ◌++◌, append_assoc, append-nil}
use Prim.Native.Nat.{ℕ, zero, suc, ◌+◌, min, max}
use native.Mathlib.Omega.{arith}
use lib.ListN.{length}
use borrow.Author.Tests.{eq-eqb, ne_eqb}
use Rattle.wire_spec.specs.declared.refusal.Refusal.{Refusal}
use Rattle.wire_spec.specs.Anc.{Record}
use Rattle.wire_spec.specs.Cells.{cells_of}
use Rattle.fieldfile_spec.specs.File.{FieldContent, FileRead, no_field, field_then}
use Rattle.fielddiff_spec.specs.Diff.{Line, left, right, only_line, Place, field, ended, refusal, unread, end_number, place_in, place_at, up_to, compare_at, field_lines, lines_at, diff, cells_at, cell_lines, record_lines}
use Rattle.fielddiff_spec.proofs.UpToLaws.{up_to-empty}
use Rattle.fielddiff_spec.specs.Rest.{lines_from, record_lines_from}

-- the same lines at each position
pub up_to-same : (g h : ℕ → List Line) (n : ℕ) → ((j : ℕ) → g j ≡ h j) → up_to g n ≡ up_to h n
unfolding up_to
up_to-same g h zero e = refl
up_to-same g h (suc n) e = ap₂ (λ (x y : List Line). x ++ y) (up_to-same g h n e) (e n)

-- the first position, and the others
pub up_to-first : (g : ℕ → List Line) (n : ℕ) → up_to g (suc n) ≡ g zero ++ up_to (λ j. g (suc j)) n
unfolding up_to
up_to-first g zero = sym (append-nil (g zero))
up_to-first g (suc n) = ap (λ (x : List Line). x ++ g (suc n)) (up_to-first g n) ∙ append_assoc (g zero) (up_to (λ j. g (suc j)) n) (g (suc n))

shift : (i j : ℕ) → i + suc j ≡ i + 1 + j
shift i j = omega arith

at-0 : (j : ℕ) → j ≡ 0 + j
at-0 j = omega arith

plus-0 : (i : ℕ) → i + 0 ≡ i
plus-0 i = omega arith

-- what a file has behind a position where it has ended is what it has there
pub ended-after : (n : ℕ) → n ≡ end_number → (j : ℕ) → place_in [] n j ≡ ended
ended-after n e zero = rw (eq-eqb n end_number e)
ended-after n e (suc j) = rw (eq-eqb n end_number e)

-- BOTH HAVE A FIELD
pub both-fields : (i : ℕ) (k m : FieldContent) (a b : FileRead) → lines_from i (field_then k a) (field_then m b) ≡ field_lines i k m ++ lines_from (i + 1) a b
unfolding lines_from compare_at
both-fields i k m a b =
    let n = max (length a.fields) (length b.fields) in
    let e : max (suc (length a.fields)) (suc (length b.fields)) ≡ suc n = omega arith in
    ap (λ (c : ℕ). up_to (λ j. compare_at (i + j) (place_at (field_then k a) j) (place_at (field_then m b) j)) (suc c)) e
    ∙ up_to-first (λ j. compare_at (i + j) (place_at (field_then k a) j) (place_at (field_then m b) j)) (suc n)
    ∙ ap₂ (λ (x y : List Line). x ++ y) (ap (λ (c : ℕ). field_lines c k m) (plus-0 i))
    (up_to-same (λ j. compare_at (i + suc j) (place_at a j) (place_at b j)) (λ j. compare_at (i + 1 + j) (place_at a j) (place_at b j)) (suc n)
    (λ j. ap (λ (c : ℕ). compare_at c (place_at a j) (place_at b j)) (shift i j)))

-- THE WHOLE LIST is the lines from the first position on
pub from-0 : (a b : FileRead) → diff a b ≡ lines_from 0 a b
unfolding diff lines_from
from-0 a b =
    up_to-same (lines_at a b) (λ j. compare_at (0 + j) (place_at a j) (place_at b j)) _ (λ j. ap (λ (i : ℕ). compare_at i (place_at a j) (place_at b j)) (at-0 j))

-- ONE HAS ENDED
pub left-only : (i : ℕ) (k : FieldContent) (a : FileRead) (x : Refusal) → x.number ≡ end_number
    → lines_from i (field_then k a) (no_field x) ≡ only_line i left ∷ lines_from (i + 1) a (no_field x)
unfolding lines_from compare_at
left-only i k a x h =
    let n = length a.fields in
    let e : max (suc n) 0 ≡ suc n = omega arith in
    let f : n ≡ max n 0 = omega arith in
    ap (λ (c : ℕ). up_to (λ j. compare_at (i + j) (place_at (field_then k a) j) (place_at (no_field x) j)) (suc c)) e
    ∙ up_to-first (λ j. compare_at (i + j) (place_at (field_then k a) j) (place_at (no_field x) j)) (suc n)
    ∙ ap₂ (λ (y z : List Line). y ++ z)
    (ap (λ (q : Place). compare_at (i + 0) (field k) q) (ended-after x.number h 0) ∙ ap (λ (c : ℕ). only_line c left ∷ []) (plus-0 i))
    (up_to-same (λ j. compare_at (i + suc j) (place_at a j) (place_at (no_field x) (suc j))) (λ j. compare_at (i + 1 + j) (place_at a j) (place_at (no_field x) j)) (suc n)
    (λ j. ap₂ (λ (c : ℕ) (q : Place). compare_at c (place_at a j) q) (shift i j) (ended-after x.number h (suc j) ∙ sym (ended-after x.number h j)))
    ∙ ap (λ (c : ℕ). up_to (λ j. compare_at (i + 1 + j) (place_at a j) (place_at (no_field x) j)) (suc c)) f)

pub right-only : (i : ℕ) (k : FieldContent) (b : FileRead) (x : Refusal) → x.number ≡ end_number
    → lines_from i (no_field x) (field_then k b) ≡ only_line i right ∷ lines_from (i + 1) (no_field x) b
unfolding lines_from compare_at
right-only i k b x h =
    let n = length b.fields in
    let e : max 0 (suc n) ≡ suc n = omega arith in
    let f : n ≡ max 0 n = omega arith in
    ap (λ (c : ℕ). up_to (λ j. compare_at (i + j) (place_at (no_field x) j) (place_at (field_then k b) j)) (suc c)) e
    ∙ up_to-first (λ j. compare_at (i + j) (place_at (no_field x) j) (place_at (field_then k b) j)) (suc n)
    ∙ ap₂ (λ (y z : List Line). y ++ z)
    (ap (λ (p : Place). compare_at (i + 0) p (field k)) (ended-after x.number h 0) ∙ ap (λ (c : ℕ). only_line c right ∷ []) (plus-0 i))
    (up_to-same (λ j. compare_at (i + suc j) (place_at (no_field x) (suc j)) (place_at b j)) (λ j. compare_at (i + 1 + j) (place_at (no_field x) j) (place_at b j)) (suc n)
    (λ j. ap₂ (λ (c : ℕ) (p : Place). compare_at c p (place_at b j)) (shift i j) (ended-after x.number h (suc j) ∙ sym (ended-after x.number h j)))
    ∙ ap (λ (c : ℕ). up_to (λ j. compare_at (i + 1 + j) (place_at (no_field x) j) (place_at b j)) (suc c)) f)

-- BOTH HAVE
pub both-ended : (i : ℕ) (x y : Refusal) → x.number ≡ end_number → y.number ≡ end_number → lines_from i (no_field x) (no_field y) ≡ []
unfolding lines_from up_to compare_at
both-ended i x y h k = ap₂ (λ (p q : Place). compare_at (i + 0) p q) (ended-after x.number h 0) (ended-after y.number k 0)

-- ONE IS REFUSED: nothing is said behind it
refused-after : (n : ℕ) → (n ≡ end_number → ⊥) → (j : ℕ) → place_in [] n (suc j) ≡ unread
refused-after n h j = rw (ne_eqb n end_number h)

refused-there : (n : ℕ) → (n ≡ end_number → ⊥) → place_in [] n 0 ≡ refusal n
refused-there n h = rw (ne_eqb n end_number h)

beside-unread : (i : ℕ) (p : Place) → compare_at i p unread ≡ []
unfolding compare_at
beside-unread i (field x) = refl
beside-unread i ended = refl
beside-unread i (refusal n) = refl
beside-unread i unread = refl

unread-beside : (i : ℕ) (q : Place) → compare_at i unread q ≡ []
unfolding compare_at
unread-beside i q = refl

pub left-refused : (i : ℕ) (x : Refusal) (b : FileRead) → (x.number ≡ end_number → ⊥) → lines_from i (no_field x) b ≡ compare_at i (refusal x.number) (place_at b 0)
unfolding lines_from
left-refused i x b h =
    let n = max 0 (length b.fields) in
    let g : ℕ → List Line = λ j. compare_at (i + j) (place_at (no_field x) j) (place_at b j) in
    up_to-first g n
    ∙ ap₂ (λ (y z : List Line). y ++ z) (ap₂ (λ (c : ℕ) (p : Place). compare_at c p (place_at b 0)) (plus-0 i) (refused-there x.number h))
    ((up_to-empty (λ j. g (suc j)) n).1 (λ j l. ap (λ (p : Place). compare_at (i + suc j) p (place_at b (suc j))) (refused-after x.number h j) ∙ unread-beside (i + suc j) (place_at b (suc j))))
    ∙ append-nil _

pub right-refused : (i : ℕ) (x : Refusal) (a : FileRead) → (x.number ≡ end_number → ⊥) → lines_from i a (no_field x) ≡ compare_at i (place_at a 0) (refusal x.number)
unfolding lines_from
right-refused i x a h =
    let n = max (length a.fields) 0 in
    let g : ℕ → List Line = λ j. compare_at (i + j) (place_at a j) (place_at (no_field x) j) in
    up_to-first g n
    ∙ ap₂ (λ (y z : List Line). y ++ z) (ap₂ (λ (c : ℕ) (q : Place). compare_at c (place_at a 0) q) (plus-0 i) (refused-there x.number h))
    ((up_to-empty (λ j. g (suc j)) n).1 (λ j l. ap (λ (q : Place). compare_at (i + suc j) (place_at a (suc j)) q) (refused-after x.number h j) ∙ beside-unread (i + suc j) (place_at a (suc j))))
    ∙ append-nil _

-- THE RECORDS OF TWO FIELDS one by one
records-from : (i j : ℕ) (xs ys : List Record)
    → up_to (λ m. cell_lines i (j + m) (cells_at xs m) (cells_at ys m)) (min (length xs) (length ys)) ≡ record_lines_from i j xs ys
unfolding up_to
records-from i j [] ys = let e : min 0 (length ys) ≡ 0 = omega arith in ap (up_to (λ m. cell_lines i (j + m) (cells_at [] m) (cells_at ys m))) e
records-from i j (x ∷ xs) [] = let e : min (suc (length xs)) 0 ≡ 0 = omega arith in ap (up_to (λ m. cell_lines i (j + m) (cells_at (x ∷ xs) m) (cells_at [] m))) e
records-from i j (x ∷ xs) (y ∷ ys) =
    let n = min (length xs) (length ys) in
    let e : min (suc (length xs)) (suc (length ys)) ≡ suc n = omega arith in
    let g : ℕ → List Line = λ m. cell_lines i (j + m) (cells_at (x ∷ xs) m) (cells_at (y ∷ ys) m) in
    ap (up_to g) e
    ∙ up_to-first g n
    ∙ ap₂ (λ (a b : List Line). a ++ b) (ap (λ (c : ℕ). cell_lines i c (cells_of x) (cells_of y)) (plus-0 j))
    (up_to-same (λ m. g (suc m)) (λ m. cell_lines i (j + 1 + m) (cells_at xs m) (cells_at ys m)) n
    (λ m. ap (λ (c : ℕ). cell_lines i c (cells_at xs m) (cells_at ys m)) (shift j m))
    ∙ records-from i (j + 1) xs ys)

pub records-0 : (i : ℕ) (xs ys : List Record) → record_lines i xs ys ≡ record_lines_from i 0 xs ys
unfolding record_lines
records-0 i xs ys =
    up_to-same (λ m. cell_lines i m (cells_at xs m) (cells_at ys m)) (λ m. cell_lines i (0 + m) (cells_at xs m) (cells_at ys m)) (min (length xs) (length ys))
    (λ m. ap (λ (c : ℕ). cell_lines i c (cells_at xs m) (cells_at ys m)) (at-0 m))
    ∙ records-from i 0 xs ys
