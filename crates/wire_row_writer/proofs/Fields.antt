-- Rows of words stored one behind the other: as one row.
-- By the law of one store after the other.
use Rattle.std.proofs.Common.{◌≡◌, ℕ, ◌+◌, ◌-◌, ◌*◌, ◌<◌, ◌≤◌, Bool, List, [], ◌∷◌, ◌++◌, length, get_or, take, drop, sym, refl, ap, ◌∙◌, ap₂, append_assoc, append-nil, arith, take-append-drop, length-take-le, take_all, drop-cons, take-add}
use Rattle.wire_spec.specs.Bits.{field_bits, row, splice, to_bits}
use Rattle.wire_spec.specs.Words.{word_bits}
use Rattle.wire_spec.proofs.BitLaws.{length-field_bits, width-row}
use Rattle.wire_spec.proofs.ListLaws.{drop-run, part-all, splice-append, splice-none}

row-append : (xs ys : List ℕ) → field_bits (row word_bits (xs ++ ys)) ≡ field_bits (row word_bits xs) ++ field_bits (row word_bits ys)
unfolding field_bits
row-append [] ys = refl
row-append (x ∷ xs) ys =
    ap (λ (b : List Bool). to_bits word_bits x ++ b) (row-append xs ys) ∙ sym (append_assoc (to_bits word_bits x) (field_bits (row word_bits xs)) (field_bits (row word_bits ys)))

length-row : (xs : List ℕ) → length (field_bits (row word_bits xs)) ≡ 10 * length xs
length-row xs = length-field_bits (row word_bits xs) ∙ width-row word_bits xs

row-behind : (b : List Bool) (k : ℕ) (xs ys : List ℕ) → k ≤ length b
    → splice (splice b k (field_bits (row word_bits xs))) (k + 10 * length xs) (field_bits (row word_bits ys)) ≡ splice b k (field_bits (row word_bits (xs ++ ys)))
row-behind b k xs ys h =
    let new = field_bits (row word_bits xs) in
    ap (λ (n : ℕ). splice (splice b k new) (k + n) (field_bits (row word_bits ys))) (sym (length-row xs))
    ∙ splice-append b k new (field_bits (row word_bits ys)) h
    ∙ ap (splice b k) (sym (row-append xs ys))

-- a list stored in two parts
pub parts-stored : (b : List Bool) (k n : ℕ) (w : List ℕ) → k ≤ length b → n ≤ length w
    → splice (splice b k (field_bits (row word_bits (take n w)))) (k + 10 * n) (field_bits (row word_bits (take (length w - n) (drop n w)))) ≡ splice b k (field_bits (row word_bits w))
parts-stored b k n w h l =
    ap (λ (j : ℕ). splice (splice b k (field_bits (row word_bits (take n w)))) (k + 10 * j) (field_bits (row word_bits (take (length w - n) (drop n w))))) (sym (length-take-le n w l))
    ∙ row-behind b k (take n w) (take (length w - n) (drop n w)) h
    ∙ ap (λ (x : List ℕ). splice b k (field_bits (row word_bits x))) (ap (λ (x : List ℕ). take n w ++ x) (part-all n w) ∙ take-append-drop n w)

-- words stored one after the other: none, the first, the next behind the first n, and all
pub none-stored : (b : List Bool) (k : ℕ) (w : List ℕ) → b ≡ splice b k (field_bits (row word_bits (take 0 w)))
unfolding field_bits
none-stored b k w = sym (splice-none b k)

one-row : (x : ℕ) → field_bits (row word_bits (x ∷ [])) ≡ to_bits word_bits x
unfolding field_bits
one-row x = append-nil (to_bits word_bits x)

take_next : (n : ℕ) (w : List ℕ) → n < length w → take n w ++ (get_or w n 0 ∷ []) ≡ take (n + 1) w
take_next n w h = sym (take-add n 1 w ∙ ap (λ (x : List ℕ). take n w ++ take 1 x) (drop-cons w n 0 h))

pub first-stored : (b : List Bool) {b₁ : List Bool} (k : ℕ) (w : List ℕ) → 0 < length w → b₁ ≡ splice b k (to_bits word_bits (get_or w 0 0))
    → b₁ ≡ splice b k (field_bits (row word_bits (take 1 w)))
first-stored b k w l e = e ∙ ap (splice b k) (sym (one-row (get_or w 0 0)) ∙ ap (λ (x : List ℕ). field_bits (row word_bits x)) (take_next 0 w l))

pub next-stored : (b : List Bool) {b₁ b₂ : List Bool} (k n : ℕ) (w : List ℕ) → k ≤ length b → n < length w
    → b₁ ≡ splice b k (field_bits (row word_bits (take n w))) → b₂ ≡ splice b₁ (k + 10 * n) (to_bits word_bits (get_or w n 0))
    → b₂ ≡ splice b k (field_bits (row word_bits (take (n + 1) w)))
next-stored b k n w h l e f =
    f ∙ ap₂ (λ (x y : List Bool). splice x (k + 10 * n) y) e (sym (one-row (get_or w n 0)))
    ∙ ap (λ (j : ℕ). splice (splice b k (field_bits (row word_bits (take n w)))) (k + 10 * j) (field_bits (row word_bits (get_or w n 0 ∷ [])))) (sym (length-take-le n w (omega arith)))
    ∙ row-behind b k (take n w) (get_or w n 0 ∷ []) h
    ∙ ap (λ (x : List ℕ). splice b k (field_bits (row word_bits x))) (take_next n w l)

pub all-stored : (b : List Bool) {b₁ : List Bool} (k n : ℕ) (w : List ℕ) → length w ≡ n → b₁ ≡ splice b k (field_bits (row word_bits (take n w)))
    → b₁ ≡ splice b k (field_bits (row word_bits w))
all-stored b k n w h e = e ∙ ap (λ (x : List ℕ). splice b k (field_bits (row word_bits x))) (take_all n w (omega arith))

-- four words from one on
pub four-taken : (w : List ℕ) (j : ℕ) → j + 4 < length w → get_or w j 0 ∷ get_or w (j + 1) 0 ∷ get_or w (j + 2) 0 ∷ get_or w (j + 3) 0 ∷ [] ≡ take 4 (drop j w)
four-taken w j h = sym (ap (take 4) (drop-run 3 j 0 w (omega arith)))

pub four-stored : (b : List Bool) {b₁ b₂ : List Bool} (k n : ℕ) (w : List ℕ) → k ≤ length b → n + 4 < length w
    → b₁ ≡ splice b k (field_bits (row word_bits (take n w))) → b₂ ≡ splice b₁ (k + 10 * n) (field_bits (row word_bits (take 4 (drop n w))))
    → b₂ ≡ splice b k (field_bits (row word_bits (take (n + 4) w)))
four-stored b k n w h l e f =
    f ∙ ap (λ (x : List Bool). splice x (k + 10 * n) (field_bits (row word_bits (take 4 (drop n w))))) e
    ∙ ap (λ (j : ℕ). splice (splice b k (field_bits (row word_bits (take n w)))) (k + 10 * j) (field_bits (row word_bits (take 4 (drop n w))))) (sym (length-take-le n w (omega arith)))
    ∙ row-behind b k (take n w) (take 4 (drop n w)) h
    ∙ ap (λ (x : List ℕ). splice b k (field_bits (row word_bits x))) (sym (take-add n 4 w))
