-- The size of a written text: 21 octets for each pair with its `;`, and a `;` less than there are items.
-- By the items from left to right.
use Rattle.std.specs.Prelude.{Option, Some, None}
use mathlib.Core.Path.{◌≡◌, refl, ap, sym, ◌∙◌}
use mathlib.Core.List.{List, [], ◌∷◌, ◌++◌, append_assoc}
use Prim.Native.Nat.{ℕ, ◌+◌, ◌-◌, ◌*◌, ◌/◌, ◌%◌, ◌<◌, ◌≤◌}
use native.Mathlib.Omega.{arith}
use lib.ListN.{length, length-append}
use borrow.Author.Tests.{lt-ltb, le-ltb}
use Rattle.text.specs.Text.{digit, digits, decimal_most, decimal_in, decimal, hex}
use Rattle.text.proofs.TextLaws.{length-decimal}
use Rattle.sdp_spec.specs.Text.{semicolon, vpid_code_word}
use Rattle.sdp_spec.specs.Writing.{pair_text, code_text, pair_texts, code_texts, separated, joined}

pub pair_size : (did sdid : ℕ) → length (pair_text did sdid) ≡ 20
unfolding pair_text hex digits
pair_size did sdid = refl

pub code-size : (code : ℕ) → length (code_text code) ≡ 10 + length (decimal code)
unfolding code_text
code-size code = length-append vpid_code_word (decimal code)

pub separated-append : (xs ys : List (List ℕ)) → separated (xs ++ ys) ≡ separated xs ++ separated ys
unfolding separated
separated-append [] ys = refl
separated-append (x ∷ xs) ys = ap (λ (t : List ℕ). semicolon ∷ t) (ap (λ (t : List ℕ). x ++ t) (separated-append xs ys) ∙ sym (append_assoc x (separated xs) (separated ys)))

pub joined-size : (ts : List (List ℕ)) → length (joined ts) ≡ length (separated ts) - 1
unfolding joined separated
joined-size [] = refl
joined-size (t ∷ ts) = omega arith

pub pairs-size : (l : List ℕ) → length l % 2 ≡ 0 → length (separated (pair_texts l)) ≡ 21 * (length l / 2)
unfolding pair_texts separated
pairs-size [] h = refl
pairs-size (did ∷ []) h = absurd (omega arith)
pairs-size (did ∷ sdid ∷ l) h =
    let r : length l % 2 ≡ 0 = omega (arith, h) in
    let ih = pairs-size l r in
    let e = length-append (pair_text did sdid) (separated (pair_texts l)) in
    let p = pair_size did sdid in
    omega arith

-- the digits of a number
pub decimal-one : (n : ℕ) → n < 10 → decimal n ≡ digit n ∷ []
unfolding decimal decimal_in
decimal-one n h = rw (lt-ltb n 10 h)

pub decimal-two : (n : ℕ) → 10 ≤ n → n < 100 → decimal n ≡ digit (n / 10) ∷ digit (n % 10) ∷ []
unfolding decimal decimal_in
decimal-two n h k = rw (le-ltb n 10 h, lt-ltb (n / 10) 10 (omega arith))

pub decimal-three : (n : ℕ) → 100 ≤ n → n < 1000 → decimal n ≡ digit (n / 10 / 10) ∷ digit (n / 10 % 10) ∷ digit (n % 10) ∷ []
unfolding decimal decimal_in
decimal-three n h k = rw (le-ltb n 10 (omega arith), le-ltb (n / 10) 10 (omega arith), lt-ltb (n / 10 / 10) 10 (omega arith))

-- the item of a VPID code with its `;`
pub codes-size : (code : ℕ) → length (separated (code_texts (Some code))) ≡ 11 + length (decimal code)
unfolding separated
codes-size code = omega (arith, code-size code, length-append (code_text code) [])

pub codes-few : (v : Option ℕ) → length (separated (code_texts v)) ≤ 11 + decimal_most
unfolding separated
codes-few (Some code) = omega (arith, codes-size code, length-decimal code)
codes-few None = omega arith

-- a whole text
pub text-size : (l : List ℕ) (v : Option ℕ) → length l % 2 ≡ 0
    → length (joined (pair_texts l ++ code_texts v)) ≡ 21 * (length l / 2) + length (separated (code_texts v)) - 1
text-size l v h =
    joined-size (pair_texts l ++ code_texts v)
    ∙ ap (λ (n : ℕ). n - 1)
    (ap length (separated-append (pair_texts l) (code_texts v))
    ∙ length-append (separated (pair_texts l)) (separated (code_texts v))
    ∙ ap (λ (n : ℕ). n + length (separated (code_texts v))) (pairs-size l h))
