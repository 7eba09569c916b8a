-- `decimal` reads one to three decimal digits.
-- By the values of the first three octets.
use mathlib.Core.Path.{◌≡◌, ap, sym, ◌∙◌}
use mathlib.Core.List.{List, [], ◌∷◌}
use Prim.Native.Nat.{ℕ, ◌+◌, ◌*◌, ◌≤◌, ◌<◌}
use native.Mathlib.Omega.{arith}
use lib.ListN.{drop, get_or}
use lib.Seq.{get_or-drop}
use Rattle.sdp_item.specs.Answers.{digits_of}
use Rattle.sdp_spec.specs.Text.{digit_value, number, decimal_base, decimal_most}
use Rattle.sdp_spec.specs.Reading.{digits}
use Rattle.sdp_spec.proofs.ItemLaws.{digits-none, digits_more, digits-one, digits-two}
use Rattle.sdp_item.proofs.decimal.Goals as goal

module _ (s : List ℕ) (a b d : ℕ) (first : a ≡ digit_value (get_or s 0 0)) (second : b ≡ digit_value (get_or s 1 0)) (third : d ≡ digit_value (get_or s 2 0)) where
  two : a < 10 → b < 10 → 10 ≤ d → record { value = a * 10 + b; count = 2 } ≡ digits_of decimal_base (digits decimal_base decimal_most s)
  unfolding number
  two h l k =
      let e : digits decimal_base decimal_most s ≡ get_or s 0 0 ∷ get_or s 1 0 ∷ [] = digits-two decimal_base 1 s (omega arith) (omega arith) (omega arith)
      ∙ ap (λ (ds : List ℕ). get_or s 0 0 ∷ get_or s 1 0 ∷ ds) (digits-none decimal_base 1 (drop 2 s) (rw (get_or-drop 2 s 0 0) (omega arith))) in
      let n : digit_value (get_or s 0 0) * 10 + (digit_value (get_or s 1 0) * 1 + 0) ≡ a * 10 + b = omega arith in
      sym (ap (digits_of decimal_base) e ∙ ap (λ (n : ℕ). record { value = n; count = 2 }) n)

  three : a < 10 → b < 10 → d < 10 → record { value = a * 100 + b * 10 + d; count = 3 } ≡ digits_of decimal_base (digits decimal_base decimal_most s)
  unfolding number digits
  three h l k =
      let e : digits decimal_base decimal_most s ≡ get_or s 0 0 ∷ get_or s 1 0 ∷ get_or s 2 0 ∷ [] = digits-two decimal_base 1 s (omega arith) (omega arith) (omega arith)
      ∙ ap (λ (ds : List ℕ). get_or s 0 0 ∷ get_or s 1 0 ∷ ds) (digits_more decimal_base 0 (drop 2 s) (omega arith) (rw (get_or-drop 2 s 0 0) (omega arith)) ∙ rw (get_or-drop 2 s 0 0)) in
      let n : digit_value (get_or s 0 0) * 100 + (digit_value (get_or s 1 0) * 10 + (digit_value (get_or s 2 0) * 1 + 0)) ≡ a * 100 + b * 10 + d = omega arith in
      sym (ap (digits_of decimal_base) e ∙ ap (λ (n : ℕ). record { value = n; count = 3 }) n)

one : (s : List ℕ) (a b : ℕ) → a ≡ digit_value (get_or s 0 0) → b ≡ digit_value (get_or s 1 0) → a < 10 → 10 ≤ b → record { value = a; count = 1 } ≡ digits_of decimal_base (digits decimal_base decimal_most s)
unfolding number
one s a b first second h l = sym (ap (digits_of decimal_base) (digits-one decimal_base 2 s (omega arith) (omega arith) (omega arith)) ∙ (let e : digit_value (get_or s 0 0) * 1 + 0 ≡ a = omega arith in ap (λ (n : ℕ). record { value = n; count = 1 }) e))

pub returns-then-first-ge10 : goal.returns-then-first-ge10
unfolding number
returns-then-first-ge10 c = let e = (c.digit_value-first.ensures ∙ ap digit_value c.octet_at.ensures) in sym (ap (digits_of decimal_base) (digits-none decimal_base decimal_most c.args.text.now (omega arith)))

pub returns-then-second-ge10 : goal.returns-then-second-ge10
returns-then-second-ge10 c = one _ _ _ (c.digit_value-first.ensures ∙ ap digit_value c.octet_at.ensures) (c.digit_value-second.ensures ∙ ap digit_value c.octet_at-2.ensures) c.if-first-ge10.false c.if-second-ge10.true

pub returns-then-third-ge10 : goal.returns-then-third-ge10
returns-then-third-ge10 c = two _ _ _ _ (c.digit_value-first.ensures ∙ ap digit_value c.octet_at.ensures) (c.digit_value-second.ensures ∙ ap digit_value c.octet_at-2.ensures) (c.digit_value-third.ensures ∙ ap digit_value c.octet_at-3.ensures) c.if-first-ge10.false c.if-second-ge10.false c.if-third-ge10.true

pub returns : goal.returns
returns c = three _ _ _ _ (c.digit_value-first.ensures ∙ ap digit_value c.octet_at.ensures) (c.digit_value-second.ensures ∙ ap digit_value c.octet_at-2.ensures) (c.digit_value-third.ensures ∙ ap digit_value c.octet_at-3.ensures) c.if-first-ge10.false c.if-second-ge10.false c.if-third-ge10.false
