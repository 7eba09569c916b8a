-- `hex` reads one or two hex digits.
-- By the values of the first two octets.
use mathlib.Core.Path.{◌≡◌, ap, sym, ◌∙◌}
use mathlib.Core.List.{List}
use Prim.Native.Nat.{ℕ, ◌+◌, ◌*◌, ◌≤◌, ◌<◌}
use native.Mathlib.Omega.{arith}
use lib.ListN.{get_or}
use Rattle.sdp_item.specs.Answers.{digits_of}
use Rattle.sdp_spec.specs.Text.{digit_value, number, hex_base, hex_most}
use Rattle.sdp_spec.specs.Reading.{digits}
use Rattle.sdp_spec.proofs.ItemLaws.{digits-none, digits-one, digits-two}
use Rattle.sdp_item.proofs.hex.Goals as goal

module _ (s : List ℕ) (a b : ℕ) (first : a ≡ digit_value (get_or s 0 0)) (second : b ≡ digit_value (get_or s 1 0)) where
  one : a < 16 → 16 ≤ b → record { value = a; count = 1 } ≡ digits_of hex_base (digits hex_base hex_most s)
  unfolding number
  one h l = sym (ap (digits_of hex_base) (digits-one hex_base 1 s (omega arith) (omega arith) (omega arith)) ∙ (let e : digit_value (get_or s 0 0) * 1 + 0 ≡ a = omega arith in ap (λ (n : ℕ). record { value = n; count = 1 }) e))

  two : a < 16 → b < 16 → record { value = a * 16 + b; count = 2 } ≡ digits_of hex_base (digits hex_base hex_most s)
  unfolding number digits
  two h l = sym (ap (digits_of hex_base) (digits-two hex_base 0 s (omega arith) (omega arith) (omega arith)) ∙ (let e : digit_value (get_or s 0 0) * 16 + (digit_value (get_or s 1 0) * 1 + 0) ≡ a * 16 + b = omega arith in ap (λ (n : ℕ). record { value = n; count = 2 }) e))

pub returns-then-first-ge16 : goal.returns-then-first-ge16
unfolding number
returns-then-first-ge16 c = let e = (c.digit_value-first.ensures ∙ ap digit_value c.octet_at.ensures) in sym (ap (digits_of hex_base) (digits-none hex_base hex_most c.args.text.now (omega arith)))

pub returns-then-second-ge16 : goal.returns-then-second-ge16
returns-then-second-ge16 c = one _ _ _ (c.digit_value-first.ensures ∙ ap digit_value c.octet_at.ensures) (c.digit_value-second.ensures ∙ ap digit_value c.octet_at-2.ensures) c.if-first-ge16.false c.if-second-ge16.true

pub returns : goal.returns
returns c = two _ _ _ (c.digit_value-first.ensures ∙ ap digit_value c.octet_at.ensures) (c.digit_value-second.ensures ∙ ap digit_value c.octet_at-2.ensures) c.if-first-ge16.false c.if-second-ge16.false
