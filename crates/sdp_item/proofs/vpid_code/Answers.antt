-- `vpid_code` reads the value of a VPID code.
-- Each return knows the tests before it, in the order of the definition.
use mathlib.Core.Path.{◌≡◌, ap, sym, ◌∙◌}
use mathlib.Core.List.{List}
use Prim.Native.Nat.{ℕ, ◌<◌, ◌≤◌}
use native.Mathlib.Omega.{arith}
use lib.ListN.{length}
use borrow.Author.Tests.{lt-ltb, le-ltb, le-leb, lt-leb, eq-eqb, ne_eqb}
use Rattle.sdp_item.specs.declared.Digits.{Digits}
use Rattle.sdp_spec.specs.declared.item.Item.TheVariants.{VpidCode, Malformed}
use Rattle.sdp_item.specs.Answers.{digits_of}
use Rattle.sdp_spec.specs.Text.{number, decimal_base, decimal_most, max_code}
use Rattle.sdp_spec.specs.Reading.{digits, vpid_code_of}
use Rattle.sdp_item.proofs.vpid_code.Goals as goal

module _ (s : List ℕ) (d : Digits) (same : d ≡ digits_of decimal_base (digits decimal_base decimal_most s)) where
  abbrev Ds : List ℕ
  Ds = digits decimal_base decimal_most s

  count : d.count ≡ length Ds
  count = ap (λ (x : Digits). x.count) same

  value : d.value ≡ number decimal_base Ds
  value = ap (λ (x : Digits). x.value) same

  no-digits : d.count ≡ 0 → Malformed ≡ vpid_code_of s
  unfolding vpid_code_of
  no-digits h = rw (le-ltb 0 (length Ds) (omega (arith, count)))

  more-behind : (d.count ≡ 0 → ⊥) → (d.count ≡ length s → ⊥) → Malformed ≡ vpid_code_of s
  unfolding vpid_code_of
  more-behind h k = rw (lt-ltb 0 (length Ds) (omega (arith, count)), ne_eqb (length Ds) (length s) (λ e. k (count ∙ e)))

  too_large : (d.count ≡ 0 → ⊥) → d.count ≡ length s → max_code < d.value → Malformed ≡ vpid_code_of s
  unfolding vpid_code_of
  too_large h k l = rw (lt-ltb 0 (length Ds) (omega (arith, count)), eq-eqb (length Ds) (length s) (sym count ∙ k), lt-leb (number decimal_base Ds) max_code (omega (arith, value)))

  code : (d.count ≡ 0 → ⊥) → d.count ≡ length s → d.value ≤ max_code → VpidCode d.value ≡ vpid_code_of s
  unfolding vpid_code_of
  code h k l =
      rw (lt-ltb 0 (length Ds) (omega (arith, count)), eq-eqb (length Ds) (length s) (sym count ∙ k), le-leb (number decimal_base Ds) max_code (omega (arith, value)))
      (ap VpidCode value)

pub returns-then-code-eq0 : goal.returns-then-code-eq0
returns-then-code-eq0 c = no-digits _ _ c.decimal-code.ensures c.if-code-eq0.true

pub returns-then-code-value : goal.returns-then-code-value
returns-then-code-value c = more-behind _ _ c.decimal-code.ensures c.if-code-eq0.false c.if-code-value.true

pub returns-then-code-gt-MAX_CODE : goal.returns-then-code-gt-MAX_CODE
returns-then-code-gt-MAX_CODE c = too_large _ _ c.decimal-code.ensures c.if-code-eq0.false c.if-code-value.false c.if-code-gt-MAX_CODE.true

pub returns : goal.returns
returns c = code _ _ c.decimal-code.ensures c.if-code-eq0.false c.if-code-value.false c.if-code-gt-MAX_CODE.false
