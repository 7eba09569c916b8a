-- `other` tells an item of another name from a malformed one.
-- Each return knows the tests before it, in the order of the definition.
use mathlib.Core.Path.{◌≡◌, ap, sym, ◌∙◌}
use mathlib.Core.Bool.{Bool, true, cond, not}
use mathlib.Core.List.{List}
use Prim.Native.Nat.{ℕ, ◌+◌, ◌-◌, ◌<◌, ◌≤◌}
use native.Mathlib.Omega.{arith}
use lib.Dec.{ltb, eqb}
use lib.ListN.{length, take, drop, get_or}
use borrow.Author.Tests.{lt-ltb, le-ltb, eq-eqb, ne_eqb, not-true, not-false}
use Rattle.wire_spec.proofs.ListLaws.{part-all}
use Rattle.sdp_spec.specs.declared.item.Item.TheVariants.{Other, Malformed}
use Rattle.sdp_spec.specs.Text.{equals_sign}
use Rattle.sdp_spec.specs.Reading.{name_length, are_value, other_of}
use Rattle.sdp_spec.proofs.ItemLaws.{name-inside}
use Rattle.sdp_item.proofs.other.Goals as goal

module _ (s : List ℕ) (n : ℕ) (same : n ≡ name_length s) where
  no_name : n ≡ 0 → Malformed ≡ other_of s
  unfolding other_of
  no_name h = rw (le-ltb 0 (name_length s) (omega (arith, same)))

  module _ (some : n ≡ 0 → ⊥) where
    name : ltb 0 (name_length s) ≡ true
    name = lt-ltb 0 (name_length s) (omega (arith, same))

    no-equals : (get_or s n 0 ≡ equals_sign → ⊥) → Malformed ≡ other_of s
    unfolding other_of
    no-equals h = rw (name, ne_eqb (get_or s (name_length s) 0) equals_sign (λ e. h (ap (λ (i : ℕ). get_or s i 0) same ∙ e)))

    module _ (equals : get_or s n 0 ≡ equals_sign) where
      sign : eqb (get_or s (name_length s) 0) equals_sign ≡ true
      sign = eq-eqb (get_or s (name_length s) 0) equals_sign (ap (λ (i : ℕ). get_or s i 0) (sym same) ∙ equals)

      no_value : length s ≤ n + 1 → Malformed ≡ other_of s
      unfolding other_of
      no_value h = rw (name, sign, le-ltb (name_length s + 1) (length s) (omega (arith, same)))

      valued : (t : Bool) → n + 1 < length s → t ≡ are_value (take (length s - (n + 1)) (drop (n + 1) s)) → cond t Other Malformed ≡ other_of s
      unfolding other_of
      valued t h e = rw (name, sign, lt-ltb (name_length s + 1) (length s) (omega (arith, same)))
          (ap (λ (b : Bool). cond b Other Malformed) (e ∙ ap are_value (part-all (n + 1) s) ∙ ap (λ (i : ℕ). are_value (drop (i + 1) s)) same))

pub returns-then-n-eq0 : goal.returns-then-n-eq0
returns-then-n-eq0 c = no_name _ _ c.name_length-n.ensures c.if-n-eq0.true

pub returns-then-octet_at-ne61 : goal.returns-then-octet_at-ne61
returns-then-octet_at-ne61 c = no-equals _ _ c.name_length-n.ensures c.if-n-eq0.false (λ e. c.if-octet_at-ne61.true (c.octet_at.ensures ∙ e))

pub overflow_add-start : goal.overflow_add-start
overflow_add-start c = omega (arith, c.name_length-n.ensures, name-inside c.args.text.now)

pub returns-then-text-start : goal.returns-then-text-start
returns-then-text-start c = no_value _ _ c.name_length-n.ensures c.if-n-eq0.false (sym c.octet_at.ensures ∙ c.if-octet_at-ne61.false) c.if-text-start.true

pub returns-then-not-are_value : goal.returns-then-not-are_value
returns-then-not-are_value c = ap (λ (b : Bool). cond b Other Malformed) (sym (not-true c.are_value.result (ap not c.if-not-are_value.true))) ∙ valued _ _ c.name_length-n.ensures c.if-n-eq0.false (sym c.octet_at.ensures ∙ c.if-octet_at-ne61.false) _ c.if-text-start.false c.are_value.ensures

pub returns : goal.returns
returns c = ap (λ (b : Bool). cond b Other Malformed) (sym (not-false c.are_value.result (ap not c.if-not-are_value.false))) ∙ valued _ _ c.name_length-n.ensures c.if-n-eq0.false (sym c.octet_at.ensures ∙ c.if-octet_at-ne61.false) _ c.if-text-start.false c.are_value.ensures
