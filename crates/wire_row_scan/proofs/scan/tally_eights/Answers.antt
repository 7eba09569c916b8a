use Rattle.std.proofs.Common.{sum, ◌≡◌, ℕ, ◌+◌, ◌-◌, ◌*◌, ◌%◌, length, sym, refl, ap, ◌∙◌, subst, add-zero, mul-zero, zero-add, arith}
use mathlib.Core.Bool.{and_assoc, and-true}
use native.Mathlib.Nat.{sub-zero}
use Rattle.wire_spec.specs.Bits.{Below, row_at}
use Rattle.wire_spec.specs.Words.{word_bits}
use Rattle.wire_spec.proofs.BitLaws.{length-row_at}
use Rattle.wire_row_scan.specs.Clear.{all_high}
use Rattle.wire_row_scan.proofs.ClearLaws.{clear-rows, row_below}
use Rattle.wire_row_scan.proofs.SumLaws.{sum_rows}
use Rattle.wire_row_scan.proofs.scan.tally_eights.Goals as goal

-- eight words more
more : (t u w r a : ℕ) → u % 512 ≡ (t + w) % 512 → (t + (w + r)) % 512 ≡ a → (u + r) % 512 ≡ a
more t u w r a e h = omega arith

low : (t : ℕ) → t % 65536 % 512 ≡ t % 512
low t = omega arith

pub loop-k-init : goal.loop-k-init
loop-k-init c = (omega arith, refl, refl, simp (zero-add, mul-zero, add-zero, sub-zero), simp (mul-zero, add-zero, sub-zero))

pub eight_at-words-requires : goal.eight_at-words-requires
eight_at-words-requires c = (omega arith, c.lanes-m.ensures)

pub slice_bounds-add_lanes-end : goal.slice_bounds-add_lanes-end
slice_bounds-add_lanes-end c = let eight : length c.eight_at-words.result ≡ 8 = ap length c.eight_at-words.ensures ∙ length-row_at word_bits _ _ 8 in
    sym (eight)

pub slice_bounds-add_lanes-end-in-loop-k : goal.slice_bounds-add_lanes-end-in-loop-k
slice_bounds-add_lanes-end-in-loop-k c = sym c.loop-k.invariant.1

pub add_lanes-requires : goal.add_lanes-requires
add_lanes-requires c = let eight : length c.eight_at-words.result ≡ 8 = ap length c.eight_at-words.ensures ∙ length-row_at word_bits _ _ 8 in
    eight ∙ sym c.loop-k.invariant.1

pub slice_bounds-test_lanes-end : goal.slice_bounds-test_lanes-end
slice_bounds-test_lanes-end c = let eight : length c.eight_at-words.result ≡ 8 = ap length c.eight_at-words.ensures ∙ length-row_at word_bits _ _ 8 in
    sym (eight)

pub slice_bounds-test_lanes-end-in-loop-k : goal.slice_bounds-test_lanes-end-in-loop-k
slice_bounds-test_lanes-end-in-loop-k c = sym c.loop-k.invariant.2

pub test_lanes-requires : goal.test_lanes-requires
test_lanes-requires c = let eight : length c.eight_at-words.result ≡ 8 = ap length c.eight_at-words.ensures ∙ length-row_at word_bits _ _ 8 in
    (eight ∙ sym c.loop-k.invariant.2, subst (Below 1024) (sym c.eight_at-words.ensures) (row_below _ _ 8))

pub loop-k-preserved : goal.loop-k-preserved
loop-k-preserved c = let a = c.args in
    let l = c.loop-k in
    let s = a.octets.now in
    let p = 8 * (a.from + 10 * l.k) in
    let b : 8 * (a.from + 10 * (l.k + 1)) ≡ p + 10 * 8 = omega arith in
    let n : 8 * (a.eights - l.k) ≡ 8 + 8 * (a.eights - (l.k + 1)) = omega arith in (
      rw c.step-one.ensures (omega arith),
      c.add_lanes.auto.sums ∙ l.invariant.1,
      c.test_lanes.auto.lows ∙ l.invariant.2,
      rw (c.step-one.ensures, b)
          (more (sum l.sums) _ _ _ _ (rw c.eight_at-words.ensures at c.add_lanes.ensures) (rw (n, sum_rows s p 8 (8 * (a.eights - (l.k + 1)))) at l.invariant.3)),
      rw (c.step-one.ensures, b, c.test_lanes.ensures, c.eight_at-words.ensures)
          (and_assoc (all_high l.lows) _ _ ∙ (rw (n, clear-rows s p 8 (8 * (a.eights - (l.k + 1)))) at l.invariant.4)),
    )

pub slice_bounds-total_of-end : goal.slice_bounds-total_of-end
slice_bounds-total_of-end c = sym c.loop-k.invariant.1

pub slice_bounds-least_of-end : goal.slice_bounds-least_of-end
slice_bounds-least_of-end c = sym c.loop-k.invariant.2

pub returns : goal.returns
unfolding row_at
returns c = let l = c.loop-k in
    let a = c.args in
    let e : 8 * (a.eights - l.k) ≡ 0 = omega arith in
    record {
      sum_is = rw c.total_of.ensures (low (sum l.sums) ∙ (rw (e, add-zero (sum l.sums)) at l.invariant.3));
      clear-is = c.least_of.ensures ∙ (rw (e, and-true (all_high l.lows)) at l.invariant.4);
    }
