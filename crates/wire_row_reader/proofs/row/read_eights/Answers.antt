use mathlib.Core.Path.{◌≡◌, refl, ap, sym, ◌∙◌}
use Prim.Native.Nat.{◌+◌, ◌-◌, ◌*◌}
use native.Mathlib.Nat.{add-zero, sub-zero, mul-zero}
use native.Mathlib.Omega.{arith}
use lib.ListN.{length}
use Rattle.wire_spec.specs.Bits.{row_at}
use Rattle.wire_spec.specs.Words.{word_bits}
use Rattle.wire_spec.proofs.BitLaws.{length-row_at}
use Rattle.wire_spec.proofs.ListLaws.{splice-none}
use Rattle.wire_row_reader.proofs.Rows.{splice-rows}
use Rattle.wire_row_reader.proofs.row.read_eights.Goals as goal

pub loop-k-init : goal.loop-k-init
loop-k-init c = (omega arith, refl, simp (mul-zero, add-zero, sub-zero))

pub eight_at-words-requires : goal.eight_at-words-requires
eight_at-words-requires c = (omega arith, c.lanes-m.ensures)

pub slice_bounds-put-end : goal.slice_bounds-put-end
slice_bounds-put-end c = let eight : length c.eight_at-words.result ≡ 8 = ap length c.eight_at-words.ensures ∙ length-row_at word_bits _ _ 8 in
    sym (eight)

pub put-requires : goal.put-requires
put-requires c = let eight : length c.eight_at-words.result ≡ 8 = ap length c.eight_at-words.ensures ∙ length-row_at word_bits _ _ 8 in
    rw (eight) (omega arith)

pub loop-k-preserved : goal.loop-k-preserved
loop-k-preserved c = let a = c.args in
    let l = c.loop-k in
    let s = a.octets.now in
    let t : a.to + 8 * (l.k + 1) ≡ a.to + 8 * l.k + 8 = omega arith in
    let b : 8 * (a.from + 10 * (l.k + 1)) ≡ 8 * (a.from + 10 * l.k) + 10 * 8 = omega arith in
    let n : 8 * (a.eights - l.k) ≡ 8 + 8 * (a.eights - (l.k + 1)) = omega arith in (
      rw c.step-one.ensures (omega arith),
      c.put.auto.cells ∙ l.invariant.1,
      rw (c.step-one.ensures, t, b, c.put.ensures, c.eight_at-words.ensures)
          (splice-rows l.cells s (a.to + 8 * l.k) (8 * (a.from + 10 * l.k)) 8 (8 * (a.eights - (l.k + 1))) (omega arith) ∙ (rw n at l.invariant.2)),
    )

pub returns : goal.returns
unfolding row_at
returns c = let l = c.loop-k in
    let a = c.args in
    let e : 8 * (a.eights - l.k) ≡ 0 = omega arith in
    sym (splice-none l.cells (a.to + 8 * l.k)) ∙ (rw e at l.invariant.2)
