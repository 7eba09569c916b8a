use Rattle.std.proofs.Common.{◌≡◌, ℕ, suc, ◌+◌, ◌-◌, ◌*◌, ◌%◌, Bool, ◌&&◌, leb, ap, ◌∙◌, add-zero, mul-zero, zero-add, arith}
use mathlib.Core.Bool.{and_assoc, and-true}
use native.Mathlib.Nat.{sub-zero}
use Rattle.wire_spec.specs.Bits.{bits_at, row_at}
use Rattle.wire_spec.specs.Words.{is_clear}
use Rattle.wire_spec.proofs.BitLaws.{bits_at-lt}
use Rattle.wire_row_scan.proofs.ClearLaws.{high-min, and_comm}
use Rattle.wire_row_scan.proofs.scan.tally_singly.Goals as goal

-- one word more
more : (s w r t : ℕ) → (s + (w % 512 + r)) % 512 ≡ t → ((s + w) % 65536 + r) % 512 ≡ t
more s w r t h = omega arith

pub loop-k-init : goal.loop-k-init
loop-k-init c = (simp (zero-add, mul-zero, add-zero, sub-zero), simp (mul-zero, add-zero, sub-zero))

pub turned-requires : goal.turned-requires
turned-requires c = rw c.fetch-w.ensures (bits_at-lt _ _ 10)

pub loop-k-preserved : goal.loop-k-preserved
unfolding row_at
loop-k-preserved c = let a = c.args in
    let l = c.loop-k in
    let w = bits_at a.octets.now (a.bit + 10 * l.k) 10 in
    let n : a.count - l.k ≡ suc (a.count - (l.k + 1)) = omega arith in
    let b : a.bit + 10 * l.k + 10 ≡ a.bit + 10 * (l.k + 1) = omega arith in
    let t : leb 8 c.turned.result ≡ is_clear w = c.turned.ensures ∙ ap is_clear c.fetch-w.ensures in
    let y = ap (leb 8) c.min-low.ensures ∙ high-min c.turned.result l.low ∙ and_comm (leb 8 c.turned.result) (leb 8 l.low) ∙ ap (λ (t : Bool). leb 8 l.low && t) t in (
      rw c.fetch-w.ensures (more l.sum w _ _ (rw (n, b) at l.invariant.0)),
      rw y (and_assoc (leb 8 l.low) (is_clear w) _ ∙ (rw (n, b) at l.invariant.1)),
    )

pub returns : goal.returns
unfolding row_at
returns c = let l = c.loop-k in
    let e : c.args.count - l.k ≡ 0 = omega arith in
    record { sum_is = rw (add-zero l.sum) at (rw e at l.invariant.0); clear-is = rw (and-true (leb 8 l.low)) at (rw e at l.invariant.1) }
