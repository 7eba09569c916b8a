use Rattle.std.proofs.Common.{◌≡◌, ℕ, ◌+◌, ◌*◌, take, drop, refl, ap, ◌∙◌, arith}
use Rattle.wire_spec.specs.Bits.{bits, field_bits, row, splice}
use Rattle.wire_spec.specs.Words.{word_bits}
use Rattle.wire_spec.proofs.BitLaws.{length-bits}
use Rattle.wire_row_writer.proofs.Fields.{none-stored, four-stored}
use Rattle.wire_row_writer.proofs.row.write_fours.Goals as goal

pub loop-k-init : goal.loop-k-init
loop-k-init c = let a = c.args in
    (omega arith, refl, none-stored (bits a.octets.now) (8 * a.from) a.words.now)

pub store_four-requires : goal.store_four-requires
store_four-requires c = (c.requires.1, omega arith, omega arith, c.factors-m.ensures)

pub loop-k-preserved : goal.loop-k-preserved
loop-k-preserved c = let a = c.args in
    let l = c.loop-k in
    let s = bits a.octets.now in
    let w = a.words.now in
    let b : 8 * (a.from + 5 * l.k) ≡ 8 * a.from + 10 * (4 * l.k) = omega arith in
    let n : 4 * (l.k + 1) ≡ 4 * l.k + 4 = omega arith in (
      rw c.step-one.ensures (omega arith),
      c.store_four.auto.octets ∙ l.invariant.1,
      rw (c.step-one.ensures, n)
          (four-stored s (8 * a.from) (4 * l.k) w (omega (arith, length-bits a.octets.now)) (omega arith) l.invariant.2
          (c.store_four.ensures ∙ ap (λ (p : ℕ). splice (bits l.octets) p (field_bits (row word_bits (take 4 (drop (4 * l.k) w))))) b)),
    )

pub returns : goal.returns
returns c = let l = c.loop-k in
    let e : l.k ≡ c.args.fours = omega arith in
    rw e at l.invariant.2
