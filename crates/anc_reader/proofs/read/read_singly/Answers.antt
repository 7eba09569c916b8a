use mathlib.Core.Path.{◌≡◌, sym, ◌∙◌}
use Prim.Native.Nat.{suc, ◌+◌, ◌-◌, ◌*◌}
use native.Mathlib.Nat.{add-zero, mul-zero, sub-zero}
use native.Mathlib.Omega.{arith}
use Rattle.wire_spec.specs.Bits.{bits_at, row_at}
use Rattle.wire_spec.specs.Words.{word_bits}
use Rattle.wire_spec.proofs.ListLaws.{splice-none, splice-set}
use Rattle.anc_reader.proofs.read.read_singly.Goals as goal

pub loop-k-init : goal.loop-k-init
loop-k-init c = simp (mul-zero, add-zero, sub-zero)

pub fetch-requires : goal.fetch-requires
fetch-requires c = let p = c.requires.0 in record { even = omega arith; inside = omega arith; near = omega arith }

pub loop-k-preserved : goal.loop-k-preserved
unfolding row_at
loop-k-preserved c = let a = c.args in
    let l = c.loop-k in
    let m = a.count - (l.k + 1) in
    let n : a.count - l.k ≡ suc m = omega arith in
    let p : a.bit + 10 * (l.k + 1) ≡ a.bit + 10 * l.k + word_bits = omega arith in
    let here = a.bit + 10 * l.k in
    rw (c.fetch.ensures, p)
    (splice-set l.cells l.k (bits_at a.octets.now here word_bits) (row_at word_bits a.octets.now (here + word_bits) m) (omega arith)
    ∙ (rw n at l.invariant))

pub returns : goal.returns
unfolding row_at
returns c = let l = c.loop-k in
    let e : c.args.count - l.k ≡ 0 = omega arith in
    sym (splice-none l.cells l.k) ∙ (rw e at l.invariant)
