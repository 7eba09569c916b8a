use Rattle.std.proofs.Common.{arith}
use Rattle.wire_spec.specs.Bits.{bits}
use Rattle.wire_spec.proofs.BitLaws.{below_at, length-bits}
use Rattle.wire_row_writer.proofs.Fields.{none-stored, next-stored, all-stored}
use Rattle.wire_row_writer.proofs.row.write_singly.Goals as goal

pub loop-k-init : goal.loop-k-init
loop-k-init c = let a = c.args in
    none-stored (bits a.octets.now) a.bit a.words.now

pub store-requires : goal.store-requires
store-requires c = (omega arith, below_at 1024 c.args.words.now c.loop-k.k c.requires.1 (omega arith))

pub loop-k-preserved : goal.loop-k-preserved
loop-k-preserved c = let a = c.args in
    let l = c.loop-k in
    let b = bits a.octets.now in
    next-stored b a.bit l.k a.words.now (omega (arith, length-bits a.octets.now)) (omega arith) l.invariant c.store.ensures

pub returns : goal.returns
returns c = let l = c.loop-k in
    let a = c.args in
    all-stored (bits a.octets.now) a.bit l.k a.words.now (omega arith) l.invariant
