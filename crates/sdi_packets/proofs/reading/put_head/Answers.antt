-- `put_head` writes the cells before a record's words, and no other cell.
-- The nine stores, one after the other, are one.
use native.Mathlib.Omega.{arith}
use lib.ListN.{length-set}
use lib.Seq.{sets-eq}
use Rattle.sdi_spec.specs.Passes.{head_of}
use Rattle.sdi_packets.proofs.reading.put_head.Goals as goal

pub bounds-cells-1 : goal.bounds-cells-1
bounds-cells-1 c = simp length-set (omega arith)

pub bounds-cells-2 : goal.bounds-cells-2
bounds-cells-2 c = simp length-set (omega arith)

pub bounds-cells-3 : goal.bounds-cells-3
bounds-cells-3 c = simp length-set (omega arith)

pub bounds-cells-4 : goal.bounds-cells-4
bounds-cells-4 c = simp length-set (omega arith)

pub bounds-cells-5 : goal.bounds-cells-5
bounds-cells-5 c = simp length-set (omega arith)

pub bounds-cells-6 : goal.bounds-cells-6
bounds-cells-6 c = simp length-set (omega arith)

pub bounds-cells-7 : goal.bounds-cells-7
bounds-cells-7 c = simp length-set (omega arith)

pub bounds-cells-8 : goal.bounds-cells-8
bounds-cells-8 c = simp length-set (omega arith)

pub returns : goal.returns
returns c = sets-eq (head_of c.args.position c.args.words.now) c.args.cells.now 0 (omega (arith, c.requires))
