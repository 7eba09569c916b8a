-- `put_front` writes the flag and the three header words, and no other word.
-- The six stores, one after the other, are one.
use native.Mathlib.Omega.{arith}
use lib.ListN.{length-set}
use lib.Seq.{sets-eq}
use Rattle.sdi_spec.specs.Passes.{front_of}
use Rattle.sdi_packets.proofs.writing.put_front.Goals as goal

pub bounds-words-1 : goal.bounds-words-1
bounds-words-1 c = simp length-set (omega arith)

pub bounds-words-2 : goal.bounds-words-2
bounds-words-2 c = simp length-set (omega arith)

pub bounds-words-3 : goal.bounds-words-3
bounds-words-3 c = simp length-set (omega arith)

pub bounds-words-4 : goal.bounds-words-4
bounds-words-4 c = simp length-set (omega arith)

pub bounds-words-5 : goal.bounds-words-5
bounds-words-5 c = simp length-set (omega arith)

pub returns : goal.returns
returns c = rw (c.of.ensures, c.of-2.ensures, c.of-3.ensures)
    (sets-eq (front_of c.args.did c.args.sdid c.args.n) c.args.words.now 0 (omega (arith, c.requires)))
