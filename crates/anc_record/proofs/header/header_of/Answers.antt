-- `header_of` gives the header of the record at the front of the cells.
-- The casts fit since the record is well-formed.
use mathlib.Core.Path.{sym}
use lib.Dec.{eqb}
use lib.ListN.{get_or}
use native.Mathlib.Omega.{arith}
use Rattle.wire_spec.specs.Cells.{cell_record}
use Rattle.anc_record.proofs.FrontLaws.{length-words}
use Rattle.anc_record.proofs.header.header_of.Goals as goal

pub overflow_cast-result : goal.overflow_cast-result
unfolding cell_record
overflow_cast-result c = omega (arith, c.requires.0.stream)

pub overflow_cast-result-2 : goal.overflow_cast-result-2
unfolding cell_record
overflow_cast-result-2 c = omega (arith, c.requires.0.did)

pub overflow_cast-result-3 : goal.overflow_cast-result-3
unfolding cell_record
overflow_cast-result-3 c = omega (arith, c.requires.0.sdid)

pub overflow_cast-result-4 : goal.overflow_cast-result-4
overflow_cast-result-4 c = omega (arith, length-words c.args.cells.now c.requires.1, c.requires.0.count)

pub returns : goal.returns
unfolding cell_record
returns c = let l = c.args.cells.now in
    λ i. record {
      c = eqb (get_or l 0 0) 1;
      location = record { line = c.of.ensures i; offset = c.of-2.ensures i };
      s = eqb (get_or l 3 0) 1;
      stream = get_or l 4 0;
      did = get_or l 5 0;
      sdid = get_or l 6 0;
      words = record { 0 = sym (length-words l c.requires.1) i };
    }
