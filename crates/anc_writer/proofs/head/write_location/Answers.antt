-- `write_location` writes the four octets before DID.
-- By the law of stores one after the other; the octets are the packed fields of the record.
use mathlib.Core.Path.{ap, ◌∙◌}
use mathlib.Core.List.{List}
use Prim.Native.Nat.{ℕ}
use native.Mathlib.Omega.{arith}
use lib.ListN.{length-set}
use lib.Seq.{sets-eq}
use Rattle.wire_spec.specs.Bits.{overwrite}
use Rattle.wire_spec.specs.Cells.{cell_record}
use Rattle.anc_writer.proofs.FourOctets.{location_octets, location-packed}
use Rattle.anc_writer.proofs.head.write_location.Goals as goal

pub overflow_mul-octets : goal.overflow_mul-octets
unfolding cell_record
overflow_mul-octets c = omega (arith, c.requires.0)

pub overflow_add-octets : goal.overflow_add-octets
unfolding cell_record
overflow_add-octets c = omega (arith, c.requires.0)

pub overflow_cast-octets : goal.overflow_cast-octets
unfolding cell_record
overflow_cast-octets c = omega (arith, c.requires.0)

pub overflow_add-octets-2 : goal.overflow_add-octets-2
unfolding cell_record
overflow_add-octets-2 c = omega (arith, c.requires.0)

pub overflow_cast-octets-2 : goal.overflow_cast-octets-2
unfolding cell_record
overflow_cast-octets-2 c = omega (arith, c.requires.0)

pub bounds-octets-1 : goal.bounds-octets-1
bounds-octets-1 c = simp length-set (omega arith)

pub bounds-octets-2 : goal.bounds-octets-2
bounds-octets-2 c = simp length-set (omega arith)

pub overflow_mul-octets-3 : goal.overflow_mul-octets-3
unfolding cell_record
overflow_mul-octets-3 c = omega (arith, c.requires.0)

pub overflow_add-octets-3 : goal.overflow_add-octets-3
unfolding cell_record
overflow_add-octets-3 c = omega (arith, c.requires.0)

pub overflow_cast-octets-4 : goal.overflow_cast-octets-4
unfolding cell_record
overflow_cast-octets-4 c = omega (arith, c.requires.0)

pub bounds-octets-3 : goal.bounds-octets-3
bounds-octets-3 c = simp length-set (omega arith)

pub returns : goal.returns
unfolding cell_record
returns c = let r = cell_record c.args.cells.now in
    let o = c.args.octets.now in
    sets-eq (location_octets r) o 0 (omega arith)
    ∙ ap (λ (x : List ℕ). overwrite x o) (location-packed r c.requires.0)
