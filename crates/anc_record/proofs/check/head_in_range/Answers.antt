-- `head_in_range` tells whether each cell before the words fits its field.
-- Its tests are those of the definition, grouped from the other side.
use mathlib.Core.Path.{◌≡◌}
use mathlib.Core.Bool.{Bool, ◌&&◌, and_assoc}
use Prim.Native.Nat.{ℕ}
use lib.Dec.{leb, ltb}
use lib.ListN.{get_or}
use Rattle.wire_spec.specs.Cells.{max_index, cell_index, head_in_range}
use Rattle.anc_record.proofs.check.head_in_range.Goals as goal

regroup : (a b c d e f g h k : Bool) → a && b && c && d && e && f && g && h && k ≡ a && (b && (c && (d && (e && (f && (g && (h && k)))))))
regroup a b c d e f g h k = simp and_assoc

pub returns : goal.returns
unfolding head_in_range
returns c = let l = c.args.cells.now in
    let fits : ℕ → ℕ → Bool = λ k b. ltb (get_or l k 0) b in
    regroup (fits 0 2) (fits 1 2048) (fits 2 4096) (fits 3 2) (fits 4 128) (fits 5 256) (fits 6 256) (fits 7 256) (leb (cell_index l) max_index)
