-- `clear_end` sets the last four octets of a packet to zero.
-- By the law of stores one after the other.
use mathlib.Core.Path.{◌≡◌, sym, ◌∙◌}
use mathlib.Core.List.{List, [], ◌∷◌, append_assoc}
use Prim.Native.Nat.{ℕ, suc, ◌-◌}
use native.Mathlib.Omega.{arith}
use lib.ListN.{take, length-set}
use lib.Seq.{sets-eq}
use Rattle.wire_spec.proofs.ListLaws.{splice-is}
use Rattle.anc_writer.proofs.write.clear_end.Goals as goal

pub bounds-octets-size-2 : goal.bounds-octets-size-2
bounds-octets-size-2 c = simp length-set (omega arith)

pub bounds-octets-size-3 : goal.bounds-octets-size-3
bounds-octets-size-3 c = simp length-set (omega arith)

pub bounds-octets-size-4 : goal.bounds-octets-size-4
bounds-octets-size-4 c = simp length-set (omega arith)

pub returns : goal.returns
returns c = let s = c.args.octets.now in
    let size = c.args.size in
    let k = size - 4 in
    let zeros : List ℕ = 0 ∷ 0 ∷ 0 ∷ 0 ∷ [] in
    let e1 : size - 3 ≡ suc k = omega arith in
    let e2 : size - 2 ≡ suc (suc k) = omega arith in
    let e3 : size - 1 ≡ suc (suc (suc k)) = omega arith in
    rw (e1, e2, e3) (sets-eq zeros s k (omega arith) ∙ append_assoc (take k s) zeros _ ∙ sym (splice-is s k zeros))
