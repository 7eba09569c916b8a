-- `store` changes the ten bits from a bit on, and no other.
-- By the law of a field stored in two octets.
use Prim.Native.Nat.{ℕ, ◌+◌, ◌/◌, ◌<◌}
use native.Mathlib.Omega.{arith}
use lib.ListN.{get_or, length-set}
use Rattle.wire_spec.proofs.Store.{store-ten}
use Rattle.wire_words.proofs.word.store.Goals as goal

pub bounds-octets-i-4 : goal.bounds-octets-i-4
bounds-octets-i-4 c = simp length-set (omega arith)

pub returns : goal.returns
returns c = let a = c.args in
    let p = c.requires in
    let s = a.octets.now in
    let i = a.bit / 8 in
    let octet : (j : ℕ) → get_or s j 0 < 256 = λ j. (c.slice_known-3-1.given j).fits in
    rw (c.first_octet-a.ensures (get_or s (i + 1) 0) (octet (i + 1)), c.second_octet-b.ensures (get_or s i 0), c.bits_behind-m.ensures)
    (store-ten s octet a.bit a.w (omega arith) (omega arith) p.1)
