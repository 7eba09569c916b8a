-- Which numbers reading and writing give, and with which index.
-- By the faults in their order: each has its number.
use mathlib.Core.Path.{◌≡◌, ap, sym}
use mathlib.Core.Logic.{inl, inr}
use mathlib.Core.List.{List, [], ◌∷◌}
use Prim.Native.Nat.{ℕ, zero, suc, ◌+◌, ◌<◌, ◌≤◌}
use native.Mathlib.Omega.{arith}
use lib.ListN.{length, drop, length-append, length-drop}
use Rattle.wire_spec.specs.Layout.{Layout}
use Rattle.wire_spec.specs.Anc.{Record, behind}
use Rattle.wire_spec.specs.Cells.{cell_count, rest, Lists}
use Rattle.wire_spec.specs.Packet.{anc_count, Content}
use Rattle.wire_spec.specs.Writing.{with_records}
use Rattle.wire_spec.specs.Order.{First, Among, after, InTurn, front_faults, anc_faults, anc_region, ReadRefused, RefusedInto, head_faults, cell_faults, clear_faults, limit_faults, WriteRefused, ReadIndex, WriteIndex}
use Rattle.wire_spec.proofs.OrderLaws.{first-number}
use Rattle.wire_spec.proofs.ReadingOrder.{later-turn}

-- the numbers of the ANC packets' checks, 9 twice
anc-among : (n : ℕ) → Among (9 ∷ 10 ∷ 9 ∷ 15 ∷ 16 ∷ 11 ∷ 12 ∷ []) n → Among (9 ∷ 10 ∷ 11 ∷ 12 ∷ 15 ∷ 16 ∷ []) n
anc-among n (inl e) = inl e
anc-among n (inr (inl e)) = inr (inl e)
anc-among n (inr (inr (inl e))) = inl e
anc-among n (inr (inr (inr (inl e)))) = inr (inr (inr (inr (inl e))))
anc-among n (inr (inr (inr (inr (inl e))))) = inr (inr (inr (inr (inr (inl e)))))
anc-among n (inr (inr (inr (inr (inr (inl e)))))) = inr (inr (inl e))
anc-among n (inr (inr (inr (inr (inr (inr (inl e))))))) = inr (inr (inr (inl e)))
anc-among n (inr (inr (inr (inr (inr (inr (inr x7))))))) = elim x7 [ ]

-- those before, 2 twice
pub front-among : (n : ℕ) → Among (1 ∷ 2 ∷ 3 ∷ 2 ∷ 4 ∷ 5 ∷ 6 ∷ 7 ∷ 8 ∷ []) n → Among (1 ∷ 2 ∷ 3 ∷ 4 ∷ 5 ∷ 6 ∷ 7 ∷ 8 ∷ 13 ∷ 14 ∷ []) n
front-among n (inl e) = inl e
front-among n (inr (inl e)) = inr (inl e)
front-among n (inr (inr (inl e))) = inr (inr (inl e))
front-among n (inr (inr (inr (inl e)))) = inr (inl e)
front-among n (inr (inr (inr (inr (inl e))))) = inr (inr (inr (inl e)))
front-among n (inr (inr (inr (inr (inr (inl e)))))) = inr (inr (inr (inr (inl e))))
front-among n (inr (inr (inr (inr (inr (inr (inl e))))))) = inr (inr (inr (inr (inr (inl e)))))
front-among n (inr (inr (inr (inr (inr (inr (inr (inl e)))))))) = inr (inr (inr (inr (inr (inr (inl e))))))
front-among n (inr (inr (inr (inr (inr (inr (inr (inr (inl e))))))))) = inr (inr (inr (inr (inr (inr (inr (inl e)))))))
front-among n (inr (inr (inr (inr (inr (inr (inr (inr (inr x9))))))))) = elim x9 [ ]

-- THE INDEX OF A REFUSED PACKET is the ANC packet's for 9 to 12, 15 and 16, and 0 otherwise; and these are the numbers of reading
pub refused-index : (L : Layout) (s : List ℕ) (n i : ℕ) → ReadRefused L s n i → ReadIndex (anc_count s) n i
refused-index L s n i (inl x) = inr (front-among n (first-number n (front_faults L s) x.0), x.1)
refused-index L s n i (inr (_, inl x)) = inl (anc-among n (first-number n (anc_faults L (after (behind L) i (anc_region L s))) x.1.here), x.0)
refused-index L s n i (inr (_, inr x)) = inr (inr (inr (inr (inr (inr (inr (inr (inr (inl (sym x.2))))))))), x.3)

pub into-index : (L : Layout) (s : List ℕ) (room n i : ℕ) → RefusedInto L s room n i → ReadIndex (anc_count s) n i
into-index L s room n i (inl x) = refused-index L s n i x
into-index L s room n i (inr x) = inr (inr (inr (inr (inr (inr (inr (inr (inr (inr (inl (sym x.3)))))))))), x.4)

-- a record takes nine cells at least, so a list has fewer records than cells
rest-shorter : (j : ℕ) (l : List ℕ) → 0 < length (after rest j l) → j < length l
rest-shorter zero l h = h
rest-shorter (suc j) l h = let k = rest-shorter j (rest l) h in omega (arith, k, length-drop (9 + cell_count l) l)

cell-among : (n : ℕ) → Among (20 ∷ 20 ∷ 20 ∷ 20 ∷ []) n → 20 ≡ n
cell-among n (inl e) = e
cell-among n (inr (inl e)) = e
cell-among n (inr (inr (inl e))) = e
cell-among n (inr (inr (inr (inl e)))) = e
cell-among n (inr (inr (inr (inr x4)))) = elim x4 [ ]

clear-among : (n i : ℕ) (rs : List Record) → InTurn clear_faults (drop 1) rs n i → (16 ≡ n) × (i < length rs)
clear-among n zero [] x = absurd x.here
clear-among n zero (r ∷ rs) x = go x.here
  where
    go : First n (clear_faults (r ∷ rs)) → (16 ≡ n) × (0 < length (r ∷ rs))
    go (inl y) = (y.1, omega arith)
    go (inr y) = absurd y.1
clear-among n (suc i) [] x = absurd (omega (arith, (clear-among n i [] ((later-turn clear_faults (drop 1) [] n i).0 x).1).1))
clear-among n (suc i) (r ∷ rs) x = let k = clear-among n i rs ((later-turn clear_faults (drop 1) (r ∷ rs) n i).0 x).1 in (k.0, omega (arith, k.1))

records-fewer : (rs : List Record) (l : List ℕ) → Lists rs l → length rs ≤ length l
records-fewer [] l h = omega arith
records-fewer (r ∷ rs) l h = let k = records-fewer rs h.1 h.4 in omega (arith, k, ap length h.3, length-append r.words h.1)

-- THE INDEX OF A REFUSED LIST is the record's for 20 and 16, and 0 otherwise; and these are the numbers of writing
pub write-index : (L : Layout) (k : Content) (cells : List ℕ) (room n i : ℕ) → WriteRefused L k cells room n i → WriteIndex (length cells) n i
write-index L k cells room n i (inl x) = inr (go x.0, x.1)
  where
    go : First n (head_faults k) → Among (24 ∷ 21 ∷ 25 ∷ 23 ∷ []) n
    go (inl y) = inl y.1
    go (inr y) = absurd y.1
write-index L k cells room n i (inr (_, inl x)) =
    inl (inl (cell-among n (first-number n (cell_faults (after rest i cells)) x.1.here)), rest-shorter i cells x.0)
write-index L k cells room n i (inr (_, inr (rs, _, lists, inl x))) =
    let c = clear-among n i rs x in inl (inr (inl c.0), omega (arith, c.1, records-fewer rs cells lists))
write-index L k cells room n i (inr (_, inr (rs, _, lists, inr x))) = inr (inr (first-number n (limit_faults L (with_records k rs) (length cells) room) x.1), x.2)
