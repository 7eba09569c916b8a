-- The cells that came in a packet: one record and then the others; and of a field as sent, exactly those of the packet's records.
-- By the record at the front of the cells; the packets behind have larger indices.
use Rattle.std.specs.Prelude.{Option, Some, None}
use mathlib.Core.Path.{◌≡◌, refl, ap, sym, ◌∙◌}
use mathlib.Core.Bool.{Bool, true, false, cond}
use mathlib.Core.List.{List, [], ◌∷◌, ◌++◌, append_assoc}
use Prim.Native.Nat.{ℕ, zero, suc, ◌+◌, ◌<◌, ◌≤◌}
use native.Mathlib.Nat.{le_refl}
use native.Mathlib.Omega.{arith}
use lib.Dec.{eqb}
use lib.ListN.{length, drop, length-append, length-drop}
use lib.Seq.{drop-append_seam}
use borrow.Author.Tests.{eq-eqb, ne_eqb}
use Rattle.wire_spec.specs.Layout.{rfc8331}
use Rattle.wire_spec.specs.Anc.{Each, Record, InRange}
use Rattle.wire_spec.specs.Cells.{head_cells, cells_in, list_in, max_index, cell_index, cell_checks}
use Rattle.wire_spec.proofs.CellLaws.{front_reads}
use Rattle.anc_record.specs.declared.check.Front.{Front}
use Rattle.anc_record.specs.Answers.{front_of}
use Rattle.anc_record.proofs.FrontLaws.{taken, lies, front-taken}
use Rattle.depacketizer_spec.specs.Stream.{Part, cells_from}
use Rattle.depacketizer_forward.specs.Forward.{front_cells, record_cells, cells_within, packet_cells}

-- no record stands in no cells
none-there : (k : ℕ) → record_cells k [] ≡ 0
unfolding cell_checks
none-there k = refl

-- a record lies in the cells
pub record-inside : (k : ℕ) (l : List ℕ) → record_cells k l ≤ length l
record-inside k l = go (front_of l) refl
  where
    go : (f : Option Front) → front_of l ≡ f → front_cells k l f ≤ length l
    go None e = omega arith
    go (Some p) e = let t = taken l p.words p.clear e in of (eqb (cell_index l) k) (omega (arith, (lies l t.passed).inside, t.count))
      where
        of : (b : Bool) → head_cells + p.words.0 ≤ length l → cond b (head_cells + p.words.0) 0 ≤ length l
        of true h = h
        of false h = omega arith

-- any bound that is large enough gives the same
bounds-agree : (b c k : ℕ) (l : List ℕ) → length l ≤ b → length l ≤ c → cells_within b k l ≡ cells_within c k l
unfolding cells_within
bounds-agree zero zero k l h g = refl
bounds-agree zero (suc c) k [] h g = rw (none-there k)
bounds-agree zero (suc c) k (x ∷ l) h g = absurd (omega arith)
bounds-agree (suc b) zero k [] h g = rw (none-there k)
bounds-agree (suc b) zero k (x ∷ l) h g = absurd (omega arith)
bounds-agree (suc b) (suc c) k l h g =
    go (record_cells k l)
    (λ n. let d = length-drop (suc n) l in bounds-agree b c k (drop (suc n) l) (rw d (omega arith)) (rw d (omega arith)))
  where
    go : (n : ℕ) → ((m : ℕ) → cells_within b k (drop (suc m) l) ≡ cells_within c k (drop (suc m) l))
        → cond (eqb n 0) 0 (n + cells_within b k (drop n l)) ≡ cond (eqb n 0) 0 (n + cells_within c k (drop n l))
    go zero f = refl
    go (suc n) f = rw (f n)

-- none of packet `k` stands at the front
pub none_left : (k : ℕ) (l : List ℕ) → record_cells k l ≡ 0 → packet_cells k l ≡ 0
unfolding cells_within
none_left k l e = go (length l)
  where
    go : (b : ℕ) → cells_within b k l ≡ 0
    go zero = refl
    go (suc b) = rw e

-- one does, and then the others
pub one_more : (k : ℕ) (l : List ℕ) → 0 < record_cells k l → packet_cells k l ≡ record_cells k l + packet_cells k (drop (record_cells k l) l)
unfolding cells_within
one_more k l h = go (length l) refl (record-inside k l)
  where
    go : (b : ℕ) → length l ≡ b → record_cells k l ≤ b → cells_within b k l ≡ record_cells k l + packet_cells k (drop (record_cells k l) l)
    go zero e i = absurd (omega arith)
    go (suc b) e i =
        let d = length-drop (record_cells k l) l in
        let less : length (drop (record_cells k l) l) ≤ b = rw d (omega arith) in
        let some : eqb (record_cells k l) 0 ≡ false = ne_eqb (record_cells k l) 0 (λ z. omega arith) in
        rw some (ap (λ (n : ℕ). record_cells k l + n) (bounds-agree b (length (drop (record_cells k l) l)) k (drop (record_cells k l) l) less (le_refl _)))

-- a record of packet `k` takes its cells
own-record : (k : ℕ) (r : Record) (t : List ℕ) → InRange rfc8331 r → k ≤ max_index → record_cells k (cells_in k r ++ t) ≡ length (cells_in k r)
own-record k r t h i =
    let l = cells_in k r ++ t in
    let p = front_reads k r t h i in
    ap (front_cells k l) (sym (front-taken l _ p.0 refl)) ∙ rw (eq-eqb k k refl) (omega arith)

-- one of another packet takes none
other-record : (k j : ℕ) (r : Record) (t : List ℕ) → (j ≡ k → ⊥) → record_cells k (cells_in j r ++ t) ≡ 0
other-record k j r t n = go (front_of (cells_in j r ++ t))
  where
    go : (f : Option Front) → front_cells k (cells_in j r ++ t) f ≡ 0
    go None = refl
    go (Some p) = rw (ne_eqb j k n)

-- the records of packet `k`, with none of it behind them
pub part-cells : (k : ℕ) → k ≤ max_index → (rs : List Record) → Each (InRange rfc8331) rs → (t : List ℕ) → record_cells k t ≡ 0
    → packet_cells k (list_in k rs ++ t) ≡ length (list_in k rs)
part-cells k i [] h t e = none_left k t e
part-cells k i (r ∷ rs) h t e =
    let x = cells_in k r in
    let u = list_in k rs ++ t in
    let own = own-record k r u h.0 i in
    let some : 0 < record_cells k (x ++ u) = rw own (omega arith) in
    let behind : drop (record_cells k (x ++ u)) (x ++ u) ≡ u = ap (λ (n : ℕ). drop n (x ++ u)) own ∙ drop-append_seam x u in
    ap (packet_cells k) (append_assoc x (list_in k rs) t)
    ∙ one_more k (x ++ u) some
    ∙ (λ j. own j + packet_cells k (behind j))
    ∙ ap (λ (n : ℕ). length x + n) (part-cells k i rs h.1 t e)
    ∙ sym (length-append x (list_in k rs))

-- packets behind have none of it
none-later : (k j : ℕ) → k < j → (ps : List Part) → record_cells k (cells_from j ps) ≡ 0
none-later k j h [] = none-there k
none-later k j h (p ∷ ps) = go p.records (none-later k (suc j) (omega arith) ps)
  where
    go : (rs : List Record) → record_cells k (cells_from (suc j) ps) ≡ 0 → record_cells k (list_in j rs ++ cells_from (suc j) ps) ≡ 0
    go [] more = more
    go (r ∷ rs) more =
        ap (record_cells k) (append_assoc (cells_in j r) (list_in j rs) (cells_from (suc j) ps))
        ∙ other-record k j r (list_in j rs ++ cells_from (suc j) ps) (λ e. omega arith)

-- OF A FIELD'S CELLS from packet `k` on, those of packet `k` are its records'
pub packet-of : (k : ℕ) → k ≤ max_index → (p : Part) → Each (InRange rfc8331) p.records → (ps : List Part)
    → packet_cells k (cells_from k (p ∷ ps)) ≡ length (list_in k p.records)
packet-of k i p h ps = part-cells k i p.records h (cells_from (suc k) ps) (none-later k (suc k) (omega arith) ps)
