-- The store holds the records that were read, one by one, as long as the field can still be accepted.
use mathlib.Core.Path.{◌≡◌, refl, ap, sym, ◌∙◌}
use mathlib.Core.Bool.{Bool, true, false, cond}
use mathlib.Core.List.{List, [], ◌∷◌, ◌++◌, append-nil}
use Prim.Native.Nat.{ℕ, ◌+◌, ◌≤◌}
use native.Mathlib.Omega.{arith}
use lib.Dec.{leb}
use lib.ListN.{length, take, length-append}
use borrow.Author.Tests.{leb-true, le-leb}
use Rattle.wire_spec.specs.Bits.{splice}
use Rattle.wire_spec.specs.Anc.{Record}
use Rattle.wire_spec.specs.Cells.{cells_of, list_of, head_cells}
use Rattle.wire_spec.specs.Writing.{max_field_records, max_field_cells}
use Rattle.wire_spec.proofs.ListLaws.{take-splice, length-splice}
use Rattle.wire_spec.proofs.ResultLaws.{and-true, and_both}
use Rattle.fieldfile_spec.specs.File.{within_limits}
use Rattle.fieldfile_scan_spec.specs.Store.{Held, Holds, hold}
use Rattle.fieldfile_scan_spec.proofs.WindowLaws.{list-append}

-- nothing is held at first
pub holds-none : (store : List ℕ) → max_field_cells ≤ length store → Holds (record { records = 0; cells = 0; store = store }) []
holds-none store h = record { room = h; records = refl; cells = refl; store = λ e. refl }

-- a record more
pub holds_more : (h : Held) (rs : List Record) (r : Record) → Holds h rs → Holds (hold h r) (rs ++ (r ∷ []))
holds_more h rs r p =
    let n = head_cells + length r.words in
    let a = length-append rs (r ∷ []) in
    let one : list_of (r ∷ []) ≡ cells_of r = append-nil (cells_of r) in
    let l : list_of (rs ++ (r ∷ [])) ≡ list_of rs ++ cells_of r = list-append rs (r ∷ []) ∙ ap (λ (z : List ℕ). list_of rs ++ z) one in
    let c : length (list_of (rs ++ (r ∷ []))) ≡ length (list_of rs) + length (cells_of r) = ap length l ∙ length-append (list_of rs) (cells_of r) in
    record {
      room = roomy (within_limits (h.records + 1) (h.cells + n)) refl;
      records = omega (arith, p.records);
      cells = omega (arith, p.cells, c);
      store = λ e.
          let q = and-true (leb (h.records + 1) max_field_records) (leb (h.cells + n) max_field_cells) e in
          let x = leb-true (h.records + 1) max_field_records q.0 in
          let y = leb-true (h.cells + n) max_field_cells q.1 in
          let before : within_limits h.records h.cells ≡ true =
          and_both (le-leb h.records max_field_records (omega arith)) (le-leb h.cells max_field_cells (omega arith)) in
          ap (λ (b : Bool). take (h.cells + n) (cond b (splice h.store h.cells (cells_of r)) h.store)) e
          ∙ ap (λ (m : ℕ). take (h.cells + m) (splice h.store h.cells (cells_of r))) size
          ∙ take-splice h.store h.cells (cells_of r) (omega (arith, p.room))
          ∙ ap (λ (z : List ℕ). z ++ cells_of r) (p.store before)
          ∙ sym l;
    }
  where
    size : head_cells + length r.words ≡ length (cells_of r)
    size = omega arith

    roomy : (b : Bool) → within_limits (h.records + 1) (h.cells + (head_cells + length r.words)) ≡ b
        → max_field_cells ≤ length (cond b (splice h.store h.cells (cells_of r)) h.store)
    roomy false e = p.room
    roomy true e =
        let q = and-true (leb (h.records + 1) max_field_records) (leb (h.cells + (head_cells + length r.words)) max_field_cells) e in
        let y = leb-true (h.cells + (head_cells + length r.words)) max_field_cells q.1 in
        let z = length-splice h.store h.cells (cells_of r) (omega (arith, p.room)) in
        omega (arith, p.room)
