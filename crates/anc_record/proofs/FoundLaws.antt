-- A header is found exactly where the cells of a record stand whose numbers are in range, and otherwise 20 is given.
-- By the checks of the record at the front of the cells from there on.
use Rattle.std.specs.Prelude.{Option, Some, None}
use mathlib.Core.Path.{◌≡◌, refl, ap, sym, ◌∙◌, subst}
use mathlib.Core.Logic.{◌↔◌}
use mathlib.Core.List.{List}
use Prim.Native.Nat.{ℕ, ◌+◌, ◌≤◌}
use native.Mathlib.Omega.{arith}
use lib.ListN.{length, take, drop}
use Rattle.wire_spec.specs.declared.refusal.Refusal.{Refusal}
use Rattle.wire_spec.specs.Result.{Result, Err, Ok, refuse}
use Rattle.wire_spec.specs.Layout.{rfc8331}
use Rattle.wire_spec.specs.Anc.{Record, InRange}
use Rattle.wire_spec.specs.Cells.{head_cells, max_index, cell_count, cell_index, cell_record, cell_checks, rest}
use Rattle.wire_spec.proofs.ResultLaws.{Passed, accepted-inj, judge-accepts, judge-passes}
use Rattle.wire_spec.proofs.CellLaws.{front-passed, front_reads}
use Rattle.anc_record.specs.declared.header.Header.{Header}
use Rattle.anc_record.specs.declared.check.Front.{Front}
use Rattle.anc_record.specs.Answers.{front_of, found_of}
use Rattle.anc_record.specs.Header.{header_of, record_of, header_cells, header_at, StandsAt}
use Rattle.anc_record.proofs.HeaderLaws.{header-record, header-cells}
use Rattle.anc_record.proofs.FrontLaws.{lies, taken, malformed}

-- A HEADER is found exactly where such a record's cells stand, and is that record's
pub header-at-iff : (l : List ℕ) (at : ℕ) (h : Header) → (header_at l at ≡ Ok h) ↔ ((r : Record) × StandsAt l at r × (header_of r ≡ h))
unfolding header_at
header-at-iff l at h = (
  λ e.
      let a = judge-accepts 0 (cell_checks (drop at l)) _ h e in
      let f = front-passed (drop at l) a.0 in
      (cell_record (drop at l), record { formed = f.0; index = cell_index (drop at l); taken = f.1; behind = rest (drop at l); cells = f.2 }, accepted-inj a.1),
  λ p.
      let s = p.1 in
      let f = subst (λ (y : List ℕ). Passed (cell_checks y) × (cell_record y ≡ p.0) × (rest y ≡ s.behind)) (sym s.cells) (front_reads s.index p.0 s.behind s.formed s.taken) in
      judge-passes 0 (cell_checks (drop at l)) _ f.0 ∙ ap (λ (r : Record). Ok (header_of r)) f.1 ∙ ap Ok p.2,
)

-- its cells are the first there, with an index that is taken
pub header-at-cells : (l : List ℕ) (at : ℕ) (h : Header) → header_at l at ≡ Ok h
    → (index : ℕ) × (index ≤ max_index) × (take head_cells (drop at l) ≡ header_cells index h)
header-at-cells l at h e =
    let p = (header-at-iff l at h).0 e in
    let s = p.1 in
    (s.index, s.taken, ap (take head_cells) s.cells ∙ sym (header-cells p.0 s.formed.c s.formed.s s.index) ∙ ap (header_cells s.index) p.2)

-- and where there is none, 20 is given, index 0
pub header-at-refused : (l : List ℕ) (at : ℕ) (x : Refusal) → header_at l at ≡ Err x → x ≡ record { number = 20; index = 0 }
unfolding header_at
header-at-refused l at x e = go (front_of (drop at l)) refl
  where
    go : (f : Option Front) → front_of (drop at l) ≡ f → x ≡ record { number = 20; index = 0 }
    go (Some q) h =
        let p = judge-passes 0 (cell_checks (drop at l)) (Ok (header_of (cell_record (drop at l)))) (taken (drop at l) q.words q.clear h).passed in
        let o : ◌≡◌ {A = ℕ} 0 1 = cc in
        absurd (omega arith)
    go None h =
        let m : header_at l at ≡ refuse 20 0 = malformed 0 (drop at l) (Ok (header_of (cell_record (drop at l)))) h in
        cc

-- what `Header::at` answers, where it found a header
pub found_passed : (l : List ℕ) (at : ℕ) (h : Header) → found_of (header_at l at) ≡ Ok h → Passed (cell_checks (drop at l)) × (h ≡ header_of (cell_record (drop at l)))
unfolding header_at
found_passed l at h e = go (header_at l at) refl e
  where
    go : (x : Result Header) → header_at l at ≡ x → found_of x ≡ Ok h → Passed (cell_checks (drop at l)) × (h ≡ header_of (cell_record (drop at l)))
    go (Err x) e f = let o : ◌≡◌ {A = ℕ} 0 1 = cc in absurd (omega arith)
    go (Ok k) e f =
        let a = judge-accepts 0 (cell_checks (drop at l)) _ k e in
        let q : k ≡ h = cc in
        (a.0, sym (accepted-inj a.1 ∙ q))

-- the record at the front of the cells has the header `h`
pub record Starts (l : List ℕ) (h : Header) : Type 0 where
  pub formed : InRange rfc8331 (cell_record l)
  pub count : h.words.0 ≡ cell_count l
  pub inside : head_cells + h.words.0 ≤ length l
  pub whole : record_of h (take h.words.0 (drop head_cells l)) ≡ cell_record l

pub found-starts : (l : List ℕ) (at : ℕ) (h : Header) → found_of (header_at l at) ≡ Ok h → Starts (drop at l) h
unfolding cell_record
found-starts l at h e =
    let p = found_passed l at h e in
    let f = (front-passed (drop at l) p.0).0 in
    let q = lies (drop at l) p.0 in
    let count : h.words.0 ≡ cell_count (drop at l) = ap (λ (x : Header). x.words.0) p.1 ∙ q.words in
    record {
      formed = f;
      count = count;
      inside = rw count q.inside;
      whole = (λ i. record_of (p.1 i) (take (count i) (drop head_cells (drop at l)))) ∙ header-record (cell_record (drop at l)) f.c f.s;
    }

-- and a record that passes is found
pub passed-found : (l : List ℕ) (at : ℕ) → Passed (cell_checks (drop at l)) → found_of (header_at l at) ≡ Ok (header_of (cell_record (drop at l)))
unfolding header_at
passed-found l at p = ap found_of (judge-passes 0 (cell_checks (drop at l)) _ p)
