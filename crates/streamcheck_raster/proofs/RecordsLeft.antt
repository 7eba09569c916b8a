-- Past the records of a list, one by one: past those that are left makes past all of them.
-- By the record at the front of the cells.
use mathlib.Core.Path.{◌≡◌, ap, sym, ◌∙◌, subst}
use mathlib.Core.List.{List, [], ◌∷◌}
use Prim.Native.Nat.{ℕ, ◌<◌, ◌≤◌}
use native.Mathlib.Omega.{arith}
use lib.ListN.{length}
use Rattle.wire_spec.specs.declared.refusal.Refusal.{Refusal}
use Rattle.wire_spec.specs.Layout.{rfc8331}
use Rattle.wire_spec.specs.Result.{IsAccepted, Ok, Err}
use Rattle.wire_spec.specs.Anc.{Each, Record, WellFormed}
use Rattle.wire_spec.specs.Cells.{Lists, cell_record, cell_checks, rest, read_list}
use Rattle.wire_spec.proofs.CellLaws.{front_reads, list-iff}
use Rattle.wire_spec.proofs.ResultLaws.{Passed, accepted-is}
use Rattle.anc_record.specs.declared.header.Header.{Header}
use Rattle.anc_record.specs.Answers.{found_of}
use Rattle.anc_record.specs.Header.{header_of, header_at}
use Rattle.anc_record.proofs.FoundLaws.{passed-found}
use Rattle.streamcheck_spec.specs.declared.place.Scan.{Scan}
use Rattle.streamcheck_spec.specs.Code.{past, past_all, past_list}

-- the cells `left` are those of records; past them from `s` on is `all`
pub record Left (all : Scan) (left : List ℕ) (s : Scan) : Type 0 where
  pub records : List Record
  pub formed : Each (WellFormed rfc8331) records
  pub cells : Lists records left
  pub scan : past_all s records ≡ all

-- before the first record
pub all_left : (s : Scan) (cells : List ℕ) → IsAccepted (read_list cells) → Left (past_list s (read_list cells)) cells s
all_left s cells h =
    let a = accepted-is (read_list cells) h in
    let p = (list-iff cells a.0).0 a.1 in
    record { records = a.0; formed = p.0; cells = p.1; scan = sym (ap (past_list s) a.1) }

-- after the last
pub none_left : (all : Scan) (left : List ℕ) (s : Scan) → Left all left s → length left ≤ 0 → s ≡ all
unfolding past_all
none_left all left s w l = go w.records w.cells w.scan
  where
    go : (rs : List Record) → Lists rs left → past_all s rs ≡ all → s ≡ all
    go [] e f = f
    go (r ∷ rs) e f = absurd (omega (arith, ap length e.3))

-- a record that passes has a header
pub header-there : (l : List ℕ) (x : Refusal) → Passed (cell_checks l) → found_of (header_at l 0) ≡ Err x → ⊥
header-there l x p e =
    let q : Ok (header_of (cell_record l)) ≡ Err x = sym (passed-found l 0 p) ∙ e in
    let o : ◌≡◌ {A = ℕ} 0 1 = cc in
    omega arith

-- and the header that is found is its own
pub header_is : (l : List ℕ) (h : Header) → Passed (cell_checks l) → found_of (header_at l 0) ≡ Ok h → header_of (cell_record l) ≡ h
header_is l h p e = let q : Ok (header_of (cell_record l)) ≡ Ok h = sym (passed-found l 0 p) ∙ e in cc

-- the record at the front, and what is left behind it
pub record Next (all : Scan) (left : List ℕ) (s : Scan) : Type 0 where
  pub passed : Passed (cell_checks left)
  pub then : Left all (rest left) (past s (header_of (cell_record left)).location)

pub next : (all : Scan) (left : List ℕ) (s : Scan) → Left all left s → 0 < length left → Next all left s
unfolding past_all
next all left s w h = go w.records w.formed w.cells w.scan
  where
    go : (rs : List Record) → Each (WellFormed rfc8331) rs → Lists rs left → past_all s rs ≡ all → Next all left s
    go [] f e g = absurd (omega (arith, ap length e))
    go (r ∷ rs) f e g =
        let p = subst (λ (y : List ℕ). Passed (cell_checks y) × (cell_record y ≡ r) × (rest y ≡ e.1)) (sym e.3) (front_reads e.0 r e.1 f.0.fits e.2) in
        record {
          passed = p.0;
          then =
              record { records = rs; formed = f.1; cells = subst (Lists rs) (sym p.2) e.4; scan = ap (λ (q : Record). past_all (past s (header_of q).location) rs) p.1 ∙ g };
        }

-- the same, where the code has the cells and the scan otherwise
pub left-same : (all : Scan) (left left' : List ℕ) (s s' : Scan) → left' ≡ left → s' ≡ s → Left all left s → Left all left' s'
left-same all left left' s s' e d w =
    record { records = w.records; formed = w.formed; cells = subst (Lists w.records) (sym e) w.cells; scan = ap (λ (z : Scan). past_all z w.records) d ∙ w.scan }
