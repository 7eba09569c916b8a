-- A list that was taken, by the record at its front: that record, and the list behind it.
-- By what a list is taken for: the cells of well-formed records, each with an index that is taken.
use mathlib.Core.Path.{◌≡◌, ap, sym, ◌∙◌, subst}
use mathlib.Core.List.{List, [], ◌∷◌}
use Prim.Native.Nat.{ℕ, ◌<◌}
use native.Mathlib.Omega.{arith}
use lib.ListN.{length}
use Rattle.wire_spec.specs.Layout.{rfc8331}
use Rattle.wire_spec.specs.Result.{Ok, IsAccepted}
use Rattle.wire_spec.specs.Anc.{Each, Record, WellFormed}
use Rattle.wire_spec.specs.Cells.{Lists, cell_record, cell_checks, rest, read_list}
use Rattle.wire_spec.proofs.CellLaws.{front_reads, list-iff}
use Rattle.wire_spec.proofs.ResultLaws.{Passed, accepted-is}
use Rattle.anc_record.proofs.FrontLaws.{Lies, lies}
use Rattle.anc_writer.specs.Answers.{list_records}

pub record Front (l : List ℕ) : Type 0 where
  pub formed : WellFormed rfc8331 (cell_record l)
  pub lies : Lies l
  pub behind : IsAccepted (read_list (rest l))
  pub records : list_records (read_list l) ≡ cell_record l ∷ list_records (read_list (rest l))

pub front : (l : List ℕ) → IsAccepted (read_list l) → 0 < length l → Front l
front l h some = let a = accepted-is (read_list l) h in let p = (list-iff l a.0).0 a.1 in go a.0 a.1 p.0 p.1
  where
    go : (rs : List Record) → read_list l ≡ Ok rs → Each (WellFormed rfc8331) rs → Lists rs l → Front l
    go [] e f c = absurd (omega (arith, ap length c))
    go (r ∷ rs) e f c =
        let t = c.1 in
        let p = subst (λ (y : List ℕ). Passed (cell_checks y) × (cell_record y ≡ r) × (rest y ≡ t)) (sym c.3) (front_reads c.0 r t f.0.fits c.2) in
        let b : read_list (rest l) ≡ Ok rs = (list-iff (rest l) rs).1 (f.1, subst (Lists rs) (sym p.2) c.4) in
        record {
          formed = subst (WellFormed rfc8331) (sym p.1) f.0;
          lies = lies l p.0;
          behind = subst IsAccepted (sym b) tt;
          records = ap list_records e ∙ λ i. sym p.1 i ∷ list_records (sym b i);
        }
