-- The records of a field that is written are the list's, within the limits.
-- By the writer's checks, all of which they passed.
use mathlib.Core.Path.{◌≡◌}
use mathlib.Core.Bool.{true}
use mathlib.Core.List.{List, [], ◌∷◌}
use Prim.Native.Nat.{ℕ, ◌*◌, ◌≤◌}
use native.Mathlib.Omega.{arith}
use borrow.Author.Tests.{leb-true}
use lib.Dec.{leb}
use lib.ListN.{length}
use Rattle.wire_spec.specs.Layout.{rfc8331}
use Rattle.wire_spec.specs.Result.{Ok}
use Rattle.wire_spec.specs.Anc.{Record, run_size}
use Rattle.wire_spec.specs.Cells.{read_list}
use Rattle.wire_spec.specs.Writing.{max_field_records, max_field_cells}
use Rattle.wire_spec.proofs.ResultLaws.{and-true}
use Rattle.wire_spec.proofs.AncLaws.{length_run}
use Rattle.wire_spec.proofs.CellLaws.{list-iff, lists_length}
use Rattle.wire_spec.proofs.WritingLaws.{passes}
use Rattle.wire_spec.proofs.Demand2.{run-cells}
use Rattle.fieldfile_spec.specs.File.{written_version, field_size, file_f_ok, room_checks, field_records}

-- a field within its limits is small
pub small : (cells : List ℕ) (rs : List Record) → read_list cells ≡ Ok rs → length cells ≤ max_field_cells → 2 * run_size rfc8331 rs ≤ 3 * max_field_cells
small cells rs e l =
    omega (arith, run-cells rfc8331 rs, length_run rfc8331 rs, lists_length rs cells ((list-iff cells rs).0 e).1)

pub record Writes (f : ℕ) (cells : List ℕ) (room : ℕ) (rs : List Record) : Type 0 where
  pub f-ok : file_f_ok f ≡ true
  pub reads : read_list cells ≡ Ok rs
  pub few : length rs ≤ max_field_records
  pub short : length cells ≤ max_field_cells
  pub enough : field_size written_version rs ≤ room

pub writes : (f : ℕ) (cells : List ℕ) (room : ℕ) (rs : List Record) → field_records f cells room ≡ Ok rs → Writes f cells room rs
writes f cells room rs e =
    let p = passes ((file_f_ok f, 53) ∷ []) (λ rs. room_checks rs (length cells) room) cells rs e in
    let l = p.limits-passed in
    let w = and-true (leb (length rs) max_field_records) (leb (length cells) max_field_cells) l.0 in
    record {
      f-ok = p.head_passed.0;
      reads = p.reads;
      few = leb-true (length rs) max_field_records w.0;
      short = leb-true (length cells) max_field_cells w.1;
      enough = leb-true (field_size written_version rs) room l.1.0;
    }
