-- Runs that are written read back as the same records, and runs that are read are written as the same octets.
-- Both follow from what a run and a list of cells are accepted for: `run-iff` and `list-iff`.
use mathlib.Core.Bool.{true}
use mathlib.Core.Path.{◌≡◌, refl, ap, sym, ◌∙◌}
use mathlib.Core.List.{List, ◌++◌}
use Prim.Native.Nat.{ℕ, zero-le}
use lib.ListN.{length, take}
use lib.Pow.{pow_pos}
use lib.Seq.{take_at}
use Rattle.wire_spec.specs.Bits.{Below}
use Rattle.wire_spec.specs.Layout.{Layout, f_bits}
use Rattle.wire_spec.specs.Result.{Ok}
use Rattle.wire_spec.specs.Anc.{Each, Record, WellFormed, run_octets, read_run, run_size}
use Rattle.wire_spec.specs.Cells.{list_of, Lists, read_list}
use Rattle.wire_spec.specs.Writing.{layout_ok}
use Rattle.wire_spec.proofs.BitLaws.{below-append}
use Rattle.wire_spec.proofs.LayoutLaws.{layout-iff}
use Rattle.wire_spec.proofs.AncLaws.{run-iff, length_run, below-run}
use Rattle.wire_spec.proofs.CellLaws.{list-iff, lists-own}

module _ (L : Layout) where
  -- WRITTEN, THEN READ: the octets of well-formed records read as those records, and what follows is left
  pub written_read : (rs : List Record) → Each (WellFormed L) rs → (t : List ℕ) → Below 256 t
      → read_run L 0 (length rs) (run_octets L rs ++ t) ≡ Ok (rs, t)
  written_read rs h t b =
      let o = run_octets L rs in
      (run-iff L 0 (length rs) (o ++ t) (below-append 256 o t (below-run L rs) b) rs t).1 (refl, h, refl)

  -- the same over cells: the run of a list that is taken, and that the layout can hold, reads as records whose cells, apart from the ninth, are the list
  pub list-written-read : (l : List ℕ) (rs : List Record) → read_list l ≡ Ok rs → layout_ok L 0 rs ≡ true → (t : List ℕ) → Below 256 t
      → (read_run L 0 (length rs) (run_octets L rs ++ t) ≡ Ok (rs, t)) × Lists rs l
  list-written-read l rs e ok t b =
      let p = (list-iff l rs).0 e in
      (written_read rs ((layout-iff L 0 rs).0 (p.0, zero-le, ok)).0 t b, p.1)

  -- READ, THEN WRITTEN: the records of a run are a list that is taken, and their octets are those that were read
  pub read-written : (n : ℕ) (s : List ℕ) → Below 256 s → (rs : List Record) (rest : List ℕ) → read_run L 0 n s ≡ Ok (rs, rest)
      → (read_list (list_of rs) ≡ Ok rs) × (run_octets L rs ≡ take (run_size L rs) s)
  read-written n s b rs rest e =
      let p = (run-iff L 0 n s b rs rest).0 e in (
        (list-iff (list_of rs) rs).1 (((layout-iff L 0 rs).1 (p.1, pow_pos (f_bits L))).0, lists-own rs),
        sym (ap (take (run_size L rs)) p.2 ∙ take_at (run_octets L rs) rest (run_size L rs) (length_run L rs)),
      )
