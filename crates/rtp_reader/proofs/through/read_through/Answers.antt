-- `read_through` reads the records that come through into the lent cells, or gives the refusal and leaves them.
-- By what the check found, and 14 last.
use mathlib.Core.Path.{◌≡◌, ap, ap₂, sym, subst, ◌∙◌}
use mathlib.Core.List.{List}
use Prim.Native.Nat.{ℕ, ◌+◌, ◌-◌}
use native.Mathlib.Omega.{arith}
use lib.ListN.{length, take, drop}
use Rattle.wire_spec.specs.Bits.{overwrite}
use Rattle.wire_spec.specs.Result.{Result, IsAccepted}
use Rattle.wire_spec.specs.Packet.{length_field, anc_count, run_at, payload_at}
use Rattle.wire_spec.proofs.BitLaws.{bits_at-lt}
use Rattle.anc_tolerant_spec.specs.Tolerant.{Taken, Tolerated, tolerate_run}
use Rattle.anc_tolerant_reader.specs.Answers.{taken_cells}
use Rattle.rtp_reader.specs.Answers.{tolerant_of, through_after}
use Rattle.rtp_reader.specs.declared.through.Region.{Region}
use Rattle.rtp_reader.proofs.RegionLaws.{run, inside, region-cut, Outlined, outlined}
use Rattle.rtp_reader.proofs.ReadLaws.{into-refused, into-short, into-fits}
use Rattle.std.proofs.lemmas.Result.{err_from_is_err_and}
use Rattle.rtp_reader.proofs.through.read_through.Goals as goal

pub check_tolerant-requires : goal.check_tolerant-requires
check_tolerant-requires c = c.requires

pub returns-in_err-read : goal.returns-in_err-read
returns-in_err-read c = let a = c.args in
    let e = into-refused a.layout a.octets.now (length a.cells.now) _ (sym c.check_tolerant.ensures ∙ c.in_err-read.was) in
    let p = err_from_is_err_and c.from_residual.result c.from_residual.ensures.1 in
    record { value = rw (p.1, p.2) (ap tolerant_of (sym e)); cells_after = ap (λ (r : Result Tolerated). through_after r a.cells.now) (sym e) }

pub returns-then-cells-read : goal.returns-then-cells-read
returns-then-cells-read c = let a = c.args in
    let e = into-short a.layout a.octets.now (length a.cells.now) _ _ (sym c.check_tolerant.ensures ∙ c.in_ok-read.was) c.if-cells-read.true in
    record { value = c.refuse.ensures ∙ ap tolerant_of (sym e); cells_after = ap (λ (r : Result Tolerated). through_after r a.cells.now) (sym e) }

pub region_of-region-requires : goal.region_of-region-requires
region_of-region-requires c = c.requires

pub slice_bounds-read_run-count : goal.slice_bounds-read_run-count
slice_bounds-read_run-count c = let at-is : c.region_of-region.result.at ≡ run_at c.args.layout c.args.octets.now = ap (λ (x : Region). x.at) c.region_of-region.ensures in
    let end_is : c.region_of-region.result.end ≡ run_at c.args.layout c.args.octets.now + length_field c.args.octets.now = ap (λ (x : Region). x.end) c.region_of-region.ensures in
    omega (arith, at-is, end_is)

pub slice_bounds-read_run-start : goal.slice_bounds-read_run-start
slice_bounds-read_run-start c = let at-is : c.region_of-region.result.at ≡ run_at c.args.layout c.args.octets.now = ap (λ (x : Region). x.at) c.region_of-region.ensures in
    let end_is : c.region_of-region.result.end ≡ run_at c.args.layout c.args.octets.now + length_field c.args.octets.now = ap (λ (x : Region). x.end) c.region_of-region.ensures in
    omega (arith, at-is, end_is)

pub slice_bounds-read_run-end : goal.slice_bounds-read_run-end
slice_bounds-read_run-end c = let end_is : c.region_of-region.result.end ≡ run_at c.args.layout c.args.octets.now + length_field c.args.octets.now = ap (λ (x : Region). x.end) c.region_of-region.ensures in
    omega (arith, end_is, (inside c.args.layout c.args.octets.now c.requires).whole)

pub overflow_cast-region : goal.overflow_cast-region
overflow_cast-region c = let count-is : c.region_of-region.result.count ≡ anc_count c.args.octets.now = ap (λ (x : Region). x.count) c.region_of-region.ensures in
    omega (arith, count-is, bits_at-lt c.args.octets.now (payload_at c.args.octets.now + 16 + 16) 8)

pub read_run-requires : goal.read_run-requires
read_run-requires c = let at-is : c.region_of-region.result.at ≡ run_at c.args.layout c.args.octets.now = ap (λ (x : Region). x.at) c.region_of-region.ensures in
    let end_is : c.region_of-region.result.end ≡ run_at c.args.layout c.args.octets.now + length_field c.args.octets.now = ap (λ (x : Region). x.end) c.region_of-region.ensures in
    let count-is : c.region_of-region.result.count ≡ anc_count c.args.octets.now = ap (λ (x : Region). x.count) c.region_of-region.ensures in
    let same : tolerate_run c.args.layout 0 c.region_of-region.result.count (take (c.region_of-region.result.end - c.region_of-region.result.at) (drop c.region_of-region.result.at c.args.octets.now)) ≡ run c.args.layout c.args.octets.now = ap₂ (λ (x : ℕ) (y : List ℕ). tolerate_run c.args.layout 0 x y) (count-is) (region-cut c.args.layout c.args.octets.now _ _ (at-is) (end_is)) in
    let found : Outlined c.args.layout c.args.octets.now c.requires c.in_ok-read.read.summary c.in_ok-read.read.omitted (sym c.check_tolerant.ensures ∙ c.in_ok-read.was) = outlined c.args.layout c.args.octets.now c.requires _ _ (sym c.check_tolerant.ensures ∙ c.in_ok-read.was) in
    record { accepted = subst IsAccepted (sym (same)) (found).accepts; octets_in_bounds = omega (arith, ap (λ (r : Result Taken). length (taken_cells r)) (same), (found).size, c.if-cells-read.false) }

pub returns : goal.returns
returns c = let at-is : c.region_of-region.result.at ≡ run_at c.args.layout c.args.octets.now = ap (λ (x : Region). x.at) c.region_of-region.ensures in
    let end_is : c.region_of-region.result.end ≡ run_at c.args.layout c.args.octets.now + length_field c.args.octets.now = ap (λ (x : Region). x.end) c.region_of-region.ensures in
    let count-is : c.region_of-region.result.count ≡ anc_count c.args.octets.now = ap (λ (x : Region). x.count) c.region_of-region.ensures in
    let same : tolerate_run c.args.layout 0 c.region_of-region.result.count (take (c.region_of-region.result.end - c.region_of-region.result.at) (drop c.region_of-region.result.at c.args.octets.now)) ≡ run c.args.layout c.args.octets.now = ap₂ (λ (x : ℕ) (y : List ℕ). tolerate_run c.args.layout 0 x y) (count-is) (region-cut c.args.layout c.args.octets.now _ _ (at-is) (end_is)) in
    let found : Outlined c.args.layout c.args.octets.now c.requires c.in_ok-read.read.summary c.in_ok-read.read.omitted (sym c.check_tolerant.ensures ∙ c.in_ok-read.was) = outlined c.args.layout c.args.octets.now c.requires _ _ (sym c.check_tolerant.ensures ∙ c.in_ok-read.was) in
    let a = c.args in
    let h = sym c.check_tolerant.ensures ∙ c.in_ok-read.was in
    let e = into-fits a.layout a.octets.now (length a.cells.now) _ _ h c.if-cells-read.false in record {
      value = sym h ∙ ap tolerant_of (sym e);
      cells_after = c.read_run.ensures
          ∙ ap (λ (r : Result Taken). overwrite (taken_cells r) a.cells.now) (same)
          ∙ (found).after a.cells.now
          ∙ ap (λ (r : Result Tolerated). through_after r a.cells.now) (sym e);
    }
