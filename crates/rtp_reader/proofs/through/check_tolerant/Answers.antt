-- `check_tolerant` tells what a packet says of which some records may be left out, or gives the refusal of its ANC data packets or 13.
-- By what their run is.
use Rattle.wire_spec.specs.Result.{Ok}
use mathlib.Core.Path.{refl, ◌≡◌, ap, ap₂, sym, ◌∙◌}
use mathlib.Core.List.{List}
use Prim.Native.Nat.{ℕ, ◌+◌, ◌-◌, ◌<◌, ◌≤◌}
use native.Mathlib.Omega.{arith}
use Rattle.wire_spec.specs.Packet.{header_size, length_field, anc_count, run_at, payload_at}
use Rattle.wire_spec.proofs.BitLaws.{bits_at-lt}
use Rattle.anc_tolerant_spec.specs.Tolerant.{tolerate_run}
use Rattle.anc_tolerant_reader.specs.Answers.{tolerant_run_of}
use Rattle.rtp_reader.specs.Answers.{tolerant_of}
use Rattle.rtp_reader.specs.declared.through.Region.{Region}
use Rattle.rtp_reader.proofs.RegionLaws.{run, inside, region-cut, refused-run, omitted-few, refused-left, accepted-run}
use Rattle.std.proofs.lemmas.Result.{err_from_is_err_and}
use Rattle.rtp_reader.proofs.through.check_tolerant.Goals as goal

pub region_of-region-requires : goal.region_of-region-requires
region_of-region-requires c = c.requires

pub slice_bounds-check_run-count : goal.slice_bounds-check_run-count
slice_bounds-check_run-count c = let at-is : c.region_of-region.result.at ≡ run_at c.args.layout c.args.octets.now = ap (λ (x : Region). x.at) c.region_of-region.ensures in
    let end_is : c.region_of-region.result.end ≡ run_at c.args.layout c.args.octets.now + length_field c.args.octets.now = ap (λ (x : Region). x.end) c.region_of-region.ensures in
    omega (arith, at-is, end_is)

pub slice_bounds-check_run-start : goal.slice_bounds-check_run-start
slice_bounds-check_run-start c = let at-is : c.region_of-region.result.at ≡ run_at c.args.layout c.args.octets.now = ap (λ (x : Region). x.at) c.region_of-region.ensures in
    let end_is : c.region_of-region.result.end ≡ run_at c.args.layout c.args.octets.now + length_field c.args.octets.now = ap (λ (x : Region). x.end) c.region_of-region.ensures in
    omega (arith, at-is, end_is)

pub slice_bounds-check_run-end : goal.slice_bounds-check_run-end
slice_bounds-check_run-end c = let end_is : c.region_of-region.result.end ≡ run_at c.args.layout c.args.octets.now + length_field c.args.octets.now = ap (λ (x : Region). x.end) c.region_of-region.ensures in
    omega (arith, end_is, (inside c.args.layout c.args.octets.now c.requires).whole)

pub overflow_cast-count : goal.overflow_cast-count
overflow_cast-count c = let count-is : c.region_of-region.result.count ≡ anc_count c.args.octets.now = ap (λ (x : Region). x.count) c.region_of-region.ensures in
    let count_small : anc_count c.args.octets.now < 256 = bits_at-lt c.args.octets.now (payload_at c.args.octets.now + 16 + 16) 8 in
    omega (arith, count-is, count_small)

pub returns-in_err-run : goal.returns-in_err-run
returns-in_err-run c = let at-is : c.region_of-region.result.at ≡ run_at c.args.layout c.args.octets.now = ap (λ (x : Region). x.at) c.region_of-region.ensures in
    let end_is : c.region_of-region.result.end ≡ run_at c.args.layout c.args.octets.now + length_field c.args.octets.now = ap (λ (x : Region). x.end) c.region_of-region.ensures in
    let count-is : c.region_of-region.result.count ≡ anc_count c.args.octets.now = ap (λ (x : Region). x.count) c.region_of-region.ensures in
    let ran : tolerant_run_of (run c.args.layout c.args.octets.now) ≡ c.check_run.result = let L = c.args.layout in
    let s = c.args.octets.now in
    ap₂ (λ (x : ℕ) (y : List ℕ). tolerant_run_of (tolerate_run L 0 x y)) (sym (count-is)) (sym (region-cut L s _ _ (at-is) (end_is)))
    ∙ sym c.check_run.ensures in
    let p = err_from_is_err_and c.from_residual.result c.from_residual.ensures.1 in
    rw (p.1, p.2, refused-run c.args.layout c.args.octets.now c.requires _ (ran ∙ c.in_err-run.was)) refl

pub returns-then-run-ne0 : goal.returns-then-run-ne0
returns-then-run-ne0 c = let at-is : c.region_of-region.result.at ≡ run_at c.args.layout c.args.octets.now = ap (λ (x : Region). x.at) c.region_of-region.ensures in
    let end_is : c.region_of-region.result.end ≡ run_at c.args.layout c.args.octets.now + length_field c.args.octets.now = ap (λ (x : Region). x.end) c.region_of-region.ensures in
    let count-is : c.region_of-region.result.count ≡ anc_count c.args.octets.now = ap (λ (x : Region). x.count) c.region_of-region.ensures in
    let ran : tolerant_run_of (run c.args.layout c.args.octets.now) ≡ c.check_run.result = let L = c.args.layout in
    let s = c.args.octets.now in
    ap₂ (λ (x : ℕ) (y : List ℕ). tolerant_run_of (tolerate_run L 0 x y)) (sym (count-is)) (sym (region-cut L s _ _ (at-is) (end_is)))
    ∙ sym c.check_run.ensures in
    c.refuse.ensures ∙ sym (ap tolerant_of (refused-left c.args.layout c.args.octets.now c.requires _ _ (ran ∙ c.in_ok-run.was) c.if-run-ne0.true))

pub overflow_cast-omitted : goal.overflow_cast-omitted
overflow_cast-omitted c = let at-is : c.region_of-region.result.at ≡ run_at c.args.layout c.args.octets.now = ap (λ (x : Region). x.at) c.region_of-region.ensures in
    let end_is : c.region_of-region.result.end ≡ run_at c.args.layout c.args.octets.now + length_field c.args.octets.now = ap (λ (x : Region). x.end) c.region_of-region.ensures in
    let count-is : c.region_of-region.result.count ≡ anc_count c.args.octets.now = ap (λ (x : Region). x.count) c.region_of-region.ensures in
    let count_small : anc_count c.args.octets.now < 256 = bits_at-lt c.args.octets.now (payload_at c.args.octets.now + 16 + 16) 8 in
    let ran : tolerant_run_of (run c.args.layout c.args.octets.now) ≡ c.check_run.result = let L = c.args.layout in
    let s = c.args.octets.now in
    ap₂ (λ (x : ℕ) (y : List ℕ). tolerant_run_of (tolerate_run L 0 x y)) (sym (count-is)) (sym (region-cut L s _ _ (at-is) (end_is)))
    ∙ sym c.check_run.ensures in
    let few : c.in_ok-run.run'.tally.omitted ≤ anc_count c.args.octets.now = omitted-few c.args.layout c.args.octets.now c.requires _ _ (ran ∙ c.in_ok-run.was) in
    omega (arith, few, count_small)

pub head_at-head-requires : goal.head_at-head-requires
head_at-head-requires c = let h : c.region_of-region.result.header.0 ≡ header_size c.args.octets.now = ap (λ (x : Region). x.header.0) c.region_of-region.ensures in
    (h, omega arith, omega (arith, (inside c.args.layout c.args.octets.now c.requires).whole))

pub overflow_sub-summary : goal.overflow_sub-summary
overflow_sub-summary c = let at-is : c.region_of-region.result.at ≡ run_at c.args.layout c.args.octets.now = ap (λ (x : Region). x.at) c.region_of-region.ensures in
    let end_is : c.region_of-region.result.end ≡ run_at c.args.layout c.args.octets.now + length_field c.args.octets.now = ap (λ (x : Region). x.end) c.region_of-region.ensures in
    let count-is : c.region_of-region.result.count ≡ anc_count c.args.octets.now = ap (λ (x : Region). x.count) c.region_of-region.ensures in
    let ran : tolerant_run_of (run c.args.layout c.args.octets.now) ≡ c.check_run.result = let L = c.args.layout in
    let s = c.args.octets.now in
    ap₂ (λ (x : ℕ) (y : List ℕ). tolerant_run_of (tolerate_run L 0 x y)) (sym (count-is)) (sym (region-cut L s _ _ (at-is) (end_is)))
    ∙ sym c.check_run.ensures in
    let few : c.in_ok-run.run'.tally.omitted ≤ anc_count c.args.octets.now = omitted-few c.args.layout c.args.octets.now c.requires _ _ (ran ∙ c.in_ok-run.was) in
    omega (arith, few, count-is)

pub returns : goal.returns
returns c = let at-is : c.region_of-region.result.at ≡ run_at c.args.layout c.args.octets.now = ap (λ (x : Region). x.at) c.region_of-region.ensures in
    let end_is : c.region_of-region.result.end ≡ run_at c.args.layout c.args.octets.now + length_field c.args.octets.now = ap (λ (x : Region). x.end) c.region_of-region.ensures in
    let count-is : c.region_of-region.result.count ≡ anc_count c.args.octets.now = ap (λ (x : Region). x.count) c.region_of-region.ensures in
    let ran : tolerant_run_of (run c.args.layout c.args.octets.now) ≡ c.check_run.result = let L = c.args.layout in
    let s = c.args.octets.now in
    ap₂ (λ (x : ℕ) (y : List ℕ). tolerant_run_of (tolerate_run L 0 x y)) (sym (count-is)) (sym (region-cut L s _ _ (at-is) (end_is)))
    ∙ sym c.check_run.ensures in
    let t = c.in_ok-run.run'.tally in
    (λ i. Ok (record { summary = record { head = c.head_at-head.ensures i; records = count-is i - t.omitted; cells = t.cells }; omitted = t.omitted }))
    ∙ sym (accepted-run c.args.layout c.args.octets.now c.requires _ _ (ran ∙ c.in_ok-run.was) c.if-run-ne0.false)
