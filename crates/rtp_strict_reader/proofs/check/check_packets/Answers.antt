-- `check_packets` tells what a packet says and where its ANC data packets stand, or gives their refusal or 13.
-- By what the stages before it found: the run stands where they say.
use Rattle.wire_spec.specs.Result.{Ok}
use mathlib.Core.Path.{◌≡◌, refl, ap, ap₂, sym, ◌∙◌}
use mathlib.Core.List.{List}
use Prim.Native.Nat.{ℕ, ◌+◌, ◌-◌, ◌<◌, ◌≤◌}
use native.Mathlib.Omega.{arith}
use lib.ListN.{length, take, drop, get_or}
use Rattle.wire_spec.specs.Anc.{read_run}
use Rattle.wire_spec.specs.Packet.{length_field, anc_count, run_at}
use Rattle.wire_spec.proofs.LayoutLaws.{places}
use Rattle.wire_spec.proofs.Window.{below_all}
use Rattle.anc_reader.specs.Answers.{run_of}
use Rattle.rtp_strict_reader.specs.Answers.{checked_of}
use Rattle.rtp_strict_reader.proofs.HeaderFields.{count_at}
use Rattle.rtp_strict_reader.proofs.StageLaws.{Front, front, refused-run, refused-left, accepted-run}
use Rattle.std.proofs.lemmas.Result.{err_from_is_err_and}
use Rattle.rtp_strict_reader.proofs.check.check_packets.Goals as goal

pub overflow_add-at : goal.overflow_add-at
overflow_add-at c = let found : Front c.args.layout c.args.octets.now c.args.header.0 c.args.size.0 = front c.args.layout _ _ _ c.requires in
    let within : c.args.header.0 + c.payload_header_size.result + c.args.size.0 ≤ length c.args.octets.now = omega (arith, (found).whole, c.payload_header_size.ensures) in
    omega (arith, within)

pub overflow_add-end : goal.overflow_add-end
overflow_add-end c = let found : Front c.args.layout c.args.octets.now c.args.header.0 c.args.size.0 = front c.args.layout _ _ _ c.requires in
    let within : c.args.header.0 + c.payload_header_size.result + c.args.size.0 ≤ length c.args.octets.now = omega (arith, (found).whole, c.payload_header_size.ensures) in
    omega (arith, within)

pub overflow_add-count : goal.overflow_add-count
overflow_add-count c = let found : Front c.args.layout c.args.octets.now c.args.header.0 c.args.size.0 = front c.args.layout _ _ _ c.requires in
    let least : c.args.header.0 + 5 ≤ length c.args.octets.now = omega (arith, (found).whole, (places c.args.layout).payload-least) in
    omega (arith, least)

pub bounds-octets-from : goal.bounds-octets-from
bounds-octets-from c = let found : Front c.args.layout c.args.octets.now c.args.header.0 c.args.size.0 = front c.args.layout _ _ _ c.requires in
    let least : c.args.header.0 + 5 ≤ length c.args.octets.now = omega (arith, (found).whole, (places c.args.layout).payload-least) in
    omega (arith, least)

pub slice_bounds-check_run-end : goal.slice_bounds-check_run-end
slice_bounds-check_run-end c = let found : Front c.args.layout c.args.octets.now c.args.header.0 c.args.size.0 = front c.args.layout _ _ _ c.requires in
    let within : c.args.header.0 + c.payload_header_size.result + c.args.size.0 ≤ length c.args.octets.now = omega (arith, (found).whole, c.payload_header_size.ensures) in
    omega (arith, within)

pub overflow_cast-count : goal.overflow_cast-count
overflow_cast-count c = let octet : (j : ℕ) → get_or c.args.octets.now j 0 < 256 = λ j. (c.shared_slice_known-1.given j).fits in
    omega (arith, octet (c.args.header.0 + 4))

pub returns-in_err-run : goal.returns-in_err-run
returns-in_err-run c = let found : Front c.args.layout c.args.octets.now c.args.header.0 c.args.size.0 = front c.args.layout _ _ _ c.requires in
    let octet : (j : ℕ) → get_or c.args.octets.now j 0 < 256 = λ j. (c.shared_slice_known-1.given j).fits in
    let least : c.args.header.0 + 5 ≤ length c.args.octets.now = omega (arith, (found).whole, (places c.args.layout).payload-least) in
    let counted : anc_count c.args.octets.now ≡ get_or c.args.octets.now (c.args.header.0 + 4) 0 = count_at c.args.octets.now (octet) c.args.header.0 (sym (found).header) (least) in
    let ran : let L = c.args.layout in let s = c.args.octets.now in run_of L (read_run L 0 (anc_count s) (take (length_field s) (drop (run_at L s) s))) ≡ c.check_run.result = let L = c.args.layout in
    let s = c.args.octets.now in
    let n = c.args.header.0 in
    let m = c.args.size.0 in
    let z = c.payload_header_size.result in
    let f = found in
    let e1 : length_field s ≡ n + z + m - (n + z) = omega (arith, f.length) in
    let e2 : run_at L s ≡ n + z = omega (arith, f.header, c.payload_header_size.ensures) in
    ap₂ (λ (x : ℕ) (y : List ℕ). run_of L (read_run L 0 x y)) (counted) (ap₂ (λ (x y : ℕ). take x (drop y s)) e1 e2)
    ∙ sym c.check_run.ensures in
    let f = found in
    let p = err_from_is_err_and c.from_residual.result c.from_residual.ensures.1 in
    rw (p.1, p.2, refused-run c.args.layout c.args.octets.now f.header-passed f.padding-passed f.payload-passed _ (ran ∙ c.in_err-run.was)) refl

pub returns-then-run-size : goal.returns-then-run-size
returns-then-run-size c = let found : Front c.args.layout c.args.octets.now c.args.header.0 c.args.size.0 = front c.args.layout _ _ _ c.requires in
    let octet : (j : ℕ) → get_or c.args.octets.now j 0 < 256 = λ j. (c.shared_slice_known-1.given j).fits in
    let least : c.args.header.0 + 5 ≤ length c.args.octets.now = omega (arith, (found).whole, (places c.args.layout).payload-least) in
    let counted : anc_count c.args.octets.now ≡ get_or c.args.octets.now (c.args.header.0 + 4) 0 = count_at c.args.octets.now (octet) c.args.header.0 (sym (found).header) (least) in
    let ran : let L = c.args.layout in let s = c.args.octets.now in run_of L (read_run L 0 (anc_count s) (take (length_field s) (drop (run_at L s) s))) ≡ c.check_run.result = let L = c.args.layout in
    let s = c.args.octets.now in
    let n = c.args.header.0 in
    let m = c.args.size.0 in
    let z = c.payload_header_size.result in
    let f = found in
    let e1 : length_field s ≡ n + z + m - (n + z) = omega (arith, f.length) in
    let e2 : run_at L s ≡ n + z = omega (arith, f.header, c.payload_header_size.ensures) in
    ap₂ (λ (x : ℕ) (y : List ℕ). run_of L (read_run L 0 x y)) (counted) (ap₂ (λ (x y : ℕ). take x (drop y s)) e1 e2)
    ∙ sym c.check_run.ensures in
    let L = c.args.layout in
    let s = c.args.octets.now in
    let f = found in
    let l = f.length in
    c.refuse.ensures ∙ sym
    (ap (checked_of L s)
    (refused-left L s f.header-passed f.padding-passed f.payload-passed (below_all s (octet)) _ _ (ran ∙ c.in_ok-run.was) (omega (arith, c.if-run-size.true))))

pub overflow_cast-result : goal.overflow_cast-result
overflow_cast-result c = let octet : (j : ℕ) → get_or c.args.octets.now j 0 < 256 = λ j. (c.shared_slice_known-1.given j).fits in
    omega (arith, octet (c.args.header.0 + 4))

pub returns : goal.returns
returns c = let found : Front c.args.layout c.args.octets.now c.args.header.0 c.args.size.0 = front c.args.layout _ _ _ c.requires in
    let octet : (j : ℕ) → get_or c.args.octets.now j 0 < 256 = λ j. (c.shared_slice_known-1.given j).fits in
    let least : c.args.header.0 + 5 ≤ length c.args.octets.now = omega (arith, (found).whole, (places c.args.layout).payload-least) in
    let counted : anc_count c.args.octets.now ≡ get_or c.args.octets.now (c.args.header.0 + 4) 0 = count_at c.args.octets.now (octet) c.args.header.0 (sym (found).header) (least) in
    let ran : let L = c.args.layout in let s = c.args.octets.now in run_of L (read_run L 0 (anc_count s) (take (length_field s) (drop (run_at L s) s))) ≡ c.check_run.result = let L = c.args.layout in
    let s = c.args.octets.now in
    let n = c.args.header.0 in
    let m = c.args.size.0 in
    let z = c.payload_header_size.result in
    let f = found in
    let e1 : length_field s ≡ n + z + m - (n + z) = omega (arith, f.length) in
    let e2 : run_at L s ≡ n + z = omega (arith, f.header, c.payload_header_size.ensures) in
    ap₂ (λ (x : ℕ) (y : List ℕ). run_of L (read_run L 0 x y)) (counted) (ap₂ (λ (x y : ℕ). take x (drop y s)) e1 e2)
    ∙ sym c.check_run.ensures in
    let L = c.args.layout in
    let s = c.args.octets.now in
    let f = found in
    let l = f.length in
    sym
    (accepted-run L s f.header-passed f.padding-passed f.payload-passed (below_all s (octet)) _ _ (ran ∙ c.in_ok-run.was) (omega (arith, c.if-run-size.false))
    ∙ λ i. Ok (record { header = record { 0 = f.header i }; length = record { 0 = l i }; records = counted i; cells = c.in_ok-run.run'.cells }))
