use mathlib.Core.Path.{◌≡◌, ap, sym, ◌∙◌, subst}
use mathlib.Core.Bool.{Bool, true}
use mathlib.Core.List.{List}
use Prim.Native.Nat.{ℕ, ◌+◌, ◌-◌, ◌≤◌}
use native.Mathlib.Nat.{zero-add}
use native.Mathlib.Omega.{arith}
use lib.ListN.{length, take, drop, length-drop}
use Rattle.std.proofs.lemmas.Result.{err_from_is_err_and}
use Rattle.wire_spec.specs.Result.{Result, Ok}
use Rattle.sdi_spec.specs.declared.position.Position.{Position}
use Rattle.sdi_spec.specs.Packets.{has_flag, packets_from, packets_in}
use Rattle.sdi_spec.specs.Passes.{found_of, verdict_of}
use Rattle.wire_spec.proofs.ListLaws.{part-all}
use Rattle.sdi_spec.proofs.WalkLaws.{tally, tally-none, tally-ends, tally-refused, tally-next, Taken, taken, flag-long}
use Rattle.sdi_check.proofs.check.check_packets.Goals as goal

-- the words behind the flag at the front of `s` were taken as a packet
here : (i n : ℕ) (flagged : Bool) (s : List ℕ) (v : Result ℕ) → flagged ≡ has_flag s → flagged ≡ true
    → v ≡ verdict_of i (take (length s - 3) (drop 3 s)) → v ≡ Ok n → Taken s n
here i n flagged s v f t e w = taken i n s (sym f ∙ t) (sym (e ∙ ap (verdict_of i) (part-all 3 s)) ∙ w)

-- a flag has three words
flag-fits : (flagged : Bool) (s : List ℕ) → flagged ≡ has_flag s → flagged ≡ true → 3 ≤ length s
flag-fits flagged s f t = flag-long s (sym f ∙ t)

pub loop-rest-init : goal.loop-rest-init
loop-rest-init c = (omega arith, zero-add _, λ P. tally-none (packets_in P c.args.words.now))

pub slice_bounds-check_packet-count : goal.slice_bounds-check_packet-count
slice_bounds-check_packet-count c = flag-fits _ c.loop-rest.rest.now c.has_flag.ensures c.loop-rest-test.true

pub slice_bounds-check_packet-start : goal.slice_bounds-check_packet-start
slice_bounds-check_packet-start c = flag-fits _ c.loop-rest.rest.now c.has_flag.ensures c.loop-rest-test.true

pub returns-in_err-n : goal.returns-in_err-n
returns-in_err-n c P =
    let l = c.loop-rest in
    let flagged : has_flag l.rest.now ≡ true = sym c.has_flag.ensures ∙ c.loop-rest-test.true in
    let verdict = c.check_packet.ensures ∙ ap (verdict_of l.count) (part-all 3 l.rest.now) in
    let p = err_from_is_err_and c.from_residual.result c.from_residual.ensures.1 in
    rw (p.1, p.2)
    (sym (tally-refused P l.count l.used l.rest.now flagged _ (sym verdict ∙ c.in_err-n.was)) ∙ l.invariant.2 P)

pub overflow_add-step : goal.overflow_add-step
overflow_add-step c =
    let l = c.loop-rest in
    let t = here l.count _ _ l.rest.now _ c.has_flag.ensures c.loop-rest-test.true c.check_packet.ensures c.in_ok-n.was in
    omega (arith, t.fits)

pub offset_bounds-rest-step : goal.offset_bounds-rest-step
offset_bounds-rest-step c =
    let l = c.loop-rest in
    let t = here l.count _ _ l.rest.now _ c.has_flag.ensures c.loop-rest-test.true c.check_packet.ensures c.in_ok-n.was in
    omega (arith, t.fits)

pub slice_bounds-rest-count : goal.slice_bounds-rest-count
slice_bounds-rest-count c =
    let l = c.loop-rest in
    let t = here l.count _ _ l.rest.now _ c.has_flag.ensures c.loop-rest-test.true c.check_packet.ensures c.in_ok-n.was in
    omega (arith, t.fits)

pub slice_bounds-rest-start : goal.slice_bounds-rest-start
slice_bounds-rest-start c =
    let l = c.loop-rest in
    let t = here l.count _ _ l.rest.now _ c.has_flag.ensures c.loop-rest-test.true c.check_packet.ensures c.in_ok-n.was in
    omega (arith, t.fits)

pub overflow_add-used : goal.overflow_add-used
overflow_add-used c =
    let l = c.loop-rest in
    let t = here l.count _ _ l.rest.now _ c.has_flag.ensures c.loop-rest-test.true c.check_packet.ensures c.in_ok-n.was in
    omega (arith, t.fits)

pub overflow_add-count : goal.overflow_add-count
overflow_add-count c =
    let l = c.loop-rest in
    let t = here l.count _ _ l.rest.now _ c.has_flag.ensures c.loop-rest-test.true c.check_packet.ensures c.in_ok-n.was in
    omega (arith, t.fits)

pub loop-rest-smaller : goal.loop-rest-smaller
loop-rest-smaller c =
    let l = c.loop-rest in
    let t = here l.count _ _ l.rest.now _ c.has_flag.ensures c.loop-rest-test.true c.check_packet.ensures c.in_ok-n.was in
    let k = 7 + c.in_ok-n.n in
    rw (part-all k l.rest.now, length-drop k l.rest.now) (omega (arith, t.fits))

pub loop-rest-preserved : goal.loop-rest-preserved
loop-rest-preserved c =
    let l = c.loop-rest in
    let r = l.rest.now in
    let n = c.in_ok-n.n in
    let words = c.args.words.now in
    let flagged : has_flag r ≡ true = sym c.has_flag.ensures ∙ c.loop-rest-test.true in
    let t = here l.count _ _ r _ c.has_flag.ensures c.loop-rest-test.true c.check_packet.ensures c.in_ok-n.was in
    subst (λ (x : List ℕ). (((l.count + 1) ≤ (l.used + (7 + n))) × ((l.used + (7 + n)) + length x ≡ length words)
    × ((P : Position) → tally (l.count + 1) (l.used + (7 + n)) (packets_from (length x) P (l.count + 1) x) ≡ found_of (packets_in P words))))
    (sym (part-all (7 + n) r)) (
      omega arith,
      omega (arith, length-drop (7 + n) r, t.fits),
      λ P. sym (tally-next P l.count l.used n r flagged t) ∙ l.invariant.2 P,
    )

pub returns : goal.returns
returns c P = let l = c.loop-rest in
    sym (tally-ends P l.count l.used l.rest.now (sym c.has_flag.ensures ∙ c.loop-rest-test.false)) ∙ l.invariant.2 P
