use mathlib.Core.Path.{◌≡◌, sym, ◌∙◌, ap}
use mathlib.Core.Bool.{Bool, true, false, ◌||◌, or-true, or-false}
use mathlib.Core.List.{List}
use Prim.Native.Nat.{ℕ, ◌+◌, ◌<◌}
use native.Mathlib.Numerals.{add-one}
use native.Mathlib.Omega.{arith}
use lib.Dec.{eqb}
use lib.ListN.{length, get_or, drop}
use lib.Seq.{drop-cons, drop-length}
use Rattle.anc_filter.specs.Wanted.{matching_pair, any_of, wanted_of}
use Rattle.anc_filter.specs.declared.DidSdid.{DidSdid}
use Rattle.anc_filter.proofs.wanted_of.Goals as goal

-- what is left from i is the element at i, and what is left from i + 1
next_of : (d s : ℕ) (ys : List DidSdid) (i : ℕ) (z : DidSdid) → i < length ys → any_of d s (drop i ys) ≡ matching_pair d s (get_or ys i z) || any_of d s (drop (i + 1) ys)
unfolding any_of
next_of d s ys i z l = rw (add-one, drop-cons ys i z)

on-hit : (d s : ℕ) (ys : List DidSdid) (i : ℕ) (z : DidSdid) → i < length ys → any_of d s (drop i ys) ≡ any_of d s ys → matching_pair d s (get_or ys i z) ≡ true → true ≡ wanted_of d s ys
on-hit d s ys i z l e h =
    sym (ap (λ (t : Bool). eqb (length ys) 0 || t) (sym e ∙ next_of d s ys i z l ∙ ap (λ (t : Bool). t || any_of d s (drop (i + 1) ys)) h) ∙ or-true (eqb (length ys) 0))

on-miss : (d s : ℕ) (ys : List DidSdid) (i : ℕ) (z : DidSdid) → i < length ys → any_of d s (drop i ys) ≡ any_of d s ys → matching_pair d s (get_or ys i z) ≡ false → any_of d s (drop (i + 1) ys) ≡ any_of d s ys
on-miss d s ys i z l e h = sym (next_of d s ys i z l ∙ ap (λ (t : Bool). t || any_of d s (drop (i + 1) ys)) h) ∙ e

on-end : (d s : ℕ) (ys : List DidSdid) (i : ℕ) → i ≡ length ys → any_of d s (drop i ys) ≡ any_of d s ys → eqb (length ys) 0 ≡ wanted_of d s ys
unfolding any_of
on-end d s ys i n e =
    sym (or-false (eqb (length ys) 0))
    ∙ ap (λ (t : Bool). eqb (length ys) 0 || t) (ap (any_of d s) (sym (ap (λ (k : ℕ). drop k ys) n ∙ drop-length ys)) ∙ e)

pub returns-then-matches_pair : goal.returns-then-matches_pair
returns-then-matches_pair c = let l = c.loop-entry in
    on-hit _ _ c.args.pairs.now l.entry-index (record { did = 0; sdid = 0 }) c.loop-entry-test.true l.invariant (sym c.matches_pair.ensures ∙ c.if-matches_pair.true)

pub loop-entry-preserved : goal.loop-entry-preserved
loop-entry-preserved c = let l = c.loop-entry in
    on-miss _ _ c.args.pairs.now l.entry-index (record { did = 0; sdid = 0 }) c.loop-entry-test.true l.invariant (sym c.matches_pair.ensures ∙ c.if-matches_pair.false)

pub returns : goal.returns
returns c = let l = c.loop-entry in c.is_empty.ensures ∙ on-end _ _ c.args.pairs.now l.entry-index (omega arith) l.invariant
