use Rattle.std.proofs.Common.{◌≡◌, ◌∙◌, sym, ap, List, ℕ, zero, suc, ◌+◌, ◌-◌, ◌≤◌, ◌<◌, get_or, arith}
use borrow.Author.Tests.{lt-ltb, le-ltb}
use Rattle.egress_spec.specs.Queues.{behind}
use Rattle.egress_spec.specs.Step.{turn_of}
use Rattle.egress_state.proofs.place.turn.Goals as goal

here : (l : List ℕ) (n c : ℕ) → 0 < n → 0 < get_or l c 0 → turn_of n l c ≡ c
unfolding turn_of
here l zero c h e = absurd (omega arith)
here l (suc n) c h e = rw (lt-ltb 0 (get_or l c 0) e)

on : (l : List ℕ) (n m c : ℕ) → n ≡ suc m → get_or l c 0 ≤ 0 → turn_of n l c ≡ turn_of m l (behind c)
unfolding turn_of
on l zero m c h e = absurd (omega arith)
on l (suc n) m c h e = rw (le-ltb 0 (get_or l c 0) e) (let z : n ≡ m = omega arith in ap (λ (k : ℕ). turn_of k l (behind c)) z)

end : (l : List ℕ) (n c : ℕ) → n ≡ 0 → turn_of n l c ≡ 8
unfolding turn_of
end l n c e = rw e

pub returns-then-counts-c-gt0 : goal.returns-then-counts-c-gt0
returns-then-counts-c-gt0 c = let l = c.loop in
    sym (here _ (8 - l.counter) l.c (omega arith) (omega arith)) ∙ l.invariant.1

pub loop-preserved : goal.loop-preserved
loop-preserved c = let l = c.loop in
    let a = c.args in
    let n = 8 - (l.counter + 1) in (
      c.behind-c.ensures.1,
      ap (turn_of n a.counts) c.behind-c.ensures.0 ∙ sym (on a.counts (8 - l.counter) n l.c (omega arith) (omega arith)) ∙ l.invariant.1,
    )

pub returns : goal.returns
returns c = let l = c.loop in sym (end _ (8 - l.counter) l.c (omega arith)) ∙ l.invariant.1
