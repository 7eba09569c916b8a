use Rattle.std.proofs.Common.{◌≡◌, ◌∙◌, subst, sym, ap, Bool, true, false, List, [], ◌∷◌, ℕ, suc, ◌+◌, ◌<◌, length, get_or, cond, nat_lt, add-one, Option, Some, None, tests, arith, rules}
use mathlib.Core.Bool.{not}
use native.Mathlib.Nat.{zero-add}
use Rattle.std.specs.List.{position_from, position_or_len}
use Rattle.std.specs.Option.{unwrap_or}
use Rattle.std.proofs.lemmas.Iterator.{YieldsList-from_slice}
use Rattle.std.proofs.lemmas.Iterator.Adapters.{position_from-zero}
use Rattle.std.proofs.lemmas.Iterator.Search.{position_from_yields_List}
use Rattle.egress_spec.specs.Step.{seek}
use Rattle.egress_state.proofs.survey.free_slot.Goals as goal

-- seeking from `k` on finds the first place that is not used, or else the end
sought : (f : ℕ → Bool) (l : List Bool) (k n : ℕ) → n ≡ k + length l → ((j : ℕ) → j < length l → f (k + j) ≡ get_or l j false)
    → seek (length l) f k ≡ unwrap_or (position_from not k l) n
unfolding seek
sought f [] k n e h = omega arith
sought f (true ∷ l) k n e h =
    let here : f k ≡ true = subst (λ (j : ℕ). f j ≡ true) (omega arith) (h 0 (omega arith)) in
    rw (here, ← add-one k)
    (sought f l (k + 1) n (omega arith) (λ j i. subst (λ (m : ℕ). f m ≡ get_or l j false) (omega arith) (h (suc j) (omega arith))))
sought f (false ∷ l) k n e h =
    let here : f k ≡ false = subst (λ (j : ℕ). f j ≡ false) (omega arith) (h 0 (omega arith)) in
    rw here

pub returns : goal.returns
returns c = let l = c.args.used in
    let p : c.position.result ≡ cond (nat_lt (position_or_len not l) (length l)) (Some (position_or_len not l)) None =
    position_from_yields_List not _ _ c.position.result c.position.ensures.ran (YieldsList-from_slice l (search rules)) (λ x b q k. search (rules, tests)) in
    let long : length l ≡ 64 = omega arith in
    let s = sought (λ s. get_or l s false) l 0 64 (omega arith) (λ j h. ap (λ (m : ℕ). get_or l m false) (zero-add j)) in
    c.unwrap_or.ensures
    ∙ ap (λ (r : Option ℕ). unwrap_or r 64) (p ∙ position_from-zero not l)
    ∙ sym s ∙ ap (λ (n : ℕ). seek n (λ s. get_or l s false) 0) long
