use Rattle.std.proofs.Common.{sum, ◌≡◌, ℕ, ◌+◌, ◌%◌, ◌^◌, ◌<◌, List, [], ◌∷◌, ◌∙◌, zero-add, rules, tests, arith}
use Rattle.std.proofs.lemmas.Iterator.{YieldsList-from_slice}
use Rattle.std.proofs.lemmas.Iterator.Consumers.{fold_from_yields_List}
use Rattle.std.specs.List.{fold}
use Rattle.std.proofs.lemmas.List.Sums.{sum_by-cons}
use Rattle.wire_row_scan.proofs.scan.total_of.Goals as goal

fold_total : (a : ℕ) (xs : List ℕ) → a < 2 ^ 16 → fold (λ s x. (s + x) % 2 ^ 16) a xs ≡ (a + sum xs) % 2 ^ 16
fold_total a [] h = omega arith
fold_total a (x ∷ xs) h = omega (arith, sum_by-cons (λ x. x) x xs, fold_total ((a + x) % 2 ^ 16) xs (omega arith))

pub returns : goal.returns
returns c =
    let w = c.args.sums.now in
    fold_from_yields_List _ (λ s x. (s + x) % 2 ^ 16) 0 _ c.fold.ensures.ran (YieldsList-from_slice w cc) (λ a x b q k. search (rules, tests))
    ∙ (rw (zero-add (sum w)) at (fold_total 0 w (omega arith)))
