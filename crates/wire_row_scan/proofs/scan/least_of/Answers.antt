use Rattle.std.proofs.Common.{◌≡◌, ◌∙◌, ℕ, ◌&&◌, Bool, leb, List, [], ◌∷◌, min, sym, ap, rules, tests}
use mathlib.Core.Bool.{and_assoc, and-true}
use Rattle.std.proofs.lemmas.Iterator.{YieldsList-from_slice}
use Rattle.std.proofs.lemmas.Iterator.Consumers.{fold_from_yields_List}
use Rattle.std.specs.List.{fold}
use Rattle.wire_row_scan.specs.Clear.{all_high}
use Rattle.wire_row_scan.proofs.ClearLaws.{high-min}
use Rattle.wire_row_scan.proofs.scan.least_of.Goals as goal

fold_high : (a : ℕ) (xs : List ℕ) → leb 8 (fold min a xs) ≡ leb 8 a && all_high xs
fold_high a [] = sym (and-true (leb 8 a))
fold_high a (x ∷ xs) = fold_high (min a x) xs ∙ ap (λ (t : Bool). t && all_high xs) (high-min a x) ∙ and_assoc (leb 8 a) (leb 8 x) (all_high xs)

pub returns : goal.returns
returns c =
    let w = c.args.lows.now in
    let least : c.fold.result ≡ fold min 1023 w =
    fold_from_yields_List _ min 1023 _ c.fold.ensures.ran (YieldsList-from_slice w cc) (λ a x b q k. search (rules, tests)) in
    ap (leb 8) least ∙ fold_high 1023 w
