use Rattle.std.proofs.Common.{◌∙◌, ap, ◌≡◌, ℕ, drop, eqb, rules, tests}
use Rattle.std.proofs.lemmas.Iterator.{YieldsList-from_slice}
use Rattle.std.proofs.lemmas.Iterator.Consumers.{count_from_yields_List}
use Rattle.std.proofs.lemmas.Iterator.Search.{YieldsList-from_take_while}
use Rattle.std.proofs.lemmas.List.Folds.{length-prefix_len}
use Rattle.std.proofs.lemmas.List.Sums.{prefix_len-le-length}
use Rattle.std.specs.List.{prefix_len}
use Rattle.sdp_spec.proofs.CutLaws.{skip-is}
use Rattle.sdp_reader.proofs.spaces.Goals as goal

pub returns : goal.returns
returns c = let s = c.args.text.now in
    let e : c.count.result ≡ prefix_len (λ o. eqb o 32) s =
    count_from_yields_List c.take_while.result _ c.count.ensures.ran
    (YieldsList-from_take_while _ (λ o. eqb o 32) (YieldsList-from_slice s cc) c.take_while.ensures.closure c.take_while.ensures.done (λ x b q k. search (rules, tests)))
    ∙ length-prefix_len (λ o. eqb o 32) s in
    (rw e (prefix_len-le-length (λ o. eqb o 32) s), ap (λ (n : ℕ). drop n s) e ∙ skip-is s)
