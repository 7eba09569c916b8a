use Rattle.std.proofs.Common.{◌∙◌, rules, tests}
use Rattle.std.proofs.lemmas.Iterator.{YieldsList-from_slice}
use Rattle.std.proofs.lemmas.Iterator.Search.{all_from_yields_List}
use Rattle.sdp_spec.specs.Text.{is_value}
use Rattle.sdp_spec.proofs.ItemLaws.{value-is}
use Rattle.sdp_item.proofs.are_value.Goals as goal

pub returns : goal.returns
returns c = let s = c.args.text.now in
    all_from_yields_List is_value _ _ c.all.result c.all.ensures.ran (YieldsList-from_slice s cc) (λ x b q k. search (rules, tests)) ∙ value-is s
