-- The pairs of a text item by item.
-- By what the item at the front is.
use mathlib.Core.Path.{◌≡◌, ap, ◌∙◌}
use mathlib.Core.Bool.{true}
use mathlib.Core.List.{List, ◌++◌}
use Prim.Native.Nat.{ℕ, ◌+◌, ◌≤◌}
use lib.ListN.{length}
use Rattle.wire_spec.specs.Bits.{splice}
use Rattle.sdp_spec.specs.Grammar.{pairs_of}
use Rattle.sdp_spec.proofs.CutLaws.{left}
use Rattle.sdp_spec.proofs.GatherIff.{pairs-cons}
use Rattle.sdp_reader.specs.declared.Step.{Step}
use Rattle.sdp_reader.specs.Answers.{item_pairs, Stepped}
use Rattle.text.proofs.LeftLaws.{Left, left_as, left-room, left-next}
use Rattle.sdp_reader.proofs.GatherLaws.{Behind, left_step}

-- what is left of a text to be written, from the item at its front on
pairs-step : (s : List ℕ) (r : Step) (step : Stepped s r)
    → pairs_of (left true s) ≡ item_pairs r.item ++ pairs_of (left r.more (Behind s r step))
pairs-step s r step = ap pairs_of (left_step s r step) ∙ pairs-cons r.item (left r.more (Behind s r step))

module _ (all old s now : List ℕ) (to : ℕ) (r : Step) (step : Stepped s r) (todo : Left all old (pairs_of (left true s)) now to) where
  next-left : Left all old (item_pairs r.item ++ pairs_of (left r.more (Behind s r step))) now to
  next-left = left_as all old _ _ now to (pairs-step s r step) todo

  -- there is room for the item
  pub item-fits : to + length (item_pairs r.item) ≤ length now
  item-fits = left-room all old (item_pairs r.item) (pairs_of (left r.more (Behind s r step))) now to next-left

  -- its octets written, those behind it are left
  pub left_behind : (to' : ℕ) (now' : List ℕ) → to' ≡ to + length (item_pairs r.item) → now' ≡ splice now to (item_pairs r.item)
      → Left all old (pairs_of (left r.more (Behind s r step))) now' to'
  left_behind = left-next all old (item_pairs r.item) (pairs_of (left r.more (Behind s r step))) now to next-left
