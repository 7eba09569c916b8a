-- `store_item` writes the octets of a pair.
-- By what the item is: two stores for a pair, none for any other.
use mathlib.Core.Path.{◌≡◌, refl, ap, sym, subst}
use mathlib.Core.List.{List, []}
use Prim.Native.Nat.{ℕ, ◌+◌, ◌≤◌}
use native.Mathlib.Nat.{add-zero}
use native.Mathlib.Omega.{arith}
use lib.ListN.{length, set, length-set}
use Rattle.wire_spec.specs.Bits.{splice}
use Rattle.wire_spec.proofs.ListLaws.{splice-none}
use Rattle.sdp_spec.specs.declared.item.Item.TheVariants.{DidSdid}
use Rattle.sdp_spec.specs.declared.item.Item.{Item}
use Rattle.sdp_reader.specs.Answers.{item_pairs}
use Rattle.text.proofs.LeftLaws.{set-two}
use Rattle.sdp_reader.proofs.store_item.Goals as goal

room : (x y : Item) (to n : ℕ) → x ≡ y → to + length (item_pairs x) ≤ n → to + length (item_pairs y) ≤ n
room x y to n e h = subst (λ (z : Item). to + length (item_pairs z) ≤ n) e h

-- an item without a pair
unchanged : (x : Item) (to : ℕ) (l : List ℕ) → item_pairs x ≡ [] → (to ≡ to + length (item_pairs x)) × (l ≡ splice l to (item_pairs x))
unchanged x to l e = rw e (sym (add-zero to), sym (splice-none l to))

-- a pair
pair : (x : Item) (did sdid to : ℕ) (l : List ℕ) → x ≡ DidSdid did sdid → to + length (item_pairs x) ≤ length l
    → (to + 2 ≡ to + length (item_pairs x)) × (set (set l to did) (to + 1) sdid ≡ splice l to (item_pairs x))
pair x did sdid to l e h = let k = room x (DidSdid did sdid) to (length l) e h in rw e (refl, set-two l to did sdid (omega arith))

pub bounds-pairs-to : goal.bounds-pairs-to
bounds-pairs-to c = let h = room _ _ _ _ c.in-DidSdid.is c.requires in omega (arith, h)

pub bounds-pairs-to-in-DidSdid : goal.bounds-pairs-to-in-DidSdid
bounds-pairs-to-in-DidSdid c = let h = room _ _ _ _ c.in-DidSdid.is c.requires in simp length-set (omega (arith, h))

pub returns-in-DidSdid : goal.returns-in-DidSdid
returns-in-DidSdid c = pair c.args.item _ _ _ _ c.in-DidSdid.is c.requires

pub returns-in-VpidCode : goal.returns-in-VpidCode
returns-in-VpidCode c = unchanged c.args.item _ _ (ap item_pairs c.in-VpidCode.is)

pub returns-in-Other : goal.returns-in-Other
returns-in-Other c = unchanged c.args.item _ _ (ap item_pairs c.in-Other.is)

pub returns-in-Malformed : goal.returns-in-Malformed
returns-in-Malformed c = unchanged c.args.item _ _ (ap item_pairs c.in-Malformed.is)
