-- When parameters are refused, by the grammar of the items and without the reader: "Order: 40; items left to right, the first that offends; 44".
use Rattle.std.specs.Prelude.{◌≡◌, List, [], ◌∷◌, ◌++◌, ℕ, ◌*◌, ◌%◌, ◌<◌, ◌≤◌, length, replicate, Option}
use Rattle.wire_spec.specs.declared.refusal.Refusal.{Refusal}
use Rattle.wire_spec.specs.Anc.{Each}
use Rattle.sdp_spec.specs.declared.item.Item.{Item}
use Rattle.sdp_spec.specs.Grammar.{DidSdidText, VpidCodeText, ItemText, pairs_of, codes_of, Content, Says}
use Rattle.sdp_spec.specs.Writing.{text_of}

-- octets without a `;`, and octets that do not start with a space
abbrev pub Plain : List ℕ → Type 0
Plain t = Each (λ (o : ℕ). o ≡ 0x3B → ⊥) t

abbrev pub NoSpace : List ℕ → Type 0
NoSpace [] = Unit {0}
NoSpace (a ∷ s) = a ≡ 0x20 → ⊥

-- "`;` and any spaces after it": behind the octets `t`, with what stands behind it
pub record Behind (Rest : List ℕ → Type 0) (t s : List ℕ) : Type 0 where
  pub spaces : ℕ
  pub rest : List ℕ
  pub text : s ≡ t ++ (0x3B ∷ (replicate spaces 0x20 ++ rest))
  pub start : NoSpace rest
  pub is_rest : Rest rest

-- "Items are separated by `;` and any spaces after it": the octets of the items of a text, well-formed or not
abbrev pub Cut : List (List ℕ) → List ℕ → Type 0
Cut [] s = ⊥
Cut (t ∷ []) s = Plain t × (s ≡ t)
Cut (t ∷ u ∷ ts) s = Plain t × Behind (Cut (u ∷ ts)) t s

-- the octets are those of the items
abbrev pub Texts : List Item → List (List ℕ) → Type 0
Texts [] [] = Unit {0}
Texts [] (t ∷ ts) = ⊥
Texts (x ∷ xs) [] = ⊥
Texts (x ∷ xs) (t ∷ ts) = ItemText x t × Texts xs ts

-- items of which none offends: well-formed, at most one VPID_Code, at most 64 pairs
pub record Sound (ts : List (List ℕ)) (xs : List Item) : Type 0 where
  pub texts : Texts xs ts
  pub codes : length (codes_of xs) ≤ 1
  pub pairs : length (pairs_of xs) ≤ 2 * 64

-- by which number the item `t` offends behind the items `xs`: 41 "item malformed", 42 "second VPID_Code", 43 "over 64 pairs"
pub data OffendsBy (xs : List Item) (t : List ℕ) (n : ℕ) : Type 0 where
  malformed : n ≡ 41 → ((x : Item) → ItemText x t → ⊥) → OffendsBy xs t n
  second_code : n ≡ 42 → (code : ℕ) → VpidCodeText code t → length (codes_of xs) ≡ 1 → OffendsBy xs t n
  pair_too_many : n ≡ 43 → (did sdid : ℕ) → DidSdidText did sdid t → length (pairs_of xs) ≡ 2 * 64 → OffendsBy xs t n

-- "items left to right, the first that offends", with its index; "Empty text has no items"
pub record Offends (s : List ℕ) (x : Refusal) : Type 0 where
  pub before : List (List ℕ)
  pub item : List ℕ
  pub after : List (List ℕ)
  pub some : 0 < length s
  pub cut : Cut (before ++ (item ∷ after)) s
  pub items : List Item
  pub sound : Sound before items
  pub by : OffendsBy items item x.number
  pub index : x.index ≡ length before

-- a text is refused with room for so many octets: 40 "text over 4,096 octets" before all, 44 "lent room too small" last
pub data Refuses (s : List ℕ) (room : ℕ) (x : Refusal) : Type 0 where
  too_long : 4096 < length s → x ≡ record { number = 40; index = 0 } → Refuses s room x
  offends : length s ≤ 4096 → Offends s x → Refuses s room x
  too_small : (k : Content) → Says s k → room < length k.pairs → x ≡ record { number = 44; index = 0 } → Refuses s room x

-- and parameters are refused that are to be written: "an odd octet being 41, index 0, before 43", then 44
pub data WriteRefuses (pairs : List ℕ) (vpid : Option ℕ) (room : ℕ) (x : Refusal) : Type 0 where
  odd : length pairs % 2 ≡ 1 → x ≡ record { number = 41; index = 0 } → WriteRefuses pairs vpid room x
  too_many : length pairs % 2 ≡ 0 → 2 * 64 < length pairs → x ≡ record { number = 43; index = 0 } → WriteRefuses pairs vpid room x
  no_room : length pairs % 2 ≡ 0 → length pairs ≤ 2 * 64 → room < length (text_of (record { pairs = pairs; vpid = vpid }))
      → x ≡ record { number = 44; index = 0 } → WriteRefuses pairs vpid room x
