-- A text put item by item: what an item adds behind what stands.
-- By whether anything stands.
use mathlib.Core.Path.{◌≡◌, refl, ap, ap₂, sym, ◌∙◌}
use mathlib.Core.Bool.{Bool, true, false, cond}
use mathlib.Core.List.{List, [], ◌∷◌, ◌++◌, append_assoc, append-nil}
use Prim.Native.Nat.{ℕ, suc, ◌+◌, ◌<◌, ◌≤◌, zero-le}
use native.Mathlib.Numerals.{add-one}
use native.Mathlib.Omega.{arith}
use lib.Dec.{eqb}
use lib.ListN.{length, take, drop, get_or, length-append}
use lib.Seq.{drop-cons}
use borrow.Author.Tests.{ne_eqb}
use Rattle.wire_spec.proofs.ListLaws.{length-splice, take-splice}
use Rattle.text.specs.Put.{Put}
use Rattle.sdp_spec.specs.Text.{semicolon}
use Rattle.sdp_spec.specs.Writing.{pair_text, pair_texts, separated, joined}
use Rattle.sdp_spec.proofs.WritingLaws.{pair_size, separated-append}
use Rattle.sdp_writer.specs.Parts.{separator, following}
use Rattle.text.proofs.LeftLaws.{Left, left_as, left-next, left-ends}

-- what is left of the room behind a piece
pub room-behind : {o o₁ x : List ℕ} {at at₁ : ℕ} (n : ℕ) → at + (length x + n) ≤ length o → Put o at x o₁ at₁ → at₁ + n ≤ length o₁
room-behind {o} {o₁} {x} {at} n h p = omega (arith, p.behind, ap length p.octets ∙ length-splice o at x p.room)

-- a piece put at the start
pub put_front : {o o₁ x : List ℕ} {at₁ : ℕ} → Put o 0 x o₁ at₁ → take at₁ o₁ ≡ x
put_front {o} {o₁} {x} p = ap₂ take p.behind p.octets ∙ take-splice o 0 x zero-le

-- all is put where nothing is left
pub left-put : (all old now : List ℕ) (to : ℕ) → Left all old [] now to → Put old 0 all now to
left-put all old now to h =
    let e = left-ends all old now to h in record { room = omega (arith, h.room); behind = omega (arith, e.0); octets = e.1 }

-- no items
pub following-none : (to : ℕ) → following to [] ≡ []
unfolding joined separated
following-none to = go (eqb to 0)
  where
    go : (t : Bool) → cond t (joined []) (separated []) ≡ []
    go true = refl
    go false = refl

-- an item, and those behind it
pub following-cons : (to : ℕ) (t : List ℕ) (ts : List (List ℕ)) → following to (t ∷ ts) ≡ (separator to ++ t) ++ separated ts
unfolding joined separated
following-cons to t ts = go (eqb to 0)
  where
    go : (b : Bool) → cond b (joined (t ∷ ts)) (separated (t ∷ ts)) ≡ (cond b [] (semicolon ∷ []) ++ t) ++ separated ts
    go true = refl
    go false = refl

-- one item
pub following-one : (to : ℕ) (t : List ℕ) → following to (t ∷ []) ≡ separator to ++ t
unfolding separated
following-one to t = following-cons to t [] ∙ append-nil (separator to ++ t)

-- behind any octets each item has its `;`
pub following-some : (to : ℕ) (ts : List (List ℕ)) → (to ≡ 0 → ⊥) → separated ts ≡ following to ts
following-some to ts h = sym (rw (ne_eqb to 0 h))

-- the items of the pairs, and those behind them
pub joined-append : (l : List ℕ) (ts : List (List ℕ)) → joined (pair_texts l ++ ts) ≡ joined (pair_texts l) ++ following (length (joined (pair_texts l))) ts
unfolding pair_texts joined
joined-append [] ts = refl
joined-append (did ∷ []) ts = refl
joined-append (did ∷ sdid ∷ l) ts =
    let t = pair_text did sdid in
    let n : length (t ++ separated (pair_texts l)) ≡ 0 → ⊥ = λ e. omega (arith, length-append t (separated (pair_texts l)), pair_size did sdid) in
    ap (λ (x : List ℕ). t ++ x) (separated-append (pair_texts l) ts)
    ∙ sym (append_assoc t (separated (pair_texts l)) (separated ts))
    ∙ ap (λ (x : List ℕ). (t ++ separated (pair_texts l)) ++ x) (following-some (length (t ++ separated (pair_texts l))) ts n)

-- the pair at `i`, and those behind it
module _ (pairs : List ℕ) (i : ℕ) (inside : i + 1 < length pairs) where
  pair-at : pair_texts (drop i pairs) ≡ pair_text (get_or pairs i 0) (get_or pairs (i + 1) 0) ∷ pair_texts (drop (i + 2) pairs)
  unfolding pair_texts
  pair-at =
      let two : i + 2 ≡ suc (suc i) = omega arith in
      rw (add-one i, two, drop-cons pairs i 0 (omega arith), drop-cons pairs (suc i) 0 (omega arith))

  abbrev Item : List ℕ
  Item = pair_text (get_or pairs i 0) (get_or pairs (i + 1) 0)

  module _ (all old now : List ℕ) (to : ℕ) (left : Left all old (following to (pair_texts (drop i pairs))) now to) where
    here : Left all old ((separator to ++ Item) ++ separated (pair_texts (drop (i + 2) pairs))) now to
    here = left_as all old _ _ now to (ap (following to) pair-at ∙ following-cons to Item (pair_texts (drop (i + 2) pairs))) left

    -- there is room for it
    pub pair-room : to + (length (separator to) + length Item) ≤ length now
    pair-room =
        let e = length-append (separator to ++ Item) (separated (pair_texts (drop (i + 2) pairs))) in
        let k = length-append (separator to) Item in
        omega (arith, here.size, here.room, here.long)

    -- it put, those behind it are left
    pub pair-next : (to' : ℕ) (now' : List ℕ) → Put now to (separator to ++ Item) now' to'
        → Left all old (following to' (pair_texts (drop (i + 2) pairs))) now' to'
    pair-next to' now' p =
        let k = length-append (separator to) Item in
        let some : to' ≡ 0 → ⊥ = λ z. omega (arith, p.behind, pair_size (get_or pairs i 0) (get_or pairs (i + 1) 0)) in
        left_as all old _ _ now' to' (following-some to' (pair_texts (drop (i + 2) pairs)) some)
        (left-next all old (separator to ++ Item) (separated (pair_texts (drop (i + 2) pairs))) now to here to' now' p.behind p.octets)
