-- What the rules say of a packet is one thing: it is refused by one refusal, or it is not, and then it says one thing.
-- By the order of the indices: the first accepted packet is one.
use mathlib.Core.Path.{◌≡◌, refl, sym, ◌∙◌, ap, subst}
use mathlib.Core.Bool.{Bool, true, false}
use mathlib.Core.List.{List, [], ◌∷◌}
use mathlib.Core.Logic.{◌⊎◌, inl, inr, ⊎_elim}
use Prim.Native.Nat.{ℕ, suc, ◌<◌, ◌≤◌}
use native.Mathlib.Numerals.{add-one}
use native.Mathlib.Omega.{arith}
use lib.Dec.{ltb}
use lib.ListN.{length, drop, length-drop}
use lib.Seq.{drop-drop}
use borrow.Author.Tests.{ltb-true, ltb-false}
use Rattle.wire_spec.specs.declared.refusal.Refusal.{Refusal}
use Rattle.wire_spec.specs.Layout.{Layout}
use Rattle.wire_spec.specs.Result.{Result, Err, Ok}
use Rattle.wire_spec.specs.Packet.{Packet, read_packet}
use Rattle.streamcheck_spec.specs.Rules.{At, Reads, First, Compared, OtherSource, OtherType, Refuses, Sound}

-- of two numbers one is less, or they are equal
pub less-or-equal-or-more : (a b : ℕ) → (a < b) ⊎ ((a ≡ b) ⊎ (b < a))
less-or-equal-or-more a b = go (ltb a b) refl (ltb b a) refl
  where
    go : (s : Bool) → ltb a b ≡ s → (t : Bool) → ltb b a ≡ t → (a < b) ⊎ ((a ≡ b) ⊎ (b < a))
    go true e t h = inl (ltb-true a b e)
    go false e true h = inr (inr (ltb-true b a h))
    go false e false h = let p = ltb-false a b e in let q = ltb-false b a h in inr (inl (omega arith))

-- at an index there is one element
pub at_one : {A : Type 0} (xs : List A) (i : ℕ) (x y : A) → At xs i x → At xs i y → x ≡ y
at_one xs i x y a b = let p = a.1 in let q = b.1 in cc

-- and the index is one of the list
pub at-within : {A : Type 0} (xs : List A) (i : ℕ) (x : A) → At xs i x → i < length xs
at-within xs i x a = let e = ap length a.1 in let h = length-drop i xs in omega arith

-- behind it the elements from the next index on
pub at_next : {A : Type 0} (xs : List A) (i : ℕ) (x : A) (rest : List A) → drop i xs ≡ x ∷ rest → drop (suc i) xs ≡ rest
at_next xs i x rest e = rw (← (add-one i), ← (drop-drop 1 i xs), e)

-- no element there: the index is past the end
pub at_none : {A : Type 0} (xs : List A) (i : ℕ) → drop i xs ≡ [] → length xs ≤ i
at_none xs i e = let d = ap length e in let h = length-drop i xs in omega arith

module _ (L : Layout) (ps : List (List ℕ)) where
  -- a packet is read in one way
  pub reads-one : (i : ℕ) (p q : Result Packet) → Reads L ps i p → Reads L ps i q → p ≡ q
  reads-one i p q a b =
      let e = at_one ps i a.octets b.octets a.at b.at in
      sym a.reading ∙ ap (read_packet L) e ∙ b.reading

  pub accepts-one : (i : ℕ) (k l : Packet) → Reads L ps i (Ok k) → Reads L ps i (Ok l) → k ≡ l
  accepts-one i k l a b = let e = reads-one i (Ok k) (Ok l) a b in cc

  pub refuses-or-accepts : (i : ℕ) (x : Refusal) (k : Packet) → Reads L ps i (Err x) → Reads L ps i (Ok k) → ⊥
  refuses-or-accepts i x k a b =
      let e = reads-one i (Err x) (Ok k) a b in
      let z : ◌≡◌ {A = ℕ} 0 1 = cc in
      omega arith

  -- the first accepted packet is one
  pub first_one : (i j : ℕ) (k l : Packet) → First L ps i k → First L ps j l → k ≡ l
  first_one i j k l a b =
      ⊎_elim (λ h. absurd (b.least i h k a.accepts))
      (⊎_elim (λ e. accepts-one j k l (subst (λ (z : ℕ). Reads L ps z (Ok k)) e a.accepts) b.accepts)
      (λ h. absurd (a.least j h l b.accepts)))
      (less-or-equal-or-more i j)

  -- of what an accepted packet is compared with
  pub compared-one : (i : ℕ) (k l o p : Packet) → Compared L ps i k o → Compared L ps i l p → (k ≡ l) × (o ≡ p)
  compared-one i k l o p a b =
      (accepts-one i k l a.accepts b.accepts, first_one a.origin b.origin o p a.first b.first)

  -- a packet that is not refused says one thing
  pub sound-one : (i : ℕ) (k l : Packet) → Sound L ps i k → Sound L ps i l → k ≡ l
  sound-one i k l a b = accepts-one i k l a.compared.accepts b.compared.accepts

  source-differs : (i : ℕ) (k o : Packet) → OtherSource L ps i → Compared L ps i k o → k.source ≡ o.source → ⊥
  source-differs i k o a b e =
      let h = compared-one i a.here k a.there o a.compared b in
      a.source (ap (λ (z : Packet). z.source) h.0 ∙ e ∙ ap (λ (z : Packet). z.source) (sym h.1))

  type-differs : (i : ℕ) (k o : Packet) → OtherType L ps i → Compared L ps i k o → k.type ≡ o.type → ⊥
  type-differs i k o a b e =
      let h = compared-one i a.here k a.there o a.compared b in
      a.type (ap (λ (z : Packet). z.type) h.0 ∙ e ∙ ap (λ (z : Packet). z.type) (sym h.1))

  -- "refused .., which excludes the rest"
  pub refused-excludes : (i : ℕ) (x : Refusal) (k : Packet) → Refuses L ps i x → Sound L ps i k → ⊥
  refused-excludes i x k (inl a) s = refuses-or-accepts i x k a s.compared.accepts
  refused-excludes i x k (inr (inl a)) s = source-differs i k s.opening a.0 s.compared s.source
  refused-excludes i x k (inr (inr a)) s = type-differs i k s.opening a.0 s.compared s.type

  -- a packet is refused by one refusal
  pub refused-one : (i : ℕ) (x y : Refusal) → Refuses L ps i x → Refuses L ps i y → x ≡ y
  refused-one i x y (inl a) (inl b) = let e = reads-one i (Err x) (Err y) a b in cc
  refused-one i x y (inl a) (inr (inl b)) = absurd (refuses-or-accepts i x b.0.here a b.0.compared.accepts)
  refused-one i x y (inl a) (inr (inr b)) = absurd (refuses-or-accepts i x b.0.here a b.0.compared.accepts)
  refused-one i x y (inr (inl a)) (inl b) = absurd (refuses-or-accepts i y a.0.here b a.0.compared.accepts)
  refused-one i x y (inr (inl a)) (inr (inl b)) = a.1 ∙ sym b.1
  refused-one i x y (inr (inl a)) (inr (inr b)) =
      absurd (source-differs i b.0.here b.0.there a.0 b.0.compared b.0.source)
  refused-one i x y (inr (inr a)) (inl b) = absurd (refuses-or-accepts i y a.0.here b a.0.compared.accepts)
  refused-one i x y (inr (inr a)) (inr (inl b)) =
      absurd (source-differs i a.0.here a.0.there b.0 a.0.compared a.0.source)
  refused-one i x y (inr (inr a)) (inr (inr b)) = a.1 ∙ sym b.1
