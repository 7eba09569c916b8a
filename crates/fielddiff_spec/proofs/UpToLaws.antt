-- Lines gathered position by position: a line is there where a position has it, and the empty list, an exchange and an order go through.
use mathlib.Core.Path.{◌≡◌, refl, ap₂, sym, ◌∙◌, subst}
use mathlib.Core.Logic.{◌↔◌, ◌⊎◌, inl, inr, ⊎_elim}
use mathlib.Core.List.Memᴰ
use mathlib.Core.List.{List, [], ◌∷◌, ◌++◌, map, nil≢cons, append-nil, Memᴰ}
use Prim.Native.Nat.{ℕ, zero, suc, ◌+◌, ◌<◌, ◌≤◌}
use native.Mathlib.Omega.{arith}
use Rattle.wire_spec.proofs.ListLaws.{map-append}
use Rattle.fielddiff_spec.specs.Diff.{Line, up_to}
use Rattle.fielddiff_spec.specs.Order.{Before, Sorted}

pub append-empty : {A : Type 0} (xs ys : List A) → xs ++ ys ≡ [] → (xs ≡ []) × (ys ≡ [])
append-empty [] ys e = (refl, e)
append-empty (x ∷ xs) ys e = absurd (nil≢cons (sym e))

last-or-below : (m n : ℕ) → m < suc n → (m ≡ n) ⊎ (m < n)
last-or-below m n h = ⊎_elim (λ l. inr l) (λ l. inl (omega arith)) (cases m n)
  where
    cases : (a b : ℕ) → (a < b) ⊎ (b ≤ a)
    cases a zero = inr (omega arith)
    cases zero (suc b) = inl (omega arith)
    cases (suc a) (suc b) = ⊎_elim (λ l. inl (omega arith)) (λ l. inr (omega arith)) (cases a b)

module _ (g : ℕ → List Line) where
  -- a line stands in the list exactly where it stands at a position
  pub up_to-iff : (n : ℕ) (l : Line) → Memᴰ l (up_to g n) ↔ ((m : ℕ) × (m < n) × Memᴰ l (g m))
  unfolding up_to
  up_to-iff zero l = (λ h. absurd (Memᴰ.not-nil h), λ h. absurd (omega (arith, h.1)))
  up_to-iff (suc n) l =
      let ih = up_to-iff n l in (
        λ h. ⊎_elim (λ k. let q = ih.0 k in (q.0, omega (arith, q.1), q.2)) (λ k. (n, omega arith, k)) (Memᴰ.append_cases (up_to g n) h),
        λ h. ⊎_elim
            (λ e. Memᴰ.append_right (up_to g n) (subst (λ (m : ℕ). Memᴰ l (g m)) e h.2))
            (λ k. Memᴰ.append_left (g n) (ih.1 (h.0, k, h.2)))
            (last-or-below h.0 n h.1),
      )

  -- it is empty exactly where every position has nothing
  pub up_to-empty : (n : ℕ) → (up_to g n ≡ []) ↔ ((m : ℕ) → m < n → g m ≡ [])
  unfolding up_to
  up_to-empty zero = (λ e m h. absurd (omega arith), λ h. refl)
  up_to-empty (suc n) =
      let ih = up_to-empty n in (
        λ e m h.
            let p = append-empty (up_to g n) (g n) e in
            ⊎_elim (λ k. subst (λ (z : ℕ). g z ≡ []) (sym k) p.1) (λ k. ih.0 p.0 m k) (last-or-below m n h),
        λ h. ap₂ ◌++◌ (ih.1 (λ m k. h m (omega arith))) (h n (omega arith)),
      )

  -- positions that have nothing may be left out at the end
  pub up_to-ends : (n m : ℕ) → ((i : ℕ) → n ≤ i → g i ≡ []) → up_to g (n + m) ≡ up_to g n
  unfolding up_to
  up_to-ends n zero h = let e : n + 0 ≡ n = omega arith in rw e
  up_to-ends n (suc m) h =
      let e : n + suc m ≡ suc (n + m) = omega arith in
      rw (e, up_to) (ap₂ ◌++◌ (up_to-ends n m h) (h (n + m) (omega arith)) ∙ append-nil (up_to g n))

-- an exchange of lines
pub up_to-map : (f : Line → Line) (g h : ℕ → List Line) (n : ℕ) → ((i : ℕ) → i < n → h i ≡ map f (g i)) → up_to h n ≡ map f (up_to g n)
unfolding up_to
up_to-map f g h zero e = refl
up_to-map f g h (suc n) e =
    ap₂ ◌++◌ (up_to-map f g h n (λ i k. e i (omega arith))) (e n (omega arith)) ∙ sym (map-append f (up_to g n) (g n))

-- order
pub sorted-append : (xs ys : List Line) → Sorted xs → Sorted ys
    → ((x y : Line) → Memᴰ x xs → Memᴰ y ys → Before x y) → Sorted (xs ++ ys)
sorted-append [] ys p q h = q
sorted-append (x ∷ xs) ys p q h = (
  λ y k. ⊎_elim (λ m. p.0 y m) (λ m. h x y (Memᴰ.head refl) m) (Memᴰ.append_cases xs k),
  sorted-append xs ys p.1 q (λ a b k m. h a b (Memᴰ.tail k) m),
)

pub sorted-up_to : (g : ℕ → List Line) (n : ℕ) → ((i : ℕ) → Sorted (g i))
    → ((i j : ℕ) (x y : Line) → i < j → Memᴰ x (g i) → Memᴰ y (g j) → Before x y) → Sorted (up_to g n)
unfolding up_to
sorted-up_to g zero s h = tt
sorted-up_to g (suc n) s h =
    sorted-append (up_to g n) (g n) (sorted-up_to g n s h) (s n)
    (λ x y k m. let q = (up_to-iff g n x).0 k in h q.0 n x y q.1 q.2 m)
