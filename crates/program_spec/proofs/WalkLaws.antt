-- A walk, item by item: the bound does not matter, and octets behind an item change nothing of it.
-- By what stands at the front.
use mathlib.Core.Path.{◌≡◌, refl, ap, ◌∙◌}
use mathlib.Core.List.{List, [], ◌++◌}
use Prim.Native.Nat.{ℕ, zero, suc, ◌<◌}
use native.Mathlib.Omega.{arith}
use lib.ListN.{length, drop, length-drop}
use lib.Seq.{drop-append-le}
use Rattle.program_spec.specs.Walk.{Front, short, taken, over, Program, Walked, Lawful, onward, walk_in, walk}

module _ (P : Program) (law : Lawful P) where
  -- the bound does not matter
  bounds-agree : (m n : ℕ) (s : P.State) (o : List ℕ) → length o < m → length o < n → walk_in P m s o ≡ walk_in P n s o
  unfolding walk_in
  bounds-agree zero n s o h k = absurd (omega arith)
  bounds-agree (suc m) zero s o h k = absurd (omega arith)
  bounds-agree (suc m) (suc n) s o h k = go (λ z r. bounds-agree m n z r) (P.front s o) refl
    where
      go : ((z : P.State) (r : List ℕ) → length r < m → length r < n → walk_in P m z r ≡ walk_in P n z r) → (f : Front P.State) → P.front s o ≡ f
          → onward P (walk_in P m) s o f ≡ onward P (walk_in P n) s o f
      go ih short e = refl
      go ih (over z) e = refl
      go ih (taken u t z) e =
          let q = law.some s o u t z e in
          let l = law.inside s o u t z e in
          ap (λ (r : Walked P.State). record { text = t ++ r.text; state = r.state })
          (ih z (drop u o) (omega (arith, length-drop u o)) (omega (arith, length-drop u o)))

  -- the item at the front, and then those of the rest, read or not
  pub next-text : (s : P.State) (o more : List ℕ) (n : ℕ) (t : List ℕ) (z : P.State) → P.front s o ≡ taken n t z
      → walk P s (o ++ more) ≡ record { text = t ++ (walk P z (drop n o ++ more)).text; state = (walk P z (drop n o ++ more)).state }
  unfolding walk_in
  next-text s o more n t z e =
      let f = law.taken-longer s o more n t z e in
      let l = law.inside s o n t z e in
      let q = law.some s (o ++ more) n t z f in
      let k = law.inside s (o ++ more) n t z f in
      let rest : drop n (o ++ more) ≡ drop n o ++ more = drop-append-le n o more l in
      ap (onward P (walk_in P (length (o ++ more))) s (o ++ more)) f
      ∙ ap (λ (r : Walked P.State). record { text = t ++ r.text; state = r.state })
      (bounds-agree (length (o ++ more)) (suc (length (drop n (o ++ more)))) z (drop n (o ++ more)) (omega (arith, length-drop n (o ++ more))) (omega arith)
      ∙ ap (walk P z) rest)

  -- nothing more is taken
  pub over-text : (s : P.State) (o : List ℕ) (z : P.State) → P.front s o ≡ over z → walk P s o ≡ record { text = P.closing z []; state = z }
  unfolding walk_in
  over-text s o z e = ap (onward P (walk_in P (length o)) s o) e

  -- no whole item is left
  pub short-text : (s : P.State) (o : List ℕ) → P.front s o ≡ short → walk P s o ≡ record { text = P.closing s o; state = P.last s o }
  unfolding walk_in
  short-text s o e = ap (onward P (walk_in P (length o)) s o) e
