-- Exactly the lines that stand, in their order: the two fix the list; and nothing follows a refusal.
use mathlib.Core.Path.{◌≡◌, refl, ap, ap₂, sym, ◌∙◌, subst}
use mathlib.Core.Bool.{Bool, true, false, cond}
use mathlib.Core.Logic.{◌↔◌, ◌⊎◌, inl, inr, ⊎_elim}
use mathlib.Core.List.{List, [], ◌∷◌, ◌++◌, Memᴰ}
use Prim.Native.Nat.{ℕ, zero, suc, ◌+◌, ◌-◌, ◌<◌, ◌≤◌, min, max}
use native.Mathlib.Omega.{arith}
use lib.Dec.{eqb}
use lib.ListN.{length, get_or}
use Rattle.wire_spec.specs.Anc.{Record}
use Rattle.fieldfile_spec.specs.File.{FieldContent, FileRead}
use Rattle.fielddiff_spec.specs.Diff.{left, right, Shown, dash, number, Line, ts_line, f_line, records_line, cell_line, only_line, refused_line, Place, field, ended, refusal, unread, place_in, place_at, up_to, differ, cell_lines, cells_at, record_lines, field_lines, compare_at, lines_at, diff, ShownAs, Stands}
use Rattle.fielddiff_spec.specs.Order.{position, kind, key, Less, Before, Sorted}
use Rattle.fielddiff_spec.proofs.UpToLaws.{up_to-iff, up_to-ends, sorted-append, sorted-up_to}
use Rattle.fielddiff_spec.proofs.PlaceLaws.{At, field-iff, ended-iff, refusal-iff, unread-iff}
use Rattle.fielddiff_spec.proofs.DiffLaws.{differ-iff}

-- THE LINES OF TWO FIELDS
pub record InCells (i j : ℕ) (xs ys : List ℕ) (l : Line) : Type 0 where
  pub k : ℕ
  pub left_cell : k < length xs
  pub right_cell : k < length ys
  pub is : l ≡ cell_line i j k (get_or xs k 0) (get_or ys k 0)
  pub differ : get_or xs k 0 ≡ get_or ys k 0 → ⊥

in_cells : (i j : ℕ) (xs ys : List ℕ) (l : Line) → Memᴰ l (cell_lines i j xs ys) ↔ InCells i j xs ys l
unfolding cell_lines
in_cells i j xs ys l =
    let u = up_to-iff (λ k. differ (cell_line i j k) (get_or xs k 0) (get_or ys k 0)) (min (length xs) (length ys)) l in (
      λ h.
          let q = u.0 h in
          let d = (differ-iff (cell_line i j q.0) (get_or xs q.0 0) (get_or ys q.0 0) l).0 q.2 in
          record { k = q.0; left_cell = omega (arith, q.1); right_cell = omega (arith, q.1); is = d.0; differ = d.1 },
      λ h. u.1 (h.k, omega (arith, h.left_cell, h.right_cell), (differ-iff (cell_line i j h.k) (get_or xs h.k 0) (get_or ys h.k 0) l).1 (h.is, h.differ)),
    )

pub record InRecords (i : ℕ) (xs ys : List Record) (l : Line) : Type 0 where
  pub j : ℕ
  pub left_record : j < length xs
  pub right_record : j < length ys
  pub cells : InCells i j (cells_at xs j) (cells_at ys j) l

in-records : (i : ℕ) (xs ys : List Record) (l : Line) → Memᴰ l (record_lines i xs ys) ↔ InRecords i xs ys l
unfolding record_lines
in-records i xs ys l =
    let u = up_to-iff (λ j. cell_lines i j (cells_at xs j) (cells_at ys j)) (min (length xs) (length ys)) l in (
      λ h.
          let q = u.0 h in
          record { j = q.0; left_record = omega (arith, q.1); right_record = omega (arith, q.1); cells = (in_cells i q.0 (cells_at xs q.0) (cells_at ys q.0) l).0 q.2 },
      λ h. u.1 (h.j, omega (arith, h.left_record, h.right_record), (in_cells i h.j (cells_at xs h.j) (cells_at ys h.j) l).1 h.cells),
    )

-- the four parts of a field's lines
module _ (i : ℕ) (x y : FieldContent) (l : Line) where
  abbrev InFields : Type 0
  InFields =
      ((l ≡ ts_line i x.timestamp y.timestamp) × (x.timestamp ≡ y.timestamp → ⊥))
      ⊎ (((l ≡ f_line i x.f y.f) × (x.f ≡ y.f → ⊥))
      ⊎ (((l ≡ records_line i (length x.records) (length y.records)) × (length x.records ≡ length y.records → ⊥))
      ⊎ InRecords i x.records y.records l))

  in-fields : Memᴰ l (field_lines i x y) → InFields
  unfolding field_lines
  in-fields h =
      ⊎_elim (λ k. inl ((differ-iff (ts_line i) x.timestamp y.timestamp l).0 k))
      (λ h1. ⊎_elim (λ k. inr (inl ((differ-iff (f_line i) x.f y.f l).0 k)))
      (λ h2. ⊎_elim (λ k. inr (inr (inl ((differ-iff (records_line i) (length x.records) (length y.records) l).0 k))))
      (λ k. inr (inr (inr ((in-records i x.records y.records l).0 k))))
      (mathlib.Core.List.Memᴰ.append_cases (differ (records_line i) (length x.records) (length y.records)) h2))
      (mathlib.Core.List.Memᴰ.append_cases (differ (f_line i) x.f y.f) h1))
      (mathlib.Core.List.Memᴰ.append_cases (differ (ts_line i) x.timestamp y.timestamp) h)

  of_fields : InFields → Memᴰ l (field_lines i x y)
  unfolding field_lines
  of_fields (inl h) = mathlib.Core.List.Memᴰ.append_left _ ((differ-iff (ts_line i) x.timestamp y.timestamp l).1 h)
  of_fields (inr (inl h)) =
      mathlib.Core.List.Memᴰ.append_right (differ (ts_line i) x.timestamp y.timestamp) (mathlib.Core.List.Memᴰ.append_left _ ((differ-iff (f_line i) x.f y.f l).1 h))
  of_fields (inr (inr (inl h))) =
      mathlib.Core.List.Memᴰ.append_right (differ (ts_line i) x.timestamp y.timestamp)
      (mathlib.Core.List.Memᴰ.append_right (differ (f_line i) x.f y.f)
      (mathlib.Core.List.Memᴰ.append_left _ ((differ-iff (records_line i) (length x.records) (length y.records) l).1 h)))
  of_fields (inr (inr (inr h))) =
      mathlib.Core.List.Memᴰ.append_right (differ (ts_line i) x.timestamp y.timestamp)
      (mathlib.Core.List.Memᴰ.append_right (differ (f_line i) x.f y.f)
      (mathlib.Core.List.Memᴰ.append_right (differ (records_line i) (length x.records) (length y.records)) ((in-records i x.records y.records l).1 h)))

-- EXACTLY THE LINES THAT STAND
module _ (a b : FileRead) where
  -- a line of a position says what its kind says, and has that position
  abbrev Said : ℕ → Line → Type 0
  Said i l = Stands a b l × (position l ≡ i)

  stands-fields : (i : ℕ) (x y : FieldContent) (l : Line) → place_at a i ≡ field x → place_at b i ≡ field y → InFields i x y l → Said i l
  stands-fields i x y l p q (inl h) =
      subst (Said i) (sym h.0) (record { x = x; y = y; is_left = p; is_right = q; left_is = refl; right_is = refl; differ = h.1 }, refl)
  stands-fields i x y l p q (inr (inl h)) =
      subst (Said i) (sym h.0) (record { x = x; y = y; is_left = p; is_right = q; left_is = refl; right_is = refl; differ = h.1 }, refl)
  stands-fields i x y l p q (inr (inr (inl h))) =
      subst (Said i) (sym h.0) (record { x = x; y = y; is_left = p; is_right = q; left_is = refl; right_is = refl; differ = h.1 }, refl)
  stands-fields i x y l p q (inr (inr (inr h))) =
      subst (Said i) (sym h.cells.is) (
        record {
          x = x;
          y = y;
          is_left = p;
          is_right = q;
          left_record = h.left_record;
          right_record = h.right_record;
          left_cell = h.cells.left_cell;
          right_cell = h.cells.right_cell;
          left_is = refl;
          right_is = refl;
          differ = h.cells.differ;
        },
        refl,
      )

  one : (i : ℕ) (l m : Line) → Said i m → Memᴰ l (m ∷ []) → Said i l
  one i l m s h = subst (Said i) (sym (mathlib.Core.List.Memᴰ.eq_of_singleton h)) s

  not-dash : (n : ℕ) → number n ≡ dash → ⊥
  not-dash n e = let z : ◌≡◌ {A = ℕ} 0 1 = cc in omega arith

  shown : (i : ℕ) (p q : Place) (l r : Shown) → place_at a i ≡ p → place_at b i ≡ q → ShownAs p l → ShownAs q r → (((l ≡ dash) × (r ≡ dash)) → ⊥)
      → Said i (refused_line i l r)
  shown i p q l r e f h k n = ((subst (λ (z : Place). ShownAs z l) (sym e) h, subst (λ (z : Place). ShownAs z r) (sym f) k, n), refl)

  compare-stands : (i : ℕ) (p q : Place) (l : Line) → place_at a i ≡ p → place_at b i ≡ q → Memᴰ l (compare_at i p q) → Said i l
  unfolding compare_at
  compare-stands i (field x) (field y) l e f h = stands-fields i x y l e f (in-fields i x y l h)
  compare-stands i (field x) ended l e f h = one i l _ (((x, e), f), refl) h
  compare-stands i (field x) (refusal m) l e f h = one i l _ (shown i (field x) (refusal m) dash (number m) e f refl refl (λ z. not-dash m z.1)) h
  compare-stands i (field x) unread l e f h = absurd (mathlib.Core.List.Memᴰ.not-nil h)
  compare-stands i ended (field y) l e f h = one i l _ (((y, f), e), refl) h
  compare-stands i ended ended l e f h = absurd (mathlib.Core.List.Memᴰ.not-nil h)
  compare-stands i ended (refusal m) l e f h = one i l _ (shown i ended (refusal m) dash (number m) e f refl refl (λ z. not-dash m z.1)) h
  compare-stands i ended unread l e f h = absurd (mathlib.Core.List.Memᴰ.not-nil h)
  compare-stands i (refusal n) (field y) l e f h = one i l _ (shown i (refusal n) (field y) (number n) dash e f refl refl (λ z. not-dash n z.0)) h
  compare-stands i (refusal n) ended l e f h = one i l _ (shown i (refusal n) ended (number n) dash e f refl refl (λ z. not-dash n z.0)) h
  compare-stands i (refusal n) (refusal m) l e f h = one i l _ (shown i (refusal n) (refusal m) (number n) (number m) e f refl refl (λ z. not-dash n z.0)) h
  compare-stands i (refusal n) unread l e f h = absurd (mathlib.Core.List.Memᴰ.not-nil h)
  compare-stands i unread q l e f h = absurd (mathlib.Core.List.Memᴰ.not-nil h)

  -- and every line that stands is there
  abbrev Here : Line → Type 0
  Here l = Memᴰ l (lines_at a b (position l))

  fields-here : (i : ℕ) (x y : FieldContent) (l : Line) → place_at a i ≡ field x → place_at b i ≡ field y → InFields i x y l → Memᴰ l (lines_at a b i)
  unfolding compare_at
  fields-here i x y l p q h = rw (p, q) (of_fields i x y l h)

  refused-here : (i : ℕ) (p q : Place) (l r : Shown) → ShownAs p l → ShownAs q r → (((l ≡ dash) × (r ≡ dash)) → ⊥)
      → Memᴰ (refused_line i l r) (compare_at i p q)
  unfolding compare_at
  refused-here i (field x) (field y) l r h k n = absurd (n (h, k))
  refused-here i (field x) ended l r h k n = absurd (n (h, k))
  refused-here i (field x) (refusal m) l r h k n = mathlib.Core.List.Memᴰ.head (ap₂ (refused_line i) h k)
  refused-here i (field x) unread l r h k n = absurd k
  refused-here i ended (field y) l r h k n = absurd (n (h, k))
  refused-here i ended ended l r h k n = absurd (n (h, k))
  refused-here i ended (refusal m) l r h k n = mathlib.Core.List.Memᴰ.head (ap₂ (refused_line i) h k)
  refused-here i ended unread l r h k n = absurd k
  refused-here i (refusal m) (field y) l r h k n = mathlib.Core.List.Memᴰ.head (ap₂ (refused_line i) h k)
  refused-here i (refusal m) ended l r h k n = mathlib.Core.List.Memᴰ.head (ap₂ (refused_line i) h k)
  refused-here i (refusal m) (refusal o) l r h k n = mathlib.Core.List.Memᴰ.head (ap₂ (refused_line i) h k)
  refused-here i (refusal m) unread l r h k n = absurd k
  refused-here i unread q l r h k n = absurd h

  stands_here : (l : Line) → Stands a b l → Here l
  unfolding compare_at
  stands_here (ts_line i l r) d = fields-here i d.x d.y _ d.is_left d.is_right (inl (ap₂ (ts_line i) (sym d.left_is) (sym d.right_is), λ e. d.differ (sym d.left_is ∙ e ∙ d.right_is)))
  stands_here (f_line i l r) d = fields-here i d.x d.y _ d.is_left d.is_right (inr (inl (ap₂ (f_line i) (sym d.left_is) (sym d.right_is), λ e. d.differ (sym d.left_is ∙ e ∙ d.right_is))))
  stands_here (records_line i l r) d = fields-here i d.x d.y _ d.is_left d.is_right (inr (inr (inl (ap₂ (records_line i) (sym d.left_is) (sym d.right_is), λ e. d.differ (sym d.left_is ∙ e ∙ d.right_is)))))
  stands_here (cell_line i j k l r) d =
      fields-here i d.x d.y _ d.is_left d.is_right
      (inr (inr (inr (record {
        j = j;
        left_record = d.left_record;
        right_record = d.right_record;
        cells = record { k = k; left_cell = d.left_cell; right_cell = d.right_cell; is = ap₂ (cell_line i j k) (sym d.left_is) (sym d.right_is); differ = λ e. d.differ (sym d.left_is ∙ e ∙ d.right_is) };
      }))))
  stands_here (only_line i left) h = rw (h.0.1, h.1) (mathlib.Core.List.Memᴰ.head refl)
  stands_here (only_line i right) h = rw (h.0.1, h.1) (mathlib.Core.List.Memᴰ.head refl)
  stands_here (refused_line i l r) h = refused-here i (place_at a i) (place_at b i) l r h.0 h.1 h.2

  -- positions past both files say nothing
  past : (i : ℕ) (xs ys : List FieldContent) (n m : ℕ) → length xs < i → length ys < i → compare_at i (place_in xs n i) (place_in ys m i) ≡ []
  unfolding compare_at
  past i xs ys n m h k = go (place_in xs n i) (place_in ys m i) refl refl
    where
      no_field : (zs : List FieldContent) (o : ℕ) (x : FieldContent) → length zs < i → place_in zs o i ≡ field x → ⊥
      no_field zs o x l e = at zs i ((field-iff o zs i x).0 e) l
        where
          at : (zs : List FieldContent) (i : ℕ) → At zs i x → length zs < i → ⊥
          at [] i q l = q
          at (z ∷ zs) zero q l = omega arith
          at (z ∷ zs) (suc i) q l = at zs i q (omega arith)

      go : (p q : Place) → place_in xs n i ≡ p → place_in ys m i ≡ q → compare_at i p q ≡ []
      go (field x) q e f = absurd (no_field xs n x h e)
      go ended (field y) e f = absurd (no_field ys m y k f)
      go ended ended e f = refl
      go ended (refusal o) e f = absurd (omega (arith, ((refusal-iff m ys i o).0 f).0))
      go ended unread e f = refl
      go (refusal o) q e f = absurd (omega (arith, ((refusal-iff n xs i o).0 e).0))
      go unread q e f = refl

  within_both : (i : ℕ) (l : Line) → Memᴰ l (lines_at a b i) → i < suc (max (length a.fields) (length b.fields))
  within_both i l h = go (le-or-lt i (max (length a.fields) (length b.fields)))
    where
      le-or-lt : (x y : ℕ) → (x ≤ y) ⊎ (y < x)
      le-or-lt zero y = inl (omega arith)
      le-or-lt (suc x) zero = inr (omega arith)
      le-or-lt (suc x) (suc y) = ⊎_elim (λ l. inl (omega arith)) (λ l. inr (omega arith)) (le-or-lt x y)

      go : (i ≤ max (length a.fields) (length b.fields)) ⊎ (max (length a.fields) (length b.fields) < i) → i < suc (max (length a.fields) (length b.fields))
      go (inl k) = omega arith
      go (inr k) =
          absurd (mathlib.Core.List.Memᴰ.not-nil (subst (λ (z : List Line). Memᴰ l z) (past i a.fields b.fields a.end.number b.end.number (omega arith) (omega arith)) h))

  -- "prints every difference and nothing else": a line is in the list exactly where what it says holds
  pub line-iff : (l : Line) → Memᴰ l (diff a b) ↔ Stands a b l
  unfolding diff
  line-iff l =
      let u = up_to-iff (lines_at a b) (suc (max (length a.fields) (length b.fields))) l in (
        λ h. let q = u.0 h in (compare-stands q.0 (place_at a q.0) (place_at b q.0) l refl refl q.2).0,
        λ s. let m = stands_here l s in u.1 (position l, within_both (position l) l m, m),
      )

-- ORDER
pub less-trans : (xs ys zs : List ℕ) → Less xs ys → Less ys zs → Less xs zs
less-trans [] ys zs p q = absurd p
less-trans (x ∷ xs) [] zs p q = absurd p
less-trans (x ∷ xs) (y ∷ ys) [] p q = absurd q
less-trans (x ∷ xs) (y ∷ ys) (z ∷ zs) (inl p) (inl q) = inl (omega arith)
less-trans (x ∷ xs) (y ∷ ys) (z ∷ zs) (inl p) (inr q) = inl (omega (arith, q.0))
less-trans (x ∷ xs) (y ∷ ys) (z ∷ zs) (inr p) (inl q) = inl (omega (arith, p.0))
less-trans (x ∷ xs) (y ∷ ys) (z ∷ zs) (inr p) (inr q) = inr (p.0 ∙ q.0, less-trans xs ys zs p.1 q.1)

pub less-irreflexive : (xs : List ℕ) → Less xs xs → ⊥
less-irreflexive [] p = p
less-irreflexive (x ∷ xs) (inl p) = omega arith
less-irreflexive (x ∷ xs) (inr p) = less-irreflexive xs p.1

-- a line of a field's records is a cell's
cell-line : (i j : ℕ) (xs ys : List ℕ) (l : Line) → InCells i j xs ys l → (k : ℕ) × (key l ≡ i ∷ 3 ∷ j ∷ k ∷ [])
cell-line i j xs ys l h = (h.k, ap key h.is)

before-keys : (x y : Line) (k m : List ℕ) → key x ≡ k → key y ≡ m → Less k m → Before x y
before-keys x y k m e f h = subst (λ (z : List ℕ). Less z (key y)) (sym e) (subst (λ (z : List ℕ). Less k z) (sym f) h)

sorted-differ : (line : ℕ → ℕ → Line) (l r : ℕ) → Sorted (differ line l r)
sorted-differ line l r = go (eqb l r)
  where
    go : (b : Bool) → Sorted (cond b [] (line l r ∷ []))
    go true = tt
    go false = (λ y h. absurd (mathlib.Core.List.Memᴰ.not-nil h), tt)

sorted-cells : (i j : ℕ) (xs ys : List ℕ) → Sorted (cell_lines i j xs ys)
unfolding cell_lines
sorted-cells i j xs ys =
    sorted-up_to (λ k. differ (cell_line i j k) (get_or xs k 0) (get_or ys k 0)) (min (length xs) (length ys))
    (λ k. sorted-differ (cell_line i j k) (get_or xs k 0) (get_or ys k 0))
    (λ k m x y h p q.
    before-keys x y (i ∷ 3 ∷ j ∷ k ∷ []) (i ∷ 3 ∷ j ∷ m ∷ [])
    (ap key ((differ-iff (cell_line i j k) (get_or xs k 0) (get_or ys k 0) x).0 p).0)
    (ap key ((differ-iff (cell_line i j m) (get_or xs m 0) (get_or ys m 0) y).0 q).0)
    (inr (refl, inr (refl, inr (refl, inl h)))))

sorted-records : (i : ℕ) (xs ys : List Record) → Sorted (record_lines i xs ys)
unfolding record_lines
sorted-records i xs ys =
    sorted-up_to (λ j. cell_lines i j (cells_at xs j) (cells_at ys j)) (min (length xs) (length ys))
    (λ j. sorted-cells i j (cells_at xs j) (cells_at ys j))
    (λ j m x y h p q.
    let c = cell-line i j (cells_at xs j) (cells_at ys j) x ((in_cells i j (cells_at xs j) (cells_at ys j) x).0 p) in
    let d = cell-line i m (cells_at xs m) (cells_at ys m) y ((in_cells i m (cells_at xs m) (cells_at ys m) y).0 q) in
    before-keys x y (i ∷ 3 ∷ j ∷ c.0 ∷ []) (i ∷ 3 ∷ m ∷ d.0 ∷ []) c.1 d.1 (inr (refl, inr (refl, inl h))))

-- a line of position `i` whose kind is at least `n`
abbrev From : (i n : ℕ) → Line → Type 0
From i n l = (position l ≡ i) × (n ≤ kind l)

from-records : (i n : ℕ) (xs ys : List Record) (l : Line) → n ≤ 3 → Memᴰ l (record_lines i xs ys) → From i n l
from-records i n xs ys l h m = let q = (in-records i xs ys l).0 m in subst (From i n) (sym q.cells.is) (refl, h)

from-append : (i n : ℕ) (xs ys : List Line) → ((l : Line) → Memᴰ l xs → From i n l) → ((l : Line) → Memᴰ l ys → From i n l)
    → (l : Line) → Memᴰ l (xs ++ ys) → From i n l
from-append i n xs ys p q l m = ⊎_elim (λ h. p l h) (λ h. q l h) (mathlib.Core.List.Memᴰ.append_cases xs m)

from-differ : (i n : ℕ) (line : ℕ → ℕ → Line) (l r : ℕ) → From i n (line l r) → (x : Line) → Memᴰ x (differ line l r) → From i n x
from-differ i n line l r h x m = subst (From i n) (sym ((differ-iff line l r x).0 m).0) h

before-kind : (i n : ℕ) (x y : Line) → position x ≡ i → kind x ≡ n → From i (suc n) y → Before x y
before-kind i n x y p k h = inr (p ∙ sym h.0, inl (omega (arith, k, h.1)))

sorted-fields : (i : ℕ) (x y : FieldContent) → Sorted (field_lines i x y)
unfolding field_lines
sorted-fields i x y =
    let t = x.timestamp in
    let u = y.timestamp in
    let rs = record_lines i x.records y.records in
    let cs = differ (records_line i) (length x.records) (length y.records) in
    let fs = differ (f_line i) x.f y.f in
    let three : (l : Line) → Memᴰ l rs → From i 3 l = λ l m. from-records i 3 x.records y.records l (omega arith) m in
    let two : (l : Line) → Memᴰ l (cs ++ rs) → From i 2 l =
    from-append i 2 cs rs (from-differ i 2 (records_line i) (length x.records) (length y.records) (refl, omega arith)) (λ l m. from-records i 2 x.records y.records l (omega arith) m) in
    let one : (l : Line) → Memᴰ l (fs ++ (cs ++ rs)) → From i 1 l =
    from-append i 1 fs (cs ++ rs) (from-differ i 1 (f_line i) x.f y.f (refl, omega arith)) (λ l m. let q = two l m in (q.0, omega (arith, q.1))) in
    sorted-append (differ (ts_line i) t u) (fs ++ (cs ++ rs)) (sorted-differ (ts_line i) t u)
    (sorted-append fs (cs ++ rs) (sorted-differ (f_line i) x.f y.f)
    (sorted-append cs rs (sorted-differ (records_line i) (length x.records) (length y.records)) (sorted-records i x.records y.records)
    (λ a b p q. let e = ((differ-iff (records_line i) (length x.records) (length y.records) a).0 p).0 in before-kind i 2 a b (ap position e) (ap kind e) (three b q)))
    (λ a b p q. let e = ((differ-iff (f_line i) x.f y.f a).0 p).0 in before-kind i 1 a b (ap position e) (ap kind e) (two b q)))
    (λ a b p q. let e = ((differ-iff (ts_line i) t u a).0 p).0 in before-kind i 0 a b (ap position e) (ap kind e) (one b q))

sorted-one : (l : Line) → Sorted (l ∷ [])
sorted-one l = (λ y h. absurd (mathlib.Core.List.Memᴰ.not-nil h), tt)

sorted-compare : (i : ℕ) (p q : Place) → Sorted (compare_at i p q)
unfolding compare_at
sorted-compare i (field x) (field y) = sorted-fields i x y
sorted-compare i (field x) ended = sorted-one (only_line i left)
sorted-compare i (field x) (refusal m) = sorted-one (refused_line i dash (number m))
sorted-compare i (field x) unread = tt
sorted-compare i ended (field y) = sorted-one (only_line i right)
sorted-compare i ended ended = tt
sorted-compare i ended (refusal m) = sorted-one (refused_line i dash (number m))
sorted-compare i ended unread = tt
sorted-compare i (refusal n) (field y) = sorted-one (refused_line i (number n) dash)
sorted-compare i (refusal n) ended = sorted-one (refused_line i (number n) dash)
sorted-compare i (refusal n) (refusal m) = sorted-one (refused_line i (number n) (number m))
sorted-compare i (refusal n) unread = tt
sorted-compare i unread q = tt

-- THE LINES ARE IN STRICTLY INCREASING ORDER
pub diff-sorted : (a b : FileRead) → Sorted (diff a b)
unfolding diff
diff-sorted a b =
    sorted-up_to (lines_at a b) _ (λ i. sorted-compare i (place_at a i) (place_at b i))
    (λ i j x y h p q.
    let e = (compare-stands a b i (place_at a i) (place_at b i) x refl refl p).1 in
    let f = (compare-stands a b j (place_at a j) (place_at b j) y refl refl q).1 in
    inl (omega (arith, e, f)))

-- two lists in order that have the same lines are one list
sorted-unique : (xs ys : List Line) → Sorted xs → Sorted ys → ((l : Line) → Memᴰ l xs ↔ Memᴰ l ys) → xs ≡ ys
sorted-unique [] [] p q h = refl
sorted-unique [] (y ∷ ys) p q h = absurd (mathlib.Core.List.Memᴰ.not-nil ((h y).1 (mathlib.Core.List.Memᴰ.head refl)))
sorted-unique (x ∷ xs) [] p q h = absurd (mathlib.Core.List.Memᴰ.not-nil ((h x).0 (mathlib.Core.List.Memᴰ.head refl)))
sorted-unique (x ∷ xs) (y ∷ ys) p q h =
    let e : x ≡ y = first (mathlib.Core.List.Memᴰ.cases_cons ((h x).0 (mathlib.Core.List.Memᴰ.head refl))) (mathlib.Core.List.Memᴰ.cases_cons ((h y).1 (mathlib.Core.List.Memᴰ.head refl))) in
    ap₂ ◌∷◌ e (sorted-unique xs ys p.1 q.1 (λ l. (λ m. to e l m (mathlib.Core.List.Memᴰ.cases_cons ((h l).0 (mathlib.Core.List.Memᴰ.tail m))), λ m. from e l m (mathlib.Core.List.Memᴰ.cases_cons ((h l).1 (mathlib.Core.List.Memᴰ.tail m))))))
  where
    first : (x ≡ y) ⊎ Memᴰ x ys → (y ≡ x) ⊎ Memᴰ y xs → x ≡ y
    first (inl e) m = e
    first (inr m) (inl e) = sym e
    first (inr m) (inr n) = absurd (less-irreflexive (key x) (less-trans (key x) (key y) (key x) (p.0 y n) (q.0 x m)))

    to : x ≡ y → (l : Line) → Memᴰ l xs → (l ≡ y) ⊎ Memᴰ l ys → Memᴰ l ys
    to e l m (inl k) = absurd (less-irreflexive (key x) (subst (Before x) (k ∙ sym e) (p.0 l m)))
    to e l m (inr n) = n

    from : x ≡ y → (l : Line) → Memᴰ l ys → (l ≡ x) ⊎ Memᴰ l xs → Memᴰ l xs
    from e l m (inl k) = absurd (less-irreflexive (key y) (subst (Before y) (k ∙ e) (q.0 l m)))
    from e l m (inr n) = n

-- THE TWO FIX THE LIST
pub diff-only : (a b : FileRead) (ls : List Line) → Sorted ls → ((l : Line) → Memᴰ l ls ↔ Stands a b l) → ls ≡ diff a b
diff-only a b ls s h =
    sorted-unique ls (diff a b) s (diff-sorted a b)
    (λ l. (λ m. (line-iff a b l).1 ((h l).0 m), λ m. (h l).1 ((line-iff a b l).0 m)))

-- "the list ends with that line"
sorted-behind : (xs ys : List Line) (x : Line) → Sorted (xs ++ (x ∷ ys)) → (y : Line) → Memᴰ y ys → Before x y
sorted-behind [] ys x s y m = s.0 y m
sorted-behind (z ∷ xs) ys x s y m = sorted-behind xs ys x s.1 y m

module _ (a b : FileRead) (i : ℕ) (l r : Shown) where
  -- a side is refused at `i`, so no position behind it has a line
  stopped : Stands a b (refused_line i l r) → (j : ℕ) (y : Line) → i < j → Memᴰ y (lines_at a b j) → ⊥
  unfolding compare_at
  stopped s j y k m = go (place_at a i) (place_at b i) refl refl s.0 s.1
    where
      left-unread : (n : ℕ) → place_at a i ≡ refusal n → ⊥
      left-unread n e =
          let q = (refusal-iff a.end.number a.fields i n).0 e in
          let u : place_at a j ≡ unread = (unread-iff a.end.number a.fields j).1 (omega (arith, q.0), λ z. q.2 (sym q.1 ∙ z)) in
          mathlib.Core.List.Memᴰ.not-nil (rw u at m)

      right-unread : (n : ℕ) → place_at b i ≡ refusal n → ⊥
      right-unread n e =
          let q = (refusal-iff b.end.number b.fields i n).0 e in
          let u : place_at b j ≡ unread = (unread-iff b.end.number b.fields j).1 (omega (arith, q.0), λ z. q.2 (sym q.1 ∙ z)) in
          none (place_at a j) (rw u at m)
        where
          none : (p : Place) → Memᴰ y (compare_at j p unread) → ⊥
          none (field x) h = mathlib.Core.List.Memᴰ.not-nil h
          none ended h = mathlib.Core.List.Memᴰ.not-nil h
          none (refusal o) h = mathlib.Core.List.Memᴰ.not-nil h
          none unread h = mathlib.Core.List.Memᴰ.not-nil h

      go : (p q : Place) → place_at a i ≡ p → place_at b i ≡ q → ShownAs p l → ShownAs q r → ⊥
      go (refusal n) q e f h k = left-unread n e
      go unread q e f h k = h
      go (field x) (refusal n) e f h k = right-unread n f
      go (field x) (field y) e f h k = s.2 (h, k)
      go (field x) ended e f h k = s.2 (h, k)
      go (field x) unread e f h k = k
      go ended (refusal n) e f h k = right-unread n f
      go ended (field y) e f h k = s.2 (h, k)
      go ended ended e f h k = s.2 (h, k)
      go ended unread e f h k = k

  pub refused-last : (xs ys : List Line) → diff a b ≡ xs ++ (refused_line i l r ∷ ys) → ys ≡ []
  unfolding diff
  refused-last xs [] e = refl
  refused-last xs (y ∷ ys) e =
      let s : Sorted (xs ++ (refused_line i l r ∷ y ∷ ys)) = subst Sorted e (diff-sorted a b) in
      let here : Memᴰ (refused_line i l r) (diff a b) = subst (λ (z : List Line). Memᴰ (refused_line i l r) z) (sym e) (mathlib.Core.List.Memᴰ.append_right xs (mathlib.Core.List.Memᴰ.head refl)) in
      let mem : Memᴰ y (diff a b) = subst (λ (z : List Line). Memᴰ y z) (sym e) (mathlib.Core.List.Memᴰ.append_right xs (mathlib.Core.List.Memᴰ.tail (mathlib.Core.List.Memᴰ.head refl))) in
      let q = (up_to-iff (lines_at a b) (suc (max (length a.fields) (length b.fields))) y).0 mem in
      let at = (compare-stands a b q.0 (place_at a q.0) (place_at b q.0) y refl refl q.2).1 in
      absurd (stopped ((line-iff a b (refused_line i l r)).0 here) q.0 y (later y q.0 at (sorted-behind xs (y ∷ ys) (refused_line i l r) s y (mathlib.Core.List.Memᴰ.head refl))) q.2)
    where
      small : (z : Line) → kind z ≤ 5
      small (ts_line i l r) = omega arith
      small (f_line i l r) = omega arith
      small (records_line i l r) = omega arith
      small (cell_line i j k l r) = omega arith
      small (only_line i s) = omega arith
      small (refused_line i l r) = omega arith

      later : (z : Line) (m : ℕ) → position z ≡ m → Before (refused_line i l r) z → i < m
      later z m e (inl h) = omega (arith, e)
      later z m e (inr h) = absurd (⊎_elim (λ k. omega (arith, small z)) (λ k. k.1) h.1)

-- WHERE THE COMPARISON MAY STOP: one side is refused, or both have ended
abbrev pub Stop : (p q : Place) → Type 0
Stop (refusal n) q = Unit {0}
Stop (field x) (refusal m) = Unit {0}
Stop (field x) (field y) = ⊥
Stop (field x) ended = ⊥
Stop (field x) unread = Unit {0}
Stop ended (refusal m) = Unit {0}
Stop ended ended = Unit {0}
Stop ended (field y) = ⊥
Stop ended unread = Unit {0}
Stop unread q = Unit {0}

refusal-then : (n : ℕ) (xs : List FieldContent) (i j m : ℕ) → i < j → place_in xs n i ≡ refusal m → place_in xs n j ≡ unread
refusal-then n xs i j m h e =
    let q = (refusal-iff n xs i m).0 e in
    (unread-iff n xs j).1 (omega (arith, q.0), λ z. q.2 (sym q.1 ∙ z))

unread-then : (n : ℕ) (xs : List FieldContent) (i j : ℕ) → i < j → place_in xs n i ≡ unread → place_in xs n j ≡ unread
unread-then n xs i j h e = let q = (unread-iff n xs i).0 e in (unread-iff n xs j).1 (omega (arith, q.0), q.1)

ended-then : (n : ℕ) (xs : List FieldContent) (i j : ℕ) → i < j → place_in xs n i ≡ ended → place_in xs n j ≡ ended
ended-then n xs i j h e = let q = (ended-iff n xs i).0 e in (ended-iff n xs j).1 (omega (arith, q.0), q.1)

module _ (a b : FileRead) where
  right-silent : (j : ℕ) (p q : Place) → q ≡ unread → compare_at j p q ≡ []
  unfolding compare_at
  right-silent j p q e = ap (compare_at j p) e ∙ none p
    where
      none : (p : Place) → compare_at j p unread ≡ []
      none (field x) = refl
      none ended = refl
      none (refusal n) = refl
      none unread = refl

  left-silent : (j : ℕ) (p q : Place) → p ≡ unread → compare_at j p q ≡ []
  unfolding compare_at
  left-silent j p q e = ap (λ (z : Place). compare_at j z q) e

  both-silent : (j : ℕ) (p q : Place) → p ≡ ended → q ≡ ended → compare_at j p q ≡ []
  unfolding compare_at
  both-silent j p q e f = ap₂ (compare_at j) e f

  stop-silent : (i j : ℕ) → i < j → (p q : Place) → place_at a i ≡ p → place_at b i ≡ q → Stop p q → lines_at a b j ≡ []
  stop-silent i j h (refusal n) q e f s = left-silent j (place_at a j) (place_at b j) (refusal-then a.end.number a.fields i j n h e)
  stop-silent i j h unread q e f s = left-silent j (place_at a j) (place_at b j) (unread-then a.end.number a.fields i j h e)
  stop-silent i j h (field x) (refusal m) e f s = right-silent j (place_at a j) (place_at b j) (refusal-then b.end.number b.fields i j m h f)
  stop-silent i j h (field x) unread e f s = right-silent j (place_at a j) (place_at b j) (unread-then b.end.number b.fields i j h f)
  stop-silent i j h (field x) (field y) e f s = absurd s
  stop-silent i j h (field x) ended e f s = absurd s
  stop-silent i j h ended (refusal m) e f s = right-silent j (place_at a j) (place_at b j) (refusal-then b.end.number b.fields i j m h f)
  stop-silent i j h ended unread e f s = right-silent j (place_at a j) (place_at b j) (unread-then b.end.number b.fields i j h f)
  stop-silent i j h ended (field y) e f s = absurd s
  stop-silent i j h ended ended e f s = both-silent j (place_at a j) (place_at b j) (ended-then a.end.number a.fields i j h e) (ended-then b.end.number b.fields i j h f)

  -- the positions up to such a one are the whole list: what a program that goes on position by position prints
  pub diff-stops : (i : ℕ) → Stop (place_at a i) (place_at b i) → diff a b ≡ up_to (lines_at a b) (suc i)
  unfolding diff
  diff-stops i s = go (le-or-lt (suc i) n)
    where
      n : ℕ
      n = suc (max (length a.fields) (length b.fields))

      le-or-lt : (x y : ℕ) → (x ≤ y) ⊎ (y ≤ x)
      le-or-lt x y = cases x y
        where
          cases : (x y : ℕ) → (x ≤ y) ⊎ (y ≤ x)
          cases zero y = inl (omega arith)
          cases (suc x) zero = inr (omega arith)
          cases (suc x) (suc y) = ⊎_elim (λ l. inl (omega arith)) (λ l. inr (omega arith)) (cases x y)

      go : (suc i ≤ n) ⊎ (n ≤ suc i) → up_to (lines_at a b) (suc (max (length a.fields) (length b.fields))) ≡ up_to (lines_at a b) (suc i)
      go (inl l) =
          let e : n ≡ suc i + (n - suc i) = omega arith in
          ap (up_to (lines_at a b)) e
          ∙ up_to-ends (lines_at a b) (suc i) (n - suc i) (λ j h. stop-silent i j (omega arith) (place_at a i) (place_at b i) refl refl s)
      go (inr l) =
          let e : suc i ≡ n + (suc i - n) = omega arith in
          sym (ap (up_to (lines_at a b)) e
          ∙ up_to-ends (lines_at a b) n (suc i - n) (λ j h. past a b j a.fields b.fields a.end.number b.end.number (omega arith) (omega arith)))
