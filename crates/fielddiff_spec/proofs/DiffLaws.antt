-- What the list of differences says: exactly the lines that stand, the same list exchanged, and empty exactly for equal files.
use mathlib.Core.Path.{◌≡◌, refl, ap, ap₂, sym, ◌∙◌, subst}
use mathlib.Core.Bool.{Bool, true, false, cond}
use mathlib.Core.Logic.{◌↔◌}
use mathlib.Core.List.Memᴰ
use mathlib.Core.List.{List, [], ◌∷◌, ◌++◌, map, nil≢cons, Memᴰ}
use Prim.Native.Nat.{ℕ, zero, suc, ◌<◌, min, max}
use native.Mathlib.Nat.{max_comm, min_comm}
use native.Mathlib.Omega.{arith}
use lib.Dec.{eqb}
use lib.ListN.{length, get_or, drop}
use lib.Seq.{ext_get_or}
use borrow.Author.Tests.{eq-eqb, ne_eqb, eqb-true, eqb-false}
use Rattle.wire_spec.specs.Anc.{Record}
use Rattle.wire_spec.specs.Cells.{head_cells, cells_of}
use Rattle.wire_spec.proofs.ListLaws.{map-append}
use Rattle.fieldfile_spec.specs.File.{FieldContent, FileRead, read_file}
use Rattle.fielddiff_spec.specs.Diff.{Line, ts_line, f_line, records_line, cell_line, Place, field, ended, refusal, unread, end_number, place_in, place_at, up_to, differ, cell_lines, cells_at, record_lines, field_lines, compare_at, lines_at, diff, differences, swap}
use Rattle.fielddiff_spec.proofs.UpToLaws.{append-empty, up_to-empty, up_to-map}

-- equality of numbers does not depend on the side
eqb-sym : (l r : ℕ) → eqb l r ≡ eqb r l
eqb-sym l r = go (eqb r l) refl
  where
    go : (b : Bool) → eqb r l ≡ b → eqb l r ≡ b
    go true e = eq-eqb l r (sym (eqb-true r l e))
    go false e = ne_eqb l r (λ h. eqb-false r l e (sym h))

-- ONE PAIR OF NUMBERS
pub differ-iff : (line : ℕ → ℕ → Line) (l r : ℕ) (x : Line) → Memᴰ x (differ line l r) ↔ ((x ≡ line l r) × (l ≡ r → ⊥))
differ-iff line l r x = (λ h. to (eqb l r) refl h, λ h. rw (ne_eqb l r h.1) (Memᴰ.head h.0))
  where
    to : (b : Bool) → eqb l r ≡ b → Memᴰ x (cond b [] (line l r ∷ [])) → (x ≡ line l r) × (l ≡ r → ⊥)
    to true e h = absurd (Memᴰ.not-nil h)
    to false e h = (Memᴰ.eq_of_singleton h, eqb-false l r e)

differ-empty : (line : ℕ → ℕ → Line) (l r : ℕ) → (differ line l r ≡ []) ↔ (l ≡ r)
differ-empty line l r = (λ h. to (eqb l r) refl h, λ e. rw (eq-eqb l r e))
  where
    to : (b : Bool) → eqb l r ≡ b → cond b [] (line l r ∷ []) ≡ [] → l ≡ r
    to true e h = eqb-true l r e
    to false e h = absurd (nil≢cons (sym h))

differ-swap : (line line' : ℕ → ℕ → Line) (l r : ℕ) → line' r l ≡ swap (line l r) → differ line' r l ≡ map swap (differ line l r)
differ-swap line line' l r h = ap (λ b. cond b [] (line' r l ∷ [])) (eqb-sym r l) ∙ go (eqb l r)
  where
    go : (b : Bool) → cond b [] (line' r l ∷ []) ≡ map swap (cond b [] (line l r ∷ []))
    go true = refl
    go false = ap (λ x. x ∷ []) h

-- EMPTY
-- as far as both go, the cells are the same
abbrev Agree : (xs ys : List ℕ) → Type 0
Agree xs ys = (k : ℕ) → k < min (length xs) (length ys) → get_or xs k 0 ≡ get_or ys k 0

cells-empty : (i j : ℕ) (xs ys : List ℕ) → (cell_lines i j xs ys ≡ []) ↔ Agree xs ys
unfolding cell_lines
cells-empty i j xs ys =
    let u = up_to-empty (λ k. differ (cell_line i j k) (get_or xs k 0) (get_or ys k 0)) (min (length xs) (length ys)) in (
      λ e k h. (differ-empty (cell_line i j k) (get_or xs k 0) (get_or ys k 0)).0 (u.0 e k h),
      λ h. u.1 (λ k l. (differ-empty (cell_line i j k) (get_or xs k 0) (get_or ys k 0)).1 (h k l)),
    )

-- a record is what its cells say
pub cells-inj : (p q : Record) → cells_of p ≡ cells_of q → p ≡ q
cells-inj p q e =
    λ i. record {
      c = get_or (e i) 0 0;
      line = get_or (e i) 1 0;
      offset = get_or (e i) 2 0;
      s = get_or (e i) 3 0;
      stream = get_or (e i) 4 0;
      did = get_or (e i) 5 0;
      sdid = get_or (e i) 6 0;
      words = drop head_cells (e i);
    }

-- records that agree as far as both go are equal: the cell n tells how many words there are
agree-equal : (p q : Record) → Agree (cells_of p) (cells_of q) → p ≡ q
agree-equal p q h =
    let n : length p.words ≡ length q.words = h 7 (omega arith) in
    cells-inj p q (ext_get_or 0 (cells_of p) (cells_of q) (omega arith) (λ k l. h k (omega arith)))

agree_same : (xs : List ℕ) → Agree xs xs
agree_same xs k h = refl

records-agree : (xs ys : List Record) → length xs ≡ length ys
    → ((j : ℕ) → j < min (length xs) (length ys) → Agree (cells_at xs j) (cells_at ys j)) → xs ≡ ys
records-agree [] [] e h = refl
records-agree [] (y ∷ ys) e h = absurd (omega arith)
records-agree (x ∷ xs) [] e h = absurd (omega arith)
records-agree (x ∷ xs) (y ∷ ys) e h =
    ap₂ ◌∷◌ (agree-equal x y (h 0 (omega arith))) (records-agree xs ys (omega arith) (λ j l. h (suc j) (omega arith)))

fields-empty : (i : ℕ) (x y : FieldContent) → (field_lines i x y ≡ []) ↔ (x ≡ y)
unfolding field_lines record_lines
fields-empty i x y = (to, λ e. subst (λ (z : FieldContent). field_lines i x z ≡ []) e (same x))
  where
    to : field_lines i x y ≡ [] → x ≡ y
    to e =
        let p = append-empty (differ (ts_line i) x.timestamp y.timestamp) _ e in
        let q = append-empty (differ (f_line i) x.f y.f) _ p.1 in
        let r = append-empty (differ (records_line i) (length x.records) (length y.records)) _ q.1 in
        let t = (differ-empty (ts_line i) x.timestamp y.timestamp).0 p.0 in
        let f = (differ-empty (f_line i) x.f y.f).0 q.0 in
        let n = (differ-empty (records_line i) (length x.records) (length y.records)).0 r.0 in
        let u = (up_to-empty _ (min (length x.records) (length y.records))).0 r.1 in
        let rs = records-agree x.records y.records n (λ j l. (cells-empty i j (cells_at x.records j) (cells_at y.records j)).0 (u j l)) in
        λ k. record { timestamp = t k; f = f k; records = rs k }

    same : (z : FieldContent) → field_lines i z z ≡ []
    same z =
        ap₂ ◌++◌ ((differ-empty (ts_line i) z.timestamp z.timestamp).1 refl)
        (ap₂ ◌++◌ ((differ-empty (f_line i) z.f z.f).1 refl)
        (ap₂ ◌++◌ ((differ-empty (records_line i) (length z.records) (length z.records)).1 refl)
        ((up_to-empty _ (min (length z.records) (length z.records))).1
        (λ j l. (cells-empty i j (cells_at z.records j) (cells_at z.records j)).1 (agree_same (cells_at z.records j))))))

-- two places of which there is nothing to say
abbrev Quiet : (p q : Place) → Type 0
Quiet (field x) (field y) = x ≡ y
Quiet (field x) ended = ⊥
Quiet (field x) (refusal m) = ⊥
Quiet (field x) unread = Unit {0}
Quiet ended (field y) = ⊥
Quiet ended ended = Unit {0}
Quiet ended (refusal m) = ⊥
Quiet ended unread = Unit {0}
Quiet (refusal n) (field y) = ⊥
Quiet (refusal n) ended = ⊥
Quiet (refusal n) (refusal m) = ⊥
Quiet (refusal n) unread = Unit {0}
Quiet unread q = Unit {0}

compare-empty : (i : ℕ) (p q : Place) → (compare_at i p q ≡ []) ↔ Quiet p q
unfolding compare_at
compare-empty i (field x) (field y) = fields-empty i x y
compare-empty i (field x) ended = (λ e. nil≢cons (sym e), λ h. absurd h)
compare-empty i (field x) (refusal m) = (λ e. nil≢cons (sym e), λ h. absurd h)
compare-empty i (field x) unread = (λ e. tt, λ h. refl)
compare-empty i ended (field y) = (λ e. nil≢cons (sym e), λ h. absurd h)
compare-empty i ended ended = (λ e. tt, λ h. refl)
compare-empty i ended (refusal m) = (λ e. nil≢cons (sym e), λ h. absurd h)
compare-empty i ended unread = (λ e. tt, λ h. refl)
compare-empty i (refusal n) (field y) = (λ e. nil≢cons (sym e), λ h. absurd h)
compare-empty i (refusal n) ended = (λ e. nil≢cons (sym e), λ h. absurd h)
compare-empty i (refusal n) (refusal m) = (λ e. nil≢cons (sym e), λ h. absurd h)
compare-empty i (refusal n) unread = (λ e. tt, λ h. refl)
compare-empty i unread q = (λ e. tt, λ h. refl)

quiet-equal : (xs ys : List FieldContent) (n m : ℕ)
    → ((i : ℕ) → i < suc (max (length xs) (length ys)) → Quiet (place_in xs n i) (place_in ys m i)) → (xs ≡ ys) × (n ≡ 54) × (m ≡ 54)
quiet-equal [] [] n m h = go (eqb n 54) (eqb m 54) refl refl (h 0 (omega arith))
  where
    go : (b c : Bool) → eqb n 54 ≡ b → eqb m 54 ≡ c → Quiet (cond b ended (refusal n)) (cond c ended (refusal m)) → (◌≡◌ {A = List FieldContent} [] []) × (n ≡ 54) × (m ≡ 54)
    go true true e f q = (refl, eqb-true n 54 e, eqb-true m 54 f)
    go true false e f q = absurd q
    go false true e f q = absurd q
    go false false e f q = absurd q
quiet-equal [] (y ∷ ys) n m h = absurd (go (eqb n 54) (h 0 (omega arith)))
  where
    go : (b : Bool) → Quiet (cond b ended (refusal n)) (field y) → ⊥
    go true q = q
    go false q = q
quiet-equal (x ∷ xs) [] n m h = absurd (go (eqb m 54) (h 0 (omega arith)))
  where
    go : (b : Bool) → Quiet (field x) (cond b ended (refusal m)) → ⊥
    go true q = q
    go false q = q
quiet-equal (x ∷ xs) (y ∷ ys) n m h =
    let t = quiet-equal xs ys n m (λ i l. h (suc i) (omega arith)) in
    (ap₂ ◌∷◌ (h 0 (omega arith)) t.0, t.1, t.2)

equal-quiet : (xs : List FieldContent) (n m : ℕ) → n ≡ 54 → m ≡ 54 → (i : ℕ) → Quiet (place_in xs n i) (place_in xs m i)
equal-quiet [] n m e f zero = rw (eq-eqb n 54 e, eq-eqb m 54 f) tt
equal-quiet [] n m e f (suc i) = rw (eq-eqb n 54 e, eq-eqb m 54 f) tt
equal-quiet (x ∷ xs) n m e f zero = refl
equal-quiet (x ∷ xs) n m e f (suc i) = equal-quiet xs n m e f i

-- "The list is empty exactly when neither is refused and both hold equal fields"
pub diff-empty : (a b : FileRead) → (diff a b ≡ []) ↔ ((a.fields ≡ b.fields) × (a.end.number ≡ end_number) × (b.end.number ≡ end_number))
unfolding diff
diff-empty a b =
    let n = suc (max (length a.fields) (length b.fields)) in
    let u = up_to-empty (lines_at a b) n in (
      λ e. quiet-equal a.fields b.fields a.end.number b.end.number (λ i h. (compare-empty i (place_at a i) (place_at b i)).0 (u.0 e i h)),
      λ h. u.1 (λ i l. (compare-empty i (place_at a i) (place_at b i)).1
          (subst (λ (ys : List FieldContent). Quiet (place_at a i) (place_in ys b.end.number i)) h.0
          (equal-quiet a.fields a.end.number b.end.number h.1 h.2 i))),
    )

-- SWAPPED
module _ (i : ℕ) where
  cells-swap : (j : ℕ) (xs ys : List ℕ) → cell_lines i j ys xs ≡ map swap (cell_lines i j xs ys)
  unfolding cell_lines
  cells-swap j xs ys =
      ap (up_to _) (min_comm (length ys) (length xs))
      ∙ up_to-map swap _ _ (min (length xs) (length ys)) (λ k h. differ-swap (cell_line i j k) (cell_line i j k) (get_or xs k 0) (get_or ys k 0) refl)

  records-swap : (xs ys : List Record) → record_lines i ys xs ≡ map swap (record_lines i xs ys)
  unfolding record_lines
  records-swap xs ys =
      ap (up_to _) (min_comm (length ys) (length xs))
      ∙ up_to-map swap _ _ (min (length xs) (length ys)) (λ j h. cells-swap j (cells_at xs j) (cells_at ys j))

  fields-swap : (x y : FieldContent) → field_lines i y x ≡ map swap (field_lines i x y)
  unfolding field_lines
  fields-swap x y =
      ap₂ ◌++◌ (differ-swap (ts_line i) (ts_line i) x.timestamp y.timestamp refl)
      (ap₂ ◌++◌ (differ-swap (f_line i) (f_line i) x.f y.f refl)
      (ap₂ ◌++◌ (differ-swap (records_line i) (records_line i) (length x.records) (length y.records) refl) (records-swap x.records y.records)
      ∙ sym (map-append swap (differ (records_line i) (length x.records) (length y.records)) _))
      ∙ sym (map-append swap (differ (f_line i) x.f y.f) _))
      ∙ sym (map-append swap (differ (ts_line i) x.timestamp y.timestamp) _)

  compare-swap : (p q : Place) → compare_at i q p ≡ map swap (compare_at i p q)
  unfolding compare_at
  compare-swap (field x) (field y) = fields-swap x y
  compare-swap (field x) ended = refl
  compare-swap (field x) (refusal m) = refl
  compare-swap (field x) unread = refl
  compare-swap ended (field y) = refl
  compare-swap ended ended = refl
  compare-swap ended (refusal m) = refl
  compare-swap ended unread = refl
  compare-swap (refusal n) (field y) = refl
  compare-swap (refusal n) ended = refl
  compare-swap (refusal n) (refusal m) = refl
  compare-swap (refusal n) unread = refl
  compare-swap unread (field y) = refl
  compare-swap unread ended = refl
  compare-swap unread (refusal m) = refl
  compare-swap unread unread = refl

-- "changing over the two files gives the same list with left and right exchanged"
pub diff-swap : (a b : FileRead) → diff b a ≡ map swap (diff a b)
unfolding diff
diff-swap a b =
    ap (λ (n : ℕ). up_to (lines_at b a) (suc n)) (max_comm (length b.fields) (length a.fields))
    ∙ up_to-map swap (lines_at a b) (lines_at b a) _ (λ i h. compare-swap i (place_at a i) (place_at b i))

-- THE TWO FILES' OCTETS
pub differences-empty : (a b : List ℕ)
    → (differences a b ≡ []) ↔ (((read_file a).fields ≡ (read_file b).fields) × ((read_file a).end.number ≡ end_number) × ((read_file b).end.number ≡ end_number))
differences-empty a b = diff-empty (read_file a) (read_file b)

pub differences-swap : (a b : List ℕ) → differences b a ≡ map swap (differences a b)
differences-swap a b = diff-swap (read_file a) (read_file b)
