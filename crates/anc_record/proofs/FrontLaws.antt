-- The record at the front of cells: what its checks say of where it lies, and what `check_record` answers.
-- By the checks in their order, which all give one number.
use Rattle.std.specs.Prelude.{Option, Some, None}
use mathlib.Core.Path.{◌≡◌, refl, ap, ap₂, sym, ◌∙◌}
use mathlib.Core.Bool.{Bool, true, false, ◌&&◌, true≢false}
use mathlib.Core.List.{List, [], ◌∷◌}
use Prim.Native.Nat.{ℕ, ◌+◌, ◌-◌, ◌^◌, ◌<◌, ◌≤◌}
use native.Mathlib.Omega.{arith}
use lib.ListN.{length, take, drop, get_or, length-drop}
use lib.Seq.{length-take-le}
use lib.Dec.{leb, ltb}
use borrow.Author.Tests.{leb-true, ltb-true, lt-ltb}
use Rattle.wire_spec.specs.Result.{Result, Ok, refuse, Checks, judge}
use Rattle.wire_spec.specs.Words.{word_bits, header_numbers, least_clear, most_clear, is_clear, all_clear}
use Rattle.wire_spec.specs.Anc.{Each, Record}
use Rattle.wire_spec.specs.Cells.{head_cells, max_index, cell_count, cell_index, cell_record, all_below, head_in_range, cell_checks, rest}
use Rattle.wire_spec.specs.declared.count.WordCount.{WordCount}
use Rattle.wire_spec.proofs.ResultLaws.{Passed, judge-passes, and-true, and_both}
use Rattle.wire_spec.proofs.CellLaws.{front-passed}
use Rattle.wire_spec.proofs.ListLaws.{part-all}
use Rattle.anc_record.specs.declared.check.Front.{Front}
use Rattle.anc_record.specs.Answers.{front_from, front_of, has_words, is_clear_front}

-- a record whose checks pass lies in the cells, and has as many words as its count says
pub record Lies (l : List ℕ) : Type 0 where
  pub inside : head_cells + cell_count l ≤ length l
  pub small : cell_count l < header_numbers
  pub words : length (cell_record l).words ≡ cell_count l

pub length-words : (l : List ℕ) → head_cells + cell_count l ≤ length l → length (cell_record l).words ≡ cell_count l
unfolding cell_record
length-words l h = length-take-le (cell_count l) (drop head_cells l) (rw (length-drop head_cells l) (omega arith))

pub lies : (l : List ℕ) → Passed (cell_checks l) → Lies l
unfolding cell_checks
lies l p =
    let h : head_cells + cell_count l ≤ length l = leb-true (head_cells + cell_count l) (length l) search in
    let w = length-words l h in
    record { inside = h; small = rw (← w) (front-passed l p).0.count; words = w }

-- its count fits eight bits where the cells before the words are in range
pub count_small : (l : List ℕ) → head_in_range l ≡ true → cell_count l < header_numbers
unfolding head_in_range
count_small l e =
    let a = (and-true (ltb (get_or l 0 0) 2) _ e).1 in
    let a = (and-true (ltb (get_or l 1 0) 2048) _ a).1 in
    let a = (and-true (ltb (get_or l 2 0) 4096) _ a).1 in
    let a = (and-true (ltb (get_or l 3 0) 2) _ a).1 in
    let a = (and-true (ltb (get_or l 4 0) 128) _ a).1 in
    let a = (and-true (ltb (get_or l 5 0) header_numbers) _ a).1 in
    let a = (and-true (ltb (get_or l 6 0) header_numbers) _ a).1 in
    ltb-true (cell_count l) header_numbers (and-true (ltb (cell_count l) header_numbers) (leb (cell_index l) max_index) a).0

-- the cells behind the record, as the code takes them
pub rest-is : (l : List ℕ) (n : ℕ) → n ≡ cell_count l → take (length l - (head_cells + n)) (drop (head_cells + n) l) ≡ rest l
rest-is l n e = part-all (head_cells + n) l ∙ ap (λ (k : ℕ). drop (head_cells + k) l) e

-- what `check_record` answers
pub front-taken : (l : List ℕ) (clear : Bool) → Passed (cell_checks l) → all_clear (cell_record l).words ≡ clear
    → Some (record { words = record { 0 = cell_count l }; clear = clear }) ≡ front_of l
front-taken l clear p c =
    sym (ap front_from (judge-passes 0 (cell_checks l) (Ok (cell_record l)) p) ∙ ap₂ (λ (n : ℕ) (x : Bool). Some (record { words = record { 0 = n }; clear = x })) (lies l p).words c)

-- clear words fit ten bits
pub clear-below : (ws : List ℕ) → all_clear ws ≡ true → all_below (2 ^ word_bits) ws ≡ true
clear-below [] e = refl
clear-below (w ∷ ws) e =
    let a = and-true (is_clear w) (all_clear ws) e in
    let m = leb-true w most_clear (and-true (leb least_clear w) (leb w most_clear) a.0).1 in
    and_both (lt-ltb w (2 ^ word_bits) (omega arith)) (clear-below ws a.1)

-- the first three checks as one test, and the fourth: where one fails the record is malformed, and where all hold it passes
module _ (l : List ℕ) where
  abbrev pub word_cells : List ℕ
  word_cells = take (cell_count l) (drop head_cells l)

  -- the part that the code takes
  pub words_are : take (head_cells + cell_count l - head_cells) (drop head_cells l) ≡ word_cells
  words_are = let e : head_cells + cell_count l - head_cells ≡ cell_count l = omega arith in ap (λ (n : ℕ). take n (drop head_cells l)) e

  pub no_words : has_words l ≡ false → front_of l ≡ None
  unfolding cell_checks
  no_words e = go (leb head_cells (length l)) (head_in_range l) (leb (head_cells + cell_count l) (length l)) e
    where
      go : (a b c : Bool) → (a && (b && c)) ≡ false
          → front_from (judge 0 ((a, 20) ∷ (b, 20) ∷ (c, 20) ∷ (all_below (2 ^ word_bits) word_cells, 20) ∷ []) (Ok (cell_record l))) ≡ None
      go false b c e = refl
      go true false c e = refl
      go true true false e = refl
      go true true true e = absurd (true≢false e)

  module _ (h : has_words l ≡ true) where
    abbrev three : (leb head_cells (length l) ≡ true) × (head_in_range l ≡ true) × (leb (head_cells + cell_count l) (length l) ≡ true)
    three =
        let a = and-true (leb head_cells (length l)) (head_in_range l && leb (head_cells + cell_count l) (length l)) h in
        let b = and-true (head_in_range l) (leb (head_cells + cell_count l) (length l)) a.1 in
        (a.0, b.0, b.1)

    pub whole-count : cell_count l < header_numbers
    whole-count = count_small l three.1

    pub whole-inside : head_cells + cell_count l ≤ length l
    whole-inside = leb-true (head_cells + cell_count l) (length l) three.2

    whole-passes : all_below (2 ^ word_bits) word_cells ≡ true → Passed (cell_checks l)
    unfolding cell_checks
    whole-passes fit = (three.0, (three.1, (three.2, (fit, tt))))

    pub words-large : all_below (2 ^ word_bits) word_cells ≡ false → front_of l ≡ None
    unfolding cell_checks
    words-large e = rw (three.0, three.1, three.2, e) refl

    pub words-fit : (clear : Bool) → all_below (2 ^ word_bits) word_cells ≡ true → all_clear word_cells ≡ clear → Some (record { words = record { 0 = cell_count l }; clear = clear }) ≡ front_of l
    unfolding cell_record
    words-fit clear fit e = front-taken l clear (whole-passes fit) e

    pub words-clear : all_clear word_cells ≡ true → Some (record { words = record { 0 = cell_count l }; clear = true }) ≡ front_of l
    words-clear e = words-fit true (clear-below word_cells e) e

    -- its words tell whether it is clear
    pub clear-is : is_clear_front (front_of l) ≡ all_clear word_cells
    clear-is = go (all_below (2 ^ word_bits) word_cells) (all_clear word_cells) refl refl
      where
        go : (b c : Bool) → all_below (2 ^ word_bits) word_cells ≡ b → all_clear word_cells ≡ c → is_clear_front (front_of l) ≡ all_clear word_cells
        go b true f e = ap is_clear_front (sym (words-clear e)) ∙ sym e
        go true false f e = ap is_clear_front (sym (words-fit false f e)) ∙ sym e
        go false false f e = ap is_clear_front (words-large f) ∙ sym e

front-record : (ts : Checks) (r : Record) (w : WordCount) (clear : Bool) → front_from (judge 0 ts (Ok r)) ≡ Some (record { words = w; clear = clear })
    → Passed ts × (w.0 ≡ length r.words) × (clear ≡ all_clear r.words)
front-record [] r w clear e =
    let q : ◌≡◌ {A = Front} (record { words = w; clear = clear }) (record { words = record { 0 = length r.words }; clear = all_clear r.words }) = cc in
    (tt, ap (λ (x : Front). x.words.0) q, ap (λ (x : Front). x.clear) q)
front-record ((true, m) ∷ ts) r w clear e = let p = front-record ts r w clear e in ((refl, p.0), p.1, p.2)
front-record ((false, m) ∷ ts) r w clear e = let o : ◌≡◌ {A = ℕ} 0 1 = cc in absurd (omega arith)

-- what its answer says of the record
pub record Taken (l : List ℕ) (w : WordCount) (clear : Bool) : Type 0 where
  pub passed : Passed (cell_checks l)
  pub count : w.0 ≡ cell_count l
  pub told : clear ≡ all_clear (cell_record l).words

pub taken : (l : List ℕ) (w : WordCount) (clear : Bool) → front_of l ≡ Some (record { words = w; clear = clear }) → Taken l w clear
taken l w clear e =
    let p = front-record (cell_checks l) (cell_record l) w clear e in
    record { passed = p.0; count = p.1 ∙ (lies l p.0).words; told = p.2 }

-- a clear record passes its checks, and its words are clear
pub clear-taken : (l : List ℕ) → is_clear_front (front_of l) ≡ true → Passed (cell_checks l) × (all_clear (cell_record l).words ≡ true)
clear-taken l h = go (front_of l) refl h
  where
    go : (f : Option Front) → front_of l ≡ f → is_clear_front f ≡ true → Passed (cell_checks l) × (all_clear (cell_record l).words ≡ true)
    go None e h = absurd (true≢false (sym h))
    go (Some p) e h = let t = taken l p.words p.clear e in (t.passed, sym t.told ∙ h)

-- checks that all give one number give it, whatever the index
all-one-number : {A : Type 0} (i m : ℕ) (ts : Checks) (r : Record) (x : Result A) → Each (λ (t : Bool × ℕ). t.1 ≡ m) ts
    → front_from (judge 0 ts (Ok r)) ≡ None → judge i ts x ≡ refuse m i
all-one-number i m [] r x h e = let o : ◌≡◌ {A = ℕ} 0 1 = cc in absurd (omega arith)
all-one-number i m ((true, k) ∷ ts) r x h e = all-one-number i m ts r x h.1 e
all-one-number i m ((false, k) ∷ ts) r x h e = ap (λ (j : ℕ). refuse j i) h.0

-- a malformed record is refused by 20, whatever follows the checks
pub malformed : {A : Type 0} (i : ℕ) (l : List ℕ) (x : Result A) → front_of l ≡ None → judge i (cell_checks l) x ≡ refuse 20 i
unfolding cell_checks
malformed i l x e = all-one-number i 20 (cell_checks l) (cell_record l) x (refl, (refl, (refl, (refl, tt)))) e
