-- A list of cells is taken exactly when it is the cells of well-formed records.
-- By the record at its front: its checks pass exactly where the cells of a well-formed record stand.
use mathlib.Core.Path.{◌≡◌, refl, ap, ap₂, sym, ◌∙◌, subst}
use mathlib.Core.Bool.{true, ◌&&◌}
use mathlib.Core.Logic.{◌↔◌}
use mathlib.Core.List.{List, [], ◌∷◌, ◌++◌, nil≢cons, append_assoc, cons-eq-cons}
use Prim.Native.Nat.{ℕ, zero, suc, ◌+◌, ◌^◌, ◌≤◌, zero-le}
use native.Mathlib.Nat.{le_refl}
use native.Mathlib.Omega.{arith}
use lib.ListN.{length, take, drop, get_or, length-append, length-drop, take-append-drop}
use lib.Seq.{take-append_seam, drop-append_seam, length-take-le, drop-drop}
use lib.Dec.{leb, ltb}
use borrow.Author.Tests.{leb-true, le-leb, ltb-true, lt-ltb}
use Rattle.wire_spec.specs.Bits.{Below}
use Rattle.wire_spec.specs.Words.{word_bits, header_numbers, all_clear}
use Rattle.wire_spec.specs.Layout.{rfc8331, s_bits, stream_bits}
use Rattle.wire_spec.specs.Result.{Ok, ◌then◌}
use Rattle.wire_spec.specs.Anc.{Record, InRange, WellFormed, Each}
use Rattle.wire_spec.specs.Cells.{head_cells, cells_in, list_in, list_of, max_index, Lists, cell_count, cell_index, cell_record, all_below, head_in_range, cell_checks, rest, records_from, records_in, clear_from, read_list}
use Rattle.wire_spec.specs.Writing.{cells_before, StillFits}
use Rattle.wire_spec.proofs.ListLaws.{drop-run}
use Rattle.wire_spec.proofs.ResultLaws.{Passed, accepted-inj, judge-accepts, judge-passes, then-accepts, and-true, and_both}

-- the test of a bound is the bound
pub below-iff : (b : ℕ) (xs : List ℕ) → (all_below b xs ≡ true) ↔ Below b xs
below-iff b [] = (λ e. tt, λ h. refl)
below-iff b (x ∷ xs) =
    let ih = below-iff b xs in
    (λ e. let a = and-true _ _ e in (ltb-true x b a.0, ih.0 a.1), λ h. and_both (lt-ltb x b h.0) (ih.1 h.1))

nine-cells : (l : List ℕ) → head_cells ≤ length l
    → l ≡ get_or l 0 0 ∷ get_or l 1 0 ∷ get_or l 2 0 ∷ get_or l 3 0 ∷ get_or l 4 0 ∷ get_or l 5 0 ∷ get_or l 6 0 ∷ cell_count l ∷ cell_index l ∷ drop head_cells l
nine-cells l h = drop-run 8 0 0 l h

-- cells that pass start with the cells of their record and index, whose numbers are in range
pub front-passed : (l : List ℕ) → Passed (cell_checks l)
    → InRange rfc8331 (cell_record l) × (cell_index l ≤ max_index) × (l ≡ cells_in (cell_index l) (cell_record l) ++ rest l)
unfolding cell_checks cell_record head_in_range
front-passed l p =
    let n = cell_count l in
    let h9 : head_cells ≤ length l = leb-true head_cells (length l) search in
    let hn : head_cells + n ≤ length l = leb-true (head_cells + n) (length l) search in
    let lw : length (take n (drop head_cells l)) ≡ n = length-take-le n (drop head_cells l) (rw (length-drop head_cells l) (omega arith)) in
    let a0 = and-true (ltb (get_or l 0 0) (2 ^ 1)) _ p.1.0 in
    let a1 = and-true (ltb (get_or l 1 0) (2 ^ 11)) _ a0.1 in
    let a2 = and-true (ltb (get_or l 2 0) (2 ^ 12)) _ a1.1 in
    let a3 = and-true (ltb (get_or l 3 0) (2 ^ s_bits rfc8331)) _ a2.1 in
    let a4 = and-true (ltb (get_or l 4 0) (2 ^ stream_bits rfc8331)) _ a3.1 in
    let a5 = and-true (ltb (get_or l 5 0) header_numbers) _ a4.1 in
    let a6 = and-true (ltb (get_or l 6 0) header_numbers) (ltb n header_numbers && leb (cell_index l) max_index) a5.1 in
    let a7 = and-true (ltb n header_numbers) (leb (cell_index l) max_index) a6.1 in (
      record {
        c = ltb-true _ _ a0.0;
        line = ltb-true _ _ a1.0;
        offset = ltb-true _ _ a2.0;
        s = ltb-true _ _ a3.0;
        stream = ltb-true _ _ a4.0;
        did = ltb-true _ _ a5.0;
        sdid = ltb-true _ _ a6.0;
        count = rw lw (ltb-true _ _ a7.0);
        words = (below-iff (2 ^ word_bits) (take n (drop head_cells l))).0 search;
      },
      leb-true _ _ a7.1,
      rw (lw, ← drop-drop n head_cells l, take-append-drop n (drop head_cells l)) (nine-cells l h9),
    )

-- and the cells of such a record pass, with the record read back and what follows left
pub front_reads : (p : ℕ) (r : Record) (t : List ℕ) → InRange rfc8331 r → p ≤ max_index
    → Passed (cell_checks (cells_in p r ++ t)) × (cell_record (cells_in p r ++ t) ≡ r) × (rest (cells_in p r ++ t) ≡ t)
unfolding cell_checks cell_record head_in_range
front_reads p r t h hp =
    let n = length r.words in
    let w : take n (r.words ++ t) ≡ r.words = take-append_seam r.words t in (
      (
        le-leb head_cells (length (cells_in p r ++ t)) (omega arith),
        (
          and_both (lt-ltb _ _ h.c)
              (and_both (lt-ltb _ _ h.line)
              (and_both (lt-ltb _ _ h.offset)
              (and_both (lt-ltb _ _ h.s)
              (and_both (lt-ltb _ _ h.stream)
              (and_both (lt-ltb _ _ h.did) (and_both (lt-ltb _ _ h.sdid) (and_both (lt-ltb _ _ h.count) (le-leb _ _ hp)))))))),
          (
            le-leb (head_cells + n) (length (cells_in p r ++ t)) (omega (arith, length-append r.words t)),
            (rw w ((below-iff (2 ^ word_bits) r.words).1 h.words), tt),
          ),
        ),
      ),
      λ i. record { c = r.c; line = r.line; offset = r.offset; s = r.s; stream = r.stream; did = r.did; sdid = r.sdid; words = w i },
      sym (drop-drop n head_cells (cells_in p r ++ t)) ∙ drop-append_seam r.words t,
    )

-- with a bound that is large enough, 20 is not given exactly where the cells are those of records in range
pub records-iff : (bound i : ℕ) (l : List ℕ) → length l ≤ bound → (rs : List Record)
    → (records_from bound i l ≡ Ok rs) ↔ (Each (InRange rfc8331) rs × Lists rs l)
unfolding records_from
records-iff zero i [] h [] = (λ e. (tt, refl), λ p. refl)
records-iff zero i [] h (r ∷ rs) = (λ e. absurd (nil≢cons (accepted-inj e)), λ p. absurd (nil≢cons p.1.3))
records-iff zero i (x ∷ l) h rs = absurd (omega arith)
records-iff (suc bound) i [] h [] = (λ e. (tt, refl), λ p. refl)
records-iff (suc bound) i [] h (r ∷ rs) = (λ e. absurd (nil≢cons (accepted-inj e)), λ p. absurd (nil≢cons p.1.3))
records-iff (suc bound) i (x ∷ l) h [] = (
  λ e.
      let a = judge-accepts i (cell_checks (x ∷ l)) _ [] e in
      let b = then-accepts (records_from bound (i + 1) (rest (x ∷ l))) _ [] a.1 in
      absurd (nil≢cons (sym (accepted-inj b.2))),
  λ p. absurd (nil≢cons (sym p.1)),
)
records-iff (suc bound) i (x ∷ l) h (r ∷ rs) =
    let d : length (rest (x ∷ l)) ≤ bound = rw (length-drop (head_cells + cell_count (x ∷ l)) (x ∷ l)) (omega arith) in
    let ih = records-iff bound (i + 1) (rest (x ∷ l)) d rs in (
      λ e.
          let a = judge-accepts i (cell_checks (x ∷ l)) _ (r ∷ rs) e in
          let b = then-accepts (records_from bound (i + 1) (rest (x ∷ l))) _ (r ∷ rs) a.1 in
          let c = cons-eq-cons.0 (accepted-inj b.2) in
          let f = front-passed (x ∷ l) a.0 in
          let more = ih.0 (b.1 ∙ ap Ok c.1) in
          let index = cell_index (x ∷ l) in
          let behind = rest (x ∷ l) in (
            (subst (InRange rfc8331) c.0 f.0, more.0),
            (index, behind, f.1, f.2 ∙ ap (λ (y : Record). cells_in index y ++ behind) c.0, more.1),
          ),
      λ p.
          let q = p.1 in
          let f = subst (λ (y : List ℕ). Passed (cell_checks y) × (cell_record y ≡ r) × (rest y ≡ q.1)) (sym q.3) (front_reads q.0 r q.1 p.0.0 q.2) in
          judge-passes i (cell_checks (x ∷ l)) _ f.0 ∙ rw (ih.1 (p.0.1, subst (Lists rs) (sym f.2) q.4), f.1),
    )

-- 16 is not given exactly where no record has a protected word
abbrev pub Clear : Record → Type 0
Clear r = all_clear r.words ≡ true

pub clear-iff : (i : ℕ) (rs qs : List Record) → (clear_from i rs ≡ Ok qs) ↔ ((rs ≡ qs) × Each Clear qs)
unfolding clear_from
clear-iff i [] [] = (λ e. (refl, tt), λ p. refl)
clear-iff i [] (q ∷ qs) = (λ e. absurd (nil≢cons (accepted-inj e)), λ p. absurd (nil≢cons p.0))
clear-iff i (r ∷ rs) [] = (
  λ e.
      let a = judge-accepts i ((all_clear r.words, 16) ∷ []) _ [] e in
      let b = then-accepts (clear_from (i + 1) rs) _ [] a.1 in
      absurd (nil≢cons (sym (accepted-inj b.2))),
  λ p. absurd (nil≢cons (sym p.0)),
)
clear-iff i (r ∷ rs) (q ∷ qs) =
    let ih = clear-iff (i + 1) rs qs in (
      λ e.
          let a = judge-accepts i ((all_clear r.words, 16) ∷ []) _ (q ∷ qs) e in
          let b = then-accepts (clear_from (i + 1) rs) _ (q ∷ qs) a.1 in
          let c = cons-eq-cons.0 (accepted-inj b.2) in
          let more = ih.0 (b.1 ∙ ap Ok c.1) in
          (ap₂ ◌∷◌ c.0 more.0, (subst Clear c.0 a.0.0, more.1)),
      λ p.
          let c = cons-eq-cons.0 p.0 in
          judge-passes i ((all_clear r.words, 16) ∷ []) _ (subst Clear (sym c.0) p.1.0, tt)
          ∙ ap (λ z. z then λ ys. Ok (r ∷ ys)) (ih.1 (c.1, p.1.1))
          ∙ ap (λ (y : Record). Ok (y ∷ qs)) c.0,
    )

-- well-formed is in range and without protected words
formed-iff : (rs : List Record) → (Each (InRange rfc8331) rs × Each Clear rs) ↔ Each (WellFormed rfc8331) rs
formed-iff [] = (λ p. tt, λ h. (tt, tt))
formed-iff (r ∷ rs) =
    let ih = formed-iff rs in (
      λ p. (record { fits = p.0.0; clear = p.1.0 }, ih.0 (p.0.1, p.1.1)),
      λ h. let m = ih.1 h.1 in ((h.0.fits, m.0), (h.0.clear, m.1)),
    )

-- A LIST is taken exactly when it is the cells of well-formed records, each with an index that is taken
pub list-iff : (l : List ℕ) (rs : List Record) → (read_list l ≡ Ok rs) ↔ (Each (WellFormed rfc8331) rs × Lists rs l)
list-iff l rs = (
  λ e.
      let a = then-accepts (records_in l) _ rs e in
      let p = (records-iff (length l) 0 l (le_refl (length l)) a.0).0 a.1 in
      let c = (clear-iff 0 a.0 rs).0 a.2 in
      ((formed-iff rs).0 (subst (Each (InRange rfc8331)) c.0 p.0, c.1), subst (λ (ys : List Record). Lists ys l) c.0 p.1),
  λ p.
      let f = (formed-iff rs).1 p.0 in
      ap (λ x. x then λ qs. clear_from 0 qs) ((records-iff (length l) 0 l (le_refl (length l)) rs).1 (f.0, p.1)) ∙ (clear-iff 0 rs rs).1 (refl, f.1),
)

-- the cells of the records of one packet are a list of them
pub lists-in : (p : ℕ) → p ≤ max_index → (rs : List Record) → Lists rs (list_in p rs)
lists-in p h [] = refl
lists-in p h (r ∷ rs) = (p, list_in p rs, h, refl, lists-in p h rs)

-- and so are those of a reader, which gives 0
pub lists-own : (rs : List Record) → Lists rs (list_of rs)
lists-own rs = lists-in 0 zero-le rs

-- the ninth cell does not change how many there are
pub length-in : (p : ℕ) (rs : List Record) → length (list_in p rs) ≡ length (list_of rs)
length-in p [] = refl
length-in p (r ∷ rs) = omega (arith, length-append r.words (list_in p rs), length-append r.words (list_of rs), length-in p rs)

pub lists_length : (rs : List Record) (l : List ℕ) → Lists rs l → length l ≡ length (list_of rs)
lists_length [] l h = ap length h
lists_length (r ∷ rs) l h =
    ap length h.3 ∙ omega (arith, length-append r.words h.1, length-append r.words (list_of rs), lists_length rs h.1 h.4)

-- lists one behind the other
pub lists-append : (rs qs : List Record) (l m : List ℕ) → Lists rs l → Lists qs m → Lists (rs ++ qs) (l ++ m)
lists-append [] qs l m h k = subst (λ (x : List ℕ). Lists qs (x ++ m)) (sym h) k
lists-append (r ∷ rs) qs l m h k = (
  h.0,
  h.1 ++ m,
  h.2,
  ap (λ (x : List ℕ). x ++ m) h.3 ∙ append_assoc (cells_in h.0 r) h.1 m,
  lists-append rs qs h.1 m h.4 k,
)

-- a record has one cell more than before
cells-more : (rs : List Record) → length (list_of rs) ≡ cells_before rs + length rs
cells-more [] = refl
cells-more (r ∷ rs) = omega (arith, length-append r.words (list_of rs), cells-more rs)

-- WHAT THE LIMITS ALLOWED STILL FITS
pub still-fits : StillFits
still-fits rs h = (λ n. omega (arith, cells-more rs, h, n), λ n. omega (arith, cells-more rs, h, n))

bounds-agree : (b c i : ℕ) (l : List ℕ) → length l ≤ b → length l ≤ c → records_from b i l ≡ records_from c i l
unfolding records_from
bounds-agree zero zero i l h k = refl
bounds-agree zero (suc c) i [] h k = refl
bounds-agree zero (suc c) i (x ∷ l) h k = absurd (omega arith)
bounds-agree (suc b) zero i [] h k = refl
bounds-agree (suc b) zero i (x ∷ l) h k = absurd (omega arith)
bounds-agree (suc b) (suc c) i [] h k = refl
bounds-agree (suc b) (suc c) i (x ∷ l) h k =
    let e = length-drop (head_cells + cell_count (x ∷ l)) (x ∷ l) in
    rw (bounds-agree b c (i + 1) (rest (x ∷ l)) (rw e (omega arith)) (rw e (omega arith)))

-- any bound that is large enough gives the same
pub records-bound : (b i : ℕ) (l : List ℕ) → length l ≤ b → records_from b i l ≡ records_from (length l) i l
records-bound b i l h = bounds-agree b (length l) i l h (le_refl (length l))
